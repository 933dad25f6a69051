-- What sums and products over the numbers below n share: an operation that is associative and commutative, with a unit.
use Rattle.std.proofs.Common.{◌≡◌, ℕ, zero, suc, ◌+◌, ◌*◌, ◌<◌, cond, eqb, ◌≢◌, sym, refl, ap, ◌∙◌, ap₂, add-zero, add-suc, suc-mul, zero-mul, arith}
use native.Mathlib.Decide.{ℕ_discrete}
use Rattle.std.proofs.lemmas.Bool.{eq-eqb, ne_eqb, cond-true, cond-false}
use Rattle.fields.specs.Field.{Operations, FieldLaws}
use Rattle.algebra.specs.Sums.{fold_below}

pub record Commutative {F : Type 0} (op : F → F → F) (unit : F) : Type 0 where
  pub assoc : (x y z : F) → op (op x y) z ≡ op x (op y z)
  pub comm : (x y : F) → op x y ≡ op y x
  pub op_unit : (x : F) → op x unit ≡ x

pub sums : {F : Type 0} {o : Operations F} → FieldLaws o → Commutative o.sum o.zero
sums L = record { assoc = L.ring.sum_assoc; comm = L.ring.sum_comm; op_unit = L.ring.sum_zero }

pub products : {F : Type 0} {o : Operations F} → FieldLaws o → Commutative o.product o.one
products L = record { assoc = L.ring.product_assoc; comm = L.ring.product_comm; op_unit = L.ring.product_one }

module _ {F : Type 0} {op : F → F → F} {unit : F} (C : Commutative op unit) where
  abbrev fold : ℕ → (ℕ → F) → F
  fold = fold_below op unit

  unit_op : (x : F) → op unit x ≡ x
  unit_op x = C.comm unit x ∙ C.op_unit x

  four : (a b c d : F) → op (op a b) (op c d) ≡ op (op a c) (op b d)
  four a b c d = C.assoc a b (op c d) ∙ ap (op a) (sym (C.assoc b c d) ∙ ap (λ w. op w d) (C.comm b c) ∙ C.assoc c b d) ∙ sym (C.assoc a c (op b d))

  pub fold_same : (n : ℕ) (f g : ℕ → F) → ((i : ℕ) → i < n → f i ≡ g i) → fold n f ≡ fold n g
  fold_same zero f g h = refl
  fold_same (suc n) f g h = ap₂ op (fold_same n f g (λ i l. h i (omega arith))) (h n (omega arith))

  pub fold_units : (n : ℕ) (f : ℕ → F) → ((i : ℕ) → i < n → f i ≡ unit) → fold n f ≡ unit
  fold_units zero f h = refl
  fold_units (suc n) f h = ap₂ op (fold_units n f (λ i l. h i (omega arith))) (h n (omega arith)) ∙ C.op_unit unit

  -- all but one are units
  pub fold_only : (n c : ℕ) (f : ℕ → F) → c < n → ((i : ℕ) → i < n → i ≢ c → f i ≡ unit) → fold n f ≡ f c
  fold_only zero c f l h = absurd (omega arith)
  fold_only (suc n) c f l h = elim (ℕ_discrete n c) [
    | yes e ↦ ap₂ op (fold_units n f (λ i k. h i (omega arith) (omega arith))) (ap f e) ∙ unit_op (f c)
    | no d ↦ ap₂ op (fold_only n c f (omega arith) (λ i k. h i (omega arith))) (h n (omega arith) d) ∙ C.op_unit (f c)
  ]

  -- one, and all the others
  pub fold_skip : (n c : ℕ) (f : ℕ → F) → c < n → op (f c) (fold n (λ j. cond (eqb j c) unit (f j))) ≡ fold n f
  fold_skip zero c f l = absurd (omega arith)
  fold_skip (suc n) c f l = elim (ℕ_discrete n c) [
    | yes e ↦ ap (op (f c)) (ap₂ op (fold_same n _ _ (λ j m. cond-false _ _ _ (ne_eqb j c (omega arith)))) (cond-true _ _ _ (eq-eqb n c e)) ∙ C.op_unit _) ∙ C.comm _ _ ∙ ap (λ w. op (fold n f) (f w)) (sym e)
    | no d ↦ sym (C.assoc _ _ _) ∙ ap₂ op (fold_skip n c f (omega arith)) (cond-false _ _ _ (ne_eqb n c d))
  ]

  pub fold_join : (n : ℕ) (f g : ℕ → F) → fold n (λ i. op (f i) (g i)) ≡ op (fold n f) (fold n g)
  fold_join zero f g = sym (C.op_unit unit)
  fold_join (suc n) f g = ap (λ w. op w (op (f n) (g n))) (fold_join n f g) ∙ four _ _ _ _

  pub fold_swap : (n m : ℕ) (f : ℕ → ℕ → F) → fold n (λ i. fold m (λ j. f i j)) ≡ fold m (λ j. fold n (λ i. f i j))
  fold_swap zero m f = sym (fold_units m (λ j. unit) (λ j l. refl))
  fold_swap (suc n) m f = ap (λ w. op w (fold m (λ j. f n j))) (fold_swap n m f) ∙ sym (fold_join m (λ j. fold n (λ i. f i j)) (f n))

  -- the first m, and the next n
  pub fold_split : (m n : ℕ) (f : ℕ → F) → fold (m + n) f ≡ op (fold m f) (fold n (λ i. f (m + i)))
  fold_split m zero f = rw (add-zero m) (sym (C.op_unit _))
  fold_split m (suc n) f = rw (add-suc m n) (ap (λ w. op w (f (m + n))) (fold_split m n f) ∙ C.assoc _ _ _)

  pub fold_from_first : (n : ℕ) (f : ℕ → F) → fold (suc n) f ≡ op (f 0) (fold n (λ i. f (suc i)))
  fold_from_first zero f = C.comm _ _
  fold_from_first (suc n) f = ap (λ w. op w (f (suc n))) (fold_from_first n f) ∙ C.assoc _ _ _

  -- n blocks of w
  pub fold_blocks : (n w : ℕ) (f : ℕ → F) → fold (n * w) f ≡ fold n (λ b. fold w (λ j. f (b * w + j)))
  fold_blocks zero w f = ap (λ m. fold m f) (zero-mul w)
  fold_blocks (suc n) w f = ap (λ m. fold m f) (suc-mul n w) ∙ fold_split (n * w) w f ∙ ap (λ y. op y (fold w (λ j. f (n * w + j)))) (fold_blocks n w f)

  -- in another order: s is one-to-one on the numbers below n, and r takes back
  pub fold_reindex : (n : ℕ) (s r : ℕ → ℕ) (f : ℕ → F) → ((i : ℕ) → i < n → (s i < n) × (r (s i) ≡ i)) → ((j : ℕ) → j < n → (r j < n) × (s (r j) ≡ j)) → fold n (λ i. f (s i)) ≡ fold n f
  fold_reindex n s r f there back =
      fold_same n _ _ (λ i l. sym (fold_only n (s i) (λ j. at i j) (there i l).0 (λ j m d. cond-false _ _ _ (ne_eqb j (s i) d)) ∙ cond-true _ _ _ (eq-eqb (s i) (s i) refl)))
      ∙ fold_swap n n at
      ∙ fold_same n _ _ (λ j l. fold_only n (r j) (λ i. at i j) (back j l).0 (λ i m d. cond-false _ _ _ (ne_eqb j (s i) (λ e. d (sym (there i m).1 ∙ ap r (sym e))))) ∙ cond-true _ _ _ (eq-eqb j (s (r j)) (sym (back j l).1)))
    where
      at : ℕ → ℕ → F
      at i j = cond (eqb j (s i)) (f j) unit
