-- What an embedding of fields keeps: zero, differences, quotients, sums, products, polynomials, points, vanishing
-- polynomials and interpolation.
use Rattle.std.proofs.Common.{◌≡◌, ℕ, zero, suc, ◌<◌, Bool, true, false, cond, eqb, ◌≢◌, List, [], ◌∷◌, map, sym, refl, ap, ◌∙◌, ap₂, inl, inr}
use native.Mathlib.Decide.{ℕ_discrete}
use lib.ListN.{length-map}
use Rattle.std.proofs.lemmas.Bool.{eq-eqb, ne_eqb, cond-true, cond-false}
use Rattle.fields.specs.Field.{Operations, FieldLaws}
use Rattle.fields.specs.Tower.{Level, LevelLaws, width, phi, bit_set}
use Rattle.fields.specs.Rings.{zero_product}
use Rattle.fields.specs.Fields.{same_or_not}
use Rattle.algebra.specs.Sums.{sum_below, product_below, sum_over, bit_sum}
use Rattle.algebra.specs.Quotients.{quotient}
use Rattle.algebra.specs.Polynomials.{value_at, Below}
use Rattle.algebra.specs.Interpolation.{Apart, lagrange, interpolation}
use Rattle.algebra.specs.Points.{point, phi_power, vanishing}
use Rattle.fields.specs.Extension.{Keeps}
use Rattle.algebra.proofs.Divisions.{sum_of_same, sum_nonzero, product_quotient, quotient_unique}
use Rattle.algebra.proofs.Sums.{sum_same}
use Rattle.algebra.proofs.Products.{product_same}
use Rattle.algebra.proofs.Degrees.{degree_value}
use Rattle.algebra.proofs.Spans.{Spanned, points_spanned}

-- a field is embedded in itself
pub identity_embeds : {F : Type 0} (o : Operations F) → Keeps o o (λ x. x)
identity_embeds o = record { one = refl; sum = λ x y. refl; product = λ x y. refl }

module _ {F E : Type 0} {o : Operations F} {p : Operations E} {e : F → E} (L : FieldLaws o) (M : FieldLaws p) (H : Keeps o p e) where
  open o use {zero as 𝟘, one as 𝟙, sum as ◌⊕◌, product as ◌⊗◌}

  infixl 30 ◌⊕◌
  infixl 40 ◌⊗◌
  pub embed_zero : e 𝟘 ≡ p.zero
  embed_zero = ap e (sym (L.ring.sum_self 𝟘)) ∙ H.sum 𝟘 𝟘 ∙ M.ring.sum_self (e 𝟘)

  pub embed_nonzero : (x : F) → x ≢ 𝟘 → e x ≢ p.zero
  embed_nonzero x d z =
      let i = L.inverse_some x d in
      M.one_not_zero (sym H.one ∙ ap e (sym i.2) ∙ H.product x i.0 ∙ ap (λ w. p.product w (e i.0)) z ∙ zero_product M.ring _)

  pub embed_different : (x y : F) → x ≢ y → e x ≢ e y
  embed_different x y d z = embed_nonzero (x ⊕ y) (sum_nonzero L x y d) (H.sum x y ∙ sum_of_same M _ _ z)

  pub embed_injective : (x y : F) → e x ≡ e y → x ≡ y
  embed_injective x y z = elim (same_or_not L x y) [ inl h ↦ h | inr d ↦ absurd (embed_different x y d z) ]

  pub embed_apart : (n : ℕ) (t : ℕ → F) → Apart n t → Apart n (λ i. e (t i))
  embed_apart n t a i j l m d = embed_different (t i) (t j) (a i j l m d)

  pub embed_quotient : (x y : F) → y ≢ 𝟘 → e (quotient o x y) ≡ quotient p (e x) (e y)
  embed_quotient x y d = quotient_unique M (e x) (e y) _ (embed_nonzero y d) (sym (H.product y _) ∙ ap e (product_quotient L x y d))

  pub embed_sum_below : (n : ℕ) (f : ℕ → F) → e (sum_below o n f) ≡ sum_below p n (λ i. e (f i))
  embed_sum_below zero f = embed_zero
  embed_sum_below (suc n) f = H.sum _ _ ∙ ap (λ w. p.sum w (e (f n))) (embed_sum_below n f)

  pub embed_product_below : (n : ℕ) (f : ℕ → F) → e (product_below o n f) ≡ product_below p n (λ i. e (f i))
  embed_product_below zero f = H.one
  embed_product_below (suc n) f = H.product _ _ ∙ ap (λ w. p.product w (e (f n))) (embed_product_below n f)

  pub embed_sum_over : {X : Type 0} (f : X → F) (xs : List X) → e (sum_over o f xs) ≡ sum_over p (λ x. e (f x)) xs
  embed_sum_over f [] = embed_zero
  embed_sum_over f (x ∷ xs) = H.sum _ _ ∙ ap (p.sum (e (f x))) (embed_sum_over f xs)

  embed_cond : (b : Bool) (x : F) → e (cond b x 𝟘) ≡ cond b (e x) p.zero
  embed_cond true x = refl
  embed_cond false x = embed_zero

  pub embed_bit_sum : (n : ℕ) (v : ℕ → F) (j : ℕ) → e (bit_sum o n v j) ≡ bit_sum p n (λ r. e (v r)) j
  embed_bit_sum n v j = embed_sum_below n _ ∙ sum_same M n _ _ (λ r l. embed_cond (bit_set j r) (v r))

  -- a polynomial's image has the images of its coefficients
  pub embed_value : (c : List F) (x : F) → e (value_at o c x) ≡ value_at p (map e c) (e x)
  embed_value [] x = embed_zero
  embed_value (c ∷ cs) x = H.sum _ _ ∙ ap (p.sum (e c)) (H.product _ _ ∙ ap (p.product (e x)) (embed_value cs x))

  -- a polynomial of degree below n over F has one over E that extends it
  pub embed_below : {n : ℕ} {f : F → F} → Below o n f → (g : E → E) × Below p n g × ((x : F) → e (f x) ≡ g (e x))
  embed_below b = (value_at p (map e b.coefficients), degree_value M (map e b.coefficients) (rw length-map b.short), λ x. ap e (b.is_value x) ∙ embed_value b.coefficients x)

  pub embed_phi : (x : F) → e (phi o x) ≡ phi p (e x)
  embed_phi x = H.sum _ _ ∙ ap (λ w. p.sum w (e x)) (H.product x x)

  pub embed_phi_power : (k : ℕ) (x : F) → e (phi_power o k x) ≡ phi_power p k (e x)
  embed_phi_power zero x = refl
  embed_phi_power (suc k) x = embed_phi (phi_power o k x) ∙ ap (phi p) (embed_phi_power k x)

  -- so all that holds of the points of a span holds of their images
  pub embed_spanned : {m : ℕ} {t : ℕ → F} → Spanned o m t → Spanned p m (λ j. e (t j))
  embed_spanned T = record {
    of_xor = λ i j. ap e (T.of_xor i j) ∙ H.sum _ _;
    of_one = ap e T.of_one ∙ H.one;
    of_half = λ j l. sym (embed_phi _) ∙ ap e (T.of_half j l);
  }

  pub embedded_points_spanned : {l : Level F} → LevelLaws o l → Spanned p (width l) (λ j. e (point o l j))
  embedded_points_spanned V = embed_spanned (points_spanned L V)

  pub embed_vanishing : (n : ℕ) (t : ℕ → F) (x : F) → e (vanishing o n t x) ≡ vanishing p n (λ j. e (t j)) (e x)
  embed_vanishing n t x = embed_product_below n _ ∙ product_same M n _ _ (λ j l. H.sum x (t j))

  pub embed_lagrange : (n : ℕ) (t : ℕ → F) (c : ℕ) (x : F) → c < n → Apart n t → e (lagrange o n t c x) ≡ lagrange p n (λ i. e (t i)) c (e x)
  embed_lagrange n t c x l a = embed_product_below n _ ∙ product_same M n _ _ each
    where
      each : (j : ℕ) → j < n → e (cond (eqb j c) 𝟙 (quotient o (x ⊕ t j) (t c ⊕ t j))) ≡ cond (eqb j c) p.one (quotient p (p.sum (e x) (e (t j))) (p.sum (e (t c)) (e (t j))))
      each j m = elim (ℕ_discrete j c) [
        | yes d ↦ ap e (cond-true _ _ _ (eq-eqb j c d)) ∙ H.one ∙ sym (cond-true _ _ _ (eq-eqb j c d))
        | no d ↦ ap e (cond-false _ _ _ (ne_eqb j c d)) ∙ embed_quotient _ _ (sum_nonzero L _ _ (a c j l m (λ z. d (sym z)))) ∙ ap₂ (quotient p) (H.sum _ _) (H.sum _ _) ∙ sym (cond-false _ _ _ (ne_eqb j c d))
      ]

  pub embed_interpolation : (n : ℕ) (t y : ℕ → F) (x : F) → Apart n t → e (interpolation o n t y x) ≡ interpolation p n (λ i. e (t i)) (λ i. e (y i)) (e x)
  embed_interpolation n t y x a = embed_sum_below n _ ∙ sum_same M n _ _ (λ c l. H.product _ _ ∙ ap (p.product (e (y c))) (embed_lagrange n t c x l a))
