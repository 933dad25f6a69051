-- Roots: a polynomial of degree below n that is zero at n different points is zero, by division by x + root.
use Rattle.std.proofs.Common.{◌≡◌, ℕ, zero, suc, ◌<◌, ◌≤◌, List, [], ◌∷◌, length, get_or, sym, refl, ap, ◌∙◌, ap₂, arith}
use Rattle.fields.specs.Field.{Operations, FieldLaws}
use Rattle.fields.specs.Rings.{zero_sum, product_zero, same_from_sum}
use Rattle.fields.specs.Fields.{zero_factor}
use Rattle.algebra.specs.Polynomials.{value_at, Below}
use Rattle.algebra.specs.Interpolation.{Apart}
use Rattle.algebra.proofs.Identities.{ring}
use Rattle.algebra.proofs.Divisions.{sum_of_same, sum_nonzero}
use Rattle.algebra.proofs.Polynomials.{added, length_added, get_d_added, value_added}
use Rattle.algebra.proofs.Degrees.{degree_add}

-- synthetic division: x · p divided by x + r, where the remainder is left out
abbrev divided : {F : Type 0} → Operations F → F → List F → List F
divided o r [] = []
divided o r (d ∷ ds) = value_at o (d ∷ ds) r ∷ divided o r ds

length_divided : {F : Type 0} (o : Operations F) (r : F) (ds : List F) → length (divided o r ds) ≡ length ds
length_divided o r [] = refl
length_divided o r (d ∷ ds) = ap suc (length_divided o r ds)

module _ {F : Type 0} {o : Operations F} (L : FieldLaws o) where
  open o use {zero as 𝟘, sum as ◌⊕◌, product as ◌⊗◌}

  infixl 30 ◌⊕◌
  infixl 40 ◌⊗◌
  divided_step : (x r d a b q : F) → x ⊗ a ⊕ r ⊗ b ≡ (x ⊕ r) ⊗ q → x ⊗ (d ⊕ x ⊗ a) ⊕ r ⊗ (d ⊕ r ⊗ b) ≡ (x ⊕ r) ⊗ ((d ⊕ r ⊗ b) ⊕ x ⊗ q)
  divided_step x r d a b q h =
      let e : (x ⊕ r) ⊗ ((d ⊕ r ⊗ b) ⊕ x ⊗ q) ≡ (x ⊕ r) ⊗ (d ⊕ r ⊗ b) ⊕ x ⊗ ((x ⊕ r) ⊗ q) = simp (ring, L.ring) in
      sym (e ∙ rw (← h) (simp (ring, L.ring)))

  divided_is : (x r : F) (ds : List F) → x ⊗ value_at o ds x ⊕ r ⊗ value_at o ds r ≡ (x ⊕ r) ⊗ value_at o (divided o r ds) x
  divided_is x r [] = simp (ring, L.ring)
  divided_is x r (d ∷ ds) = divided_step x r d (value_at o ds x) (value_at o ds r) (value_at o (divided o r ds) x) (divided_is x r ds)

  -- p over x + r, for a root r of p
  pub root_divides : (c : F) (cs : List F) (r x : F) → value_at o (c ∷ cs) r ≡ 𝟘 → value_at o (c ∷ cs) x ≡ (x ⊕ r) ⊗ value_at o (divided o r cs) x
  root_divides c cs r x h = ap (λ w. w ⊕ x ⊗ value_at o cs x) (same_from_sum L.ring _ _ h) ∙ L.ring.sum_comm _ _ ∙ divided_is x r cs

  abbrev Zeros : List F → Type 0
  Zeros [] = Unit {0}
  Zeros (c ∷ cs) = (c ≡ 𝟘) × Zeros cs

  zeros_value : (p : List F) → Zeros p → (x : F) → value_at o p x ≡ 𝟘
  zeros_value [] z x = refl
  zeros_value (c ∷ cs) (e, z) x = ap₂ (λ v w. v ⊕ x ⊗ w) e (zeros_value cs z x) ∙ zero_sum L.ring _ ∙ product_zero L.ring x

  zeros_at : (p : List F) → Zeros p → (i : ℕ) → get_or p i 𝟘 ≡ 𝟘
  zeros_at [] z i = refl
  zeros_at (c ∷ cs) (e, z) zero = e
  zeros_at (c ∷ cs) (e, z) (suc i) = zeros_at cs z i

  zeros_cons : (c r : F) (cs : List F) → value_at o (c ∷ cs) r ≡ 𝟘 → Zeros cs → Zeros (c ∷ cs)
  zeros_cons c r cs e z = (sym (L.ring.sum_zero c) ∙ ap (λ w. c ⊕ w) (sym (ap (λ w. r ⊗ w) (zeros_value cs z r) ∙ product_zero L.ring r)) ∙ e, z)

  zeros_undivided : (r : F) (p : List F) → Zeros (divided o r p) → Zeros p
  zeros_undivided r [] z = tt
  zeros_undivided r (c ∷ cs) (e, z) = zeros_cons c r cs e (zeros_undivided r cs z)

  roots_zeros : (n : ℕ) (p : List F) (t : ℕ → F) → length p ≤ n → Apart n t → ((i : ℕ) → i < n → value_at o p (t i) ≡ 𝟘) → Zeros p
  roots_zeros zero [] t l a h = tt
  roots_zeros zero (c ∷ cs) t l a h = absurd (omega arith)
  roots_zeros (suc n) [] t l a h = tt
  roots_zeros (suc n) (c ∷ cs) t l a h =
      zeros_cons c (t n) cs (h n (omega arith)) (zeros_undivided (t n) cs (roots_zeros n (divided o (t n) cs) t (rw length_divided (omega arith)) (λ i j k m. a i j (omega arith) (omega arith)) down))
    where
      down : (i : ℕ) → i < n → value_at o (divided o (t n) cs) (t i) ≡ 𝟘
      down i k = zero_factor L _ _ (sum_nonzero L _ _ (a i n (omega arith) (omega arith) (omega arith))) (sym (root_divides c cs (t n) (t i) (h n (omega arith))) ∙ h i (omega arith))

  -- at most n coefficients and n different roots: every coefficient is zero
  pub coefficients_zero : (n : ℕ) (p : List F) (t : ℕ → F) → length p ≤ n → Apart n t → ((i : ℕ) → i < n → value_at o p (t i) ≡ 𝟘) → (i : ℕ) → get_or p i 𝟘 ≡ 𝟘
  coefficients_zero n p t l a h = zeros_at p (roots_zeros n p t l a h)

  -- at most n coefficients and the same values at n different points: the same coefficients
  pub coefficients_same : (n : ℕ) (p q : List F) (t : ℕ → F) → length p ≤ n → length q ≤ n → Apart n t → ((i : ℕ) → i < n → value_at o p (t i) ≡ value_at o q (t i)) → (i : ℕ) → get_or p i 𝟘 ≡ get_or q i 𝟘
  coefficients_same n p q t l m a h i = same_from_sum L.ring _ _ (sym (get_d_added L p q i) ∙ coefficients_zero n (added o p q) t (length_added o p q n l m) a (λ j k. value_added L p q (t j) ∙ sum_of_same L _ _ (h j k)) i)

  -- degree below n and n different roots: zero everywhere
  pub zero_everywhere : (n : ℕ) (f : F → F) (t : ℕ → F) → Below o n f → Apart n t → ((i : ℕ) → i < n → f (t i) ≡ 𝟘) → (x : F) → f x ≡ 𝟘
  zero_everywhere n f t b a h x = b.is_value x ∙ zeros_value b.coefficients (roots_zeros n b.coefficients t b.short a (λ i l. sym (b.is_value (t i)) ∙ h i l)) x

  -- degree below n and equal at n different points: equal everywhere
  pub same_everywhere : (n : ℕ) (f g : F → F) (t : ℕ → F) → Below o n f → Below o n g → Apart n t → ((i : ℕ) → i < n → f (t i) ≡ g (t i)) → (x : F) → f x ≡ g x
  same_everywhere n f g t b c a h x = same_from_sum L.ring _ _ (zero_everywhere n (λ y. f y ⊕ g y) t (degree_add L b c) a (λ i l. sum_of_same L _ _ (h i l)) x)
