-- Interpolation: the polynomial of degree below n through n given values exists, and is the only one.
use Rattle.std.proofs.Common.{◌≡◌, ℕ, ◌+◌, ◌<◌, Bool, true, false, cond, eqb, ◌≢◌, unwrap_or, sym, refl, ap, ◌∙◌}
use native.Mathlib.Decide.{ℕ_discrete}
use Rattle.std.proofs.lemmas.Bool.{eq-eqb, ne_eqb, cond-true, cond-false}
use Rattle.fields.specs.Field.{Operations, FieldLaws}
use Rattle.fields.specs.Rings.{zero_sum, one_product, product_zero, zero_product, sum_product}
use Rattle.algebra.specs.Sums.{sum_below, product_below}
use Rattle.algebra.specs.Quotients.{quotient}
use Rattle.algebra.specs.Polynomials.{Below}
use Rattle.algebra.specs.Interpolation.{Apart, Interpolates, lagrange, interpolation}
use Rattle.algebra.proofs.Divisions.{sum_nonzero, quotient_unique}
use Rattle.algebra.proofs.Sums.{sum_same, sum_only, sum_none, sum_add, sum_scale, sum_split}
use Rattle.algebra.proofs.Products.{product_ones, product_with_zero}
use Rattle.algebra.proofs.Degrees.{degree_same, degree_constant, degree_linear, degree_scale, degree_sum_below, degree_product_skip}
use Rattle.algebra.proofs.Roots.{same_everywhere}

module _ {F : Type 0} {o : Operations F} (L : FieldLaws o) where
  open o use {zero as 𝟘, one as 𝟙, sum as ◌⊕◌, product as ◌⊗◌}

  infixl 30 ◌⊕◌
  infixl 40 ◌⊗◌
  pub bit_product : (b : Bool) (x : F) → cond b 𝟙 𝟘 ⊗ x ≡ cond b x 𝟘
  bit_product true x = one_product L.ring x
  bit_product false x = zero_product L.ring x

  -- factor j of the Lagrange polynomial of point c
  factor : (ℕ → F) → ℕ → ℕ → F → F
  factor t c j x = cond (eqb j c) 𝟙 (quotient o (x ⊕ t j) (t c ⊕ t j))

  factor_self : (t : ℕ → F) (c : ℕ) (x : F) → factor t c c x ≡ 𝟙
  unfolding factor
  factor_self t c x = cond-true _ _ _ (eq-eqb c c refl)

  factor_other : (t : ℕ → F) (c j : ℕ) (x : F) → j ≢ c → factor t c j x ≡ unwrap_or (o.inverse (t c ⊕ t j)) 𝟘 ⊗ (x ⊕ t j)
  unfolding factor
  factor_other t c j x h = cond-false _ _ _ (ne_eqb j c h) ∙ L.ring.product_comm _ _

  factor_one : (t : ℕ → F) (c j : ℕ) → j ≢ c → t c ≢ t j → factor t c j (t c) ≡ 𝟙
  unfolding factor
  factor_one t c j h d = cond-false _ _ _ (ne_eqb j c h) ∙ sym (quotient_unique L _ _ 𝟙 (sum_nonzero L _ _ d) (L.ring.product_one _))

  lagrange_factors : (n : ℕ) (t : ℕ → F) (c : ℕ) (x : F) → lagrange o n t c x ≡ product_below o n (λ j. factor t c j x)
  unfolding factor
  lagrange_factors n t c x = refl

  pub lagrange_degree : (n : ℕ) (t : ℕ → F) (c : ℕ) → c < n → Below o n (lagrange o n t c)
  lagrange_degree n t c l = degree_same L (lagrange_factors n t c) (degree_product_skip L n c (factor t c) l
      (λ i m d. degree_same L (λ x. factor_other t c i x d) (degree_scale L _ (degree_linear L (t i))))
      (degree_same L (factor_self t c) (degree_constant L 0 𝟙)))

  -- one at its own point
  pub lagrange_own : (n : ℕ) (t : ℕ → F) (c : ℕ) → c < n → Apart n t → lagrange o n t c (t c) ≡ 𝟙
  lagrange_own n t c l a = lagrange_factors n t c (t c) ∙ product_ones L n (λ j. factor t c j (t c)) each
    where
      each : (i : ℕ) → i < n → factor t c i (t c) ≡ 𝟙
      each i m = elim (ℕ_discrete i c) [
        | yes e ↦ rw e (factor_self t c (t c))
        | no d ↦ factor_one t c i d (a c i l m (λ e. d (sym e)))
      ]

  -- zero at the other points
  pub lagrange_other : (n : ℕ) (t : ℕ → F) (c i : ℕ) → i < n → i ≢ c → lagrange o n t c (t i) ≡ 𝟘
  lagrange_other n t c i l d = lagrange_factors n t c (t i) ∙ product_with_zero L n i (λ j. factor t c j (t i)) l (factor_other t c i (t i) d ∙ ap (λ w. unwrap_or (o.inverse (t c ⊕ t i)) 𝟘 ⊗ w) (L.ring.sum_self (t i)) ∙ product_zero L.ring _)

  pub interpolation_degree : (n : ℕ) (t y : ℕ → F) → Below o n (interpolation o n t y)
  interpolation_degree n t y = degree_sum_below L n n (λ c x. y c ⊗ lagrange o n t c x) (λ c l. degree_scale L (y c) (lagrange_degree n t c l))

  pub interpolation_at : (n : ℕ) (t y : ℕ → F) (i : ℕ) → i < n → Apart n t → interpolation o n t y (t i) ≡ y i
  interpolation_at n t y i l a =
      sum_only L n i (λ c. y c ⊗ lagrange o n t c (t i)) l (λ c m d. ap (λ w. y c ⊗ w) (lagrange_other n t c i l (λ e. d (sym e))) ∙ product_zero L.ring _)
      ∙ ap (λ w. y i ⊗ w) (lagrange_own n t i l a) ∙ L.ring.product_one _

  pub interpolation_interpolates : (n : ℕ) (t y : ℕ → F) → Apart n t → Interpolates o n t y (interpolation o n t y)
  interpolation_interpolates n t y a = record { degree = interpolation_degree n t y; meets = λ i l. interpolation_at n t y i l a }

  pub interpolation_unique : (n : ℕ) (t y : ℕ → F) (f : F → F) → Apart n t → Interpolates o n t y f → (x : F) → f x ≡ interpolation o n t y x
  interpolation_unique n t y f a i = same_everywhere L n f (interpolation o n t y) t i.degree (interpolation_degree n t y) a (λ j l. i.meets j l ∙ sym (interpolation_at n t y j l a))

  -- a polynomial of degree below n is the interpolation of its values
  pub interpolation_of_values : (n : ℕ) (t : ℕ → F) (f : F → F) → Below o n f → Apart n t → (x : F) → f x ≡ interpolation o n t (λ c. f (t c)) x
  interpolation_of_values n t f b a = interpolation_unique n t (λ c. f (t c)) f a (record { degree = b; meets = λ i l. refl })

  -- an interpolation that agrees with a polynomial of degree below n at n different points has its values
  pub values_agreed : (n : ℕ) (t y : ℕ → F) (f : F → F) (u : ℕ → F) → Below o n f → Apart n t → Apart n u → ((j : ℕ) → j < n → interpolation o n t y (u j) ≡ f (u j)) → (i : ℕ) → i < n → y i ≡ f (t i)
  values_agreed n t y f u b a d h i l = sym (interpolation_at n t y i l a) ∙ same_everywhere L n (interpolation o n t y) f u (interpolation_degree n t y) b d h (t i)

  pub interpolation_same : (n : ℕ) (t y z : ℕ → F) (x : F) → ((i : ℕ) → i < n → y i ≡ z i) → interpolation o n t y x ≡ interpolation o n t z x
  interpolation_same n t y z x h = sum_same L n _ _ (λ c l. ap (λ w. w ⊗ lagrange o n t c x) (h c l))

  pub interpolation_add : (n : ℕ) (t y z : ℕ → F) (x : F) → interpolation o n t (λ i. y i ⊕ z i) x ≡ interpolation o n t y x ⊕ interpolation o n t z x
  interpolation_add n t y z x = sum_same L n _ _ (λ c l. sum_product L.ring (y c) (z c) (lagrange o n t c x)) ∙ sum_add L n _ _

  pub interpolation_scale : (n : ℕ) (t y : ℕ → F) (a x : F) → interpolation o n t (λ i. a ⊗ y i) x ≡ a ⊗ interpolation o n t y x
  interpolation_scale n t y a x = sum_same L n _ _ (λ c l. L.ring.product_assoc a (y c) (lagrange o n t c x)) ∙ sum_scale L n a _

  pub interpolation_zero : (n : ℕ) (t y : ℕ → F) (x : F) → ((i : ℕ) → i < n → y i ≡ 𝟘) → interpolation o n t y x ≡ 𝟘
  interpolation_zero n t y x h = sum_none L n _ (λ c l. ap (λ w. w ⊗ lagrange o n t c x) (h c l) ∙ zero_product L.ring _)

  -- the part of the first m points, and that of the next n
  pub interpolation_split : (m n : ℕ) (t y : ℕ → F) (x : F) → interpolation o (m + n) t y x ≡ sum_below o m (λ c. y c ⊗ lagrange o (m + n) t c x) ⊕ sum_below o n (λ i. y (m + i) ⊗ lagrange o (m + n) t (m + i) x)
  interpolation_split m n t y x = sum_split L m n (λ c. y c ⊗ lagrange o (m + n) t c x)

  -- zero at the first m points
  pub interpolation_after : (m n : ℕ) (t y : ℕ → F) (x : F) → ((c : ℕ) → c < m → y c ≡ 𝟘) → interpolation o (m + n) t y x ≡ sum_below o n (λ i. y (m + i) ⊗ lagrange o (m + n) t (m + i) x)
  interpolation_after m n t y x h =
      interpolation_split m n t y x
      ∙ ap (λ w. w ⊕ sum_below o n (λ i. y (m + i) ⊗ lagrange o (m + n) t (m + i) x)) (sum_none L m _ (λ c l. ap (λ w. w ⊗ lagrange o (m + n) t c x) (h c l) ∙ zero_product L.ring _))
      ∙ zero_sum L.ring _

  -- a polynomial of degree below m + n is what its values at the last n points give, zero being put at the first m, and
  -- what its values at the first m give
  pub two_sums : (m n : ℕ) (t y : ℕ → F) (f : F → F) → Below o (m + n) f → Apart (m + n) t → ((c : ℕ) → c < m → y c ≡ 𝟘) → ((i : ℕ) → i < n → y (m + i) ≡ f (t (m + i))) → (x : F) → f x ≡ interpolation o (m + n) t y x ⊕ sum_below o m (λ c. f (t c) ⊗ lagrange o (m + n) t c x)
  two_sums m n t y f b a first rest x =
      interpolation_of_values (m + n) t f b a x ∙ interpolation_split m n t (λ c. f (t c)) x ∙ L.ring.sum_comm _ _
      ∙ ap (λ w. w ⊕ sum_below o m (λ c. f (t c) ⊗ lagrange o (m + n) t c x)) (sym (interpolation_after m n t y x first ∙ sum_same L n _ _ (λ i l. ap (λ w. w ⊗ lagrange o (m + n) t (m + i) x) (rest i l))))

  -- of bits: the sum of the Lagrange values of the set ones
  pub interpolation_of_bits : (n : ℕ) (t : ℕ → F) (set : ℕ → Bool) (x : F) → interpolation o n t (λ c. cond (set c) 𝟙 𝟘) x ≡ sum_below o n (λ c. cond (set c) (lagrange o n t c x) 𝟘)
  interpolation_of_bits n t set x = sum_same L n _ _ (λ c l. bit_product (set c) (lagrange o n t c x))
