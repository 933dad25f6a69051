-- Degrees: which sums, multiples and products are polynomials of degree below n.
use Rattle.std.proofs.Common.{◌≡◌, ℕ, zero, suc, ◌+◌, ◌-◌, ◌*◌, ◌^◌, ◌<◌, ◌≤◌, ◌≢◌, List, [], ◌∷◌, length, sym, refl, ap, ◌∙◌, ap₂, le_trans, mul-le-mul_right, arith, pow_pos, pow_mono, pow-add}
use native.Mathlib.Decide.{ℕ_discrete}
use lib.Pow.{suc_ones}
use Rattle.fields.specs.Field.{Operations, FieldLaws}
use Rattle.fields.specs.Rings.{product_zero, one_product}
use Rattle.algebra.specs.Sums.{sum_below, product_below, sum_over}
use Rattle.algebra.specs.Polynomials.{value_at, Below}
use Rattle.algebra.proofs.Identities.{ring}
use Rattle.algebra.proofs.Polynomials.{added, scaled, multiplied, length_added, length_scaled, length_multiplied, value_added, value_scaled, value_multiplied}

-- d factors of degree below 2 ^ k, d at most 2 ^ e, have a product of degree below 2 ^ m for m from k + e on
pub degree_admitted : (d e k m : ℕ) → d ≤ 2 ^ e → k + e ≤ m → d * (2 ^ k - 1) < 2 ^ m
degree_admitted d e k m h l = within d (2 ^ e) (2 ^ k - 1) (2 ^ m) (mul-le-mul_right (2 ^ k - 1) h) (pow_pos e) (rw (suc_ones k, ← pow-add 2 k e) (pow_mono l))
  where
    within : (a b w n : ℕ) → a * w ≤ b * w → 0 < b → suc w * b ≤ n → a * w < n
    within a b w n p q r = omega arith

module _ {F : Type 0} {o : Operations F} (L : FieldLaws o) where
  open o use {zero as 𝟘, one as 𝟙, sum as ◌⊕◌, product as ◌⊗◌}

  infixl 30 ◌⊕◌
  infixl 40 ◌⊗◌
  pub degree_more : {n m : ℕ} {f : F → F} → n ≤ m → Below o n f → Below o m f
  degree_more l b = record { coefficients = b.coefficients; short = le_trans b.short l; is_value = b.is_value }

  pub degree_same : {n : ℕ} {f g : F → F} → ((x : F) → g x ≡ f x) → Below o n f → Below o n g
  degree_same e b = record { coefficients = b.coefficients; short = b.short; is_value = λ x. e x ∙ b.is_value x }

  pub degree_value : {n : ℕ} (p : List F) → length p ≤ n → Below o n (value_at o p)
  degree_value p l = record { coefficients = p; short = l; is_value = λ x. refl }

  pub degree_zero : {n : ℕ} → Below o n (λ x. 𝟘)
  degree_zero = record { coefficients = []; short = omega arith; is_value = λ x. refl }

  pub degree_constant : (n : ℕ) (c : F) → Below o (suc n) (λ x. c)
  degree_constant n c = record { coefficients = c ∷ []; short = omega arith; is_value = λ x. sym (ap (λ w. c ⊕ w) (product_zero L.ring x) ∙ L.ring.sum_zero c) }

  linear : (c x : F) → x ⊕ c ≡ c ⊕ x ⊗ (𝟙 ⊕ x ⊗ 𝟘)
  linear c x = simp (ring, L.ring)

  pub degree_linear : (c : F) → Below o 2 (λ x. x ⊕ c)
  degree_linear c = record { coefficients = c ∷ 𝟙 ∷ []; short = omega arith; is_value = linear c }

  pub degree_add : {n : ℕ} {f g : F → F} → Below o n f → Below o n g → Below o n (λ x. f x ⊕ g x)
  degree_add b c = record {
    coefficients = added o b.coefficients c.coefficients;
    short = length_added o b.coefficients c.coefficients _ b.short c.short;
    is_value = λ x. ap₂ ◌⊕◌ (b.is_value x) (c.is_value x) ∙ sym (value_added L b.coefficients c.coefficients x);
  }

  pub degree_scale : {n : ℕ} {f : F → F} (a : F) → Below o n f → Below o n (λ x. a ⊗ f x)
  degree_scale a b = record {
    coefficients = scaled o a b.coefficients;
    short = rw length_scaled b.short;
    is_value = λ x. ap (λ w. a ⊗ w) (b.is_value x) ∙ sym (value_scaled L a b.coefficients x);
  }

  pub degree_product : {n m : ℕ} {f g : F → F} → Below o (suc n) f → Below o (suc m) g → Below o (suc (n + m)) (λ x. f x ⊗ g x)
  degree_product b c = record {
    coefficients = multiplied o b.coefficients c.coefficients;
    short = length_multiplied o b.coefficients c.coefficients _ _ b.short c.short;
    is_value = λ x. ap₂ ◌⊗◌ (b.is_value x) (c.is_value x) ∙ sym (value_multiplied L b.coefficients c.coefficients x);
  }

  pub degree_sum_below : (n k : ℕ) (f : ℕ → F → F) → ((i : ℕ) → i < k → Below o n (f i)) → Below o n (λ x. sum_below o k (λ i. f i x))
  degree_sum_below n zero f h = degree_zero
  degree_sum_below n (suc k) f h = degree_add (degree_sum_below n k f (λ i l. h i (omega arith))) (h k (omega arith))

  pub degree_sum_over : {X : Type 0} (n : ℕ) (f : X → F → F) (xs : List X) → ((a : X) → Below o n (f a)) → Below o n (λ x. sum_over o (λ a. f a x) xs)
  degree_sum_over n f [] h = degree_zero
  degree_sum_over n f (a ∷ xs) h = degree_add (h a) (degree_sum_over n f xs h)

  -- k factors of degree at most d
  pub degree_product_below : (d k : ℕ) (f : ℕ → F → F) → ((i : ℕ) → i < k → Below o (suc d) (f i)) → Below o (suc (k * d)) (λ x. product_below o k (λ i. f i x))
  degree_product_below d zero f h = degree_more (omega arith) (degree_constant 0 𝟙)
  degree_product_below d (suc k) f h = degree_more (omega arith) (degree_product (degree_product_below d k f (λ i l. h i (omega arith))) (h k (omega arith)))

  -- n factors, one of them a constant and the others linear
  pub degree_product_skip : (n c : ℕ) (f : ℕ → F → F) → c < n → ((i : ℕ) → i < n → i ≢ c → Below o 2 (f i)) → Below o 1 (f c) → Below o n (λ x. product_below o n (λ i. f i x))
  degree_product_skip zero c f l h k = absurd (omega arith)
  degree_product_skip (suc zero) c f l h k = let e : zero ≡ c = omega arith in degree_same (λ x. one_product L.ring (f zero x)) (rw e k)
  degree_product_skip (suc (suc n)) c f l h k = elim (ℕ_discrete (suc n) c) [
    | yes e ↦ degree_more (omega arith) (degree_product {m = 0} (degree_more {m = suc (suc n)} (omega arith) (degree_product_below 1 (suc n) f (λ i m. h i (omega arith) (omega arith)))) (rw e k))
    | no d ↦ degree_more (omega arith) (degree_product (degree_product_skip (suc n) c f (omega arith) (λ i m. h i (omega arith)) k) (h (suc n) (omega arith) d))
  ]
