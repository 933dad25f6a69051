-- The product of the nonzero points of a span is one, and so is that of the sums of one point with each other one:
-- the derivative of the vanishing polynomial is one at each point.
use Rattle.std.proofs.Common.{◌≡◌, ℕ, zero, suc, ◌+◌, ◌-◌, ◌^◌, ◌<◌, ◌≤◌, cond, eqb, sym, ap, ◌∙◌, ap₂, arith, pow_pos}
use native.Mathlib.Decide.{ℕ_discrete}
use lib.Bits.{bit_xor, xor_self}
use lib.Pow.{suc_ones}
use Rattle.std.proofs.lemmas.Bool.{eq-eqb, ne_eqb, cond-true, cond-false}
use Rattle.fields.specs.Field.{Operations, FieldLaws}
use Rattle.fields.specs.Rings.{one_product}
use Rattle.algebra.specs.Sums.{product_below}
use Rattle.algebra.specs.Points.{nonzero_product}
use Rattle.algebra.proofs.Divisions.{equals_different}
use Rattle.algebra.proofs.Products.{product_same, product_halves, product_from_first, product_xor}
use Rattle.algebra.proofs.Xors.{same_from_xor}
use Rattle.algebra.proofs.Spans.{Spanned, spanned_zero, spanned_top, zero_point, vanishing_is_phi_power, phi_power_top}

module _ {F : Type 0} {o : Operations F} (L : FieldLaws o) where
  open o use {zero as 𝟘, one as 𝟙, sum as ◌⊕◌, product as ◌⊗◌}

  infixl 30 ◌⊕◌
  infixl 40 ◌⊗◌
  module _ {m : ℕ} {t : ℕ → F} (T : Spanned o m t) where
    -- the points but point 0, by their numbers
    skip_zero_product : (k : ℕ) → k ≤ m → product_below o (2 ^ k) (λ j. cond (eqb j 0) 𝟙 (t j)) ≡ 𝟙
    skip_zero_product zero l = L.ring.product_one 𝟙
    skip_zero_product (suc k) l =
        let upper : (j : ℕ) → j < 2 ^ k → cond (eqb (2 ^ k + j) 0) 𝟙 (t (2 ^ k + j)) ≡ t (2 ^ k) ⊕ t j =
        λ j h. cond-false _ _ _ (ne_eqb (2 ^ k + j) 0 (λ e. let p : 0 < 2 ^ k = pow_pos k in omega arith)) ∙ spanned_top L T k j h in
        product_halves L k (λ j. cond (eqb j 0) 𝟙 (t j))
        ∙ ap₂ ◌⊗◌ (skip_zero_product k (omega arith)) (product_same L (2 ^ k) _ _ upper ∙ vanishing_is_phi_power L T k (omega arith) (t (2 ^ k)) ∙ phi_power_top L T k l)
        ∙ L.ring.product_one 𝟙

    nonzero_skip_zero : (k : ℕ) → k ≤ m → nonzero_product o (2 ^ k) t ≡ product_below o (2 ^ k) (λ j. cond (eqb j 0) 𝟙 (t j))
    nonzero_skip_zero k l = product_same L (2 ^ k) _ _ each
      where
        each : (j : ℕ) → j < 2 ^ k → cond (o.equals (t j) 𝟘) 𝟙 (t j) ≡ cond (eqb j 0) 𝟙 (t j)
        each j h = elim (ℕ_discrete j 0) [
          | yes e ↦ cond-true _ _ _ (ap (λ w. o.equals w 𝟘) (ap t e ∙ spanned_zero L T) ∙ L.equals_same 𝟘) ∙ sym (cond-true _ _ _ (eq-eqb j 0 e))
          | no d ↦ cond-false _ _ _ (equals_different L (t j) 𝟘 (λ e. d (zero_point L T k j l h e))) ∙ sym (cond-false _ _ _ (ne_eqb j 0 d))
        ]

    pub nonzero_product_one : (k : ℕ) → k ≤ m → nonzero_product o (2 ^ k) t ≡ 𝟙
    nonzero_product_one k l = nonzero_skip_zero k l ∙ skip_zero_product k l

    -- it is the product of points 1 to 2 ^ k - 1
    pub nonzero_product_from_one : (k : ℕ) → k ≤ m → nonzero_product o (2 ^ k) t ≡ product_below o (2 ^ k - 1) (λ j. t (suc j))
    nonzero_product_from_one k l =
        nonzero_skip_zero k l ∙ ap (λ n. product_below o n (λ j. cond (eqb j 0) 𝟙 (t j))) (sym (suc_ones k))
        ∙ product_from_first L (2 ^ k - 1) _ ∙ one_product L.ring _ ∙ product_same L (2 ^ k - 1) _ _ (λ j h. cond-false _ _ _ (ne_eqb (suc j) 0 (omega arith)))

    -- the derivative at point c
    pub other_points_product : (k c : ℕ) → k ≤ m → c < 2 ^ k → product_below o (2 ^ k) (λ j. cond (eqb j c) 𝟙 (t c ⊕ t j)) ≡ 𝟙
    other_points_product k c l h = product_same L (2 ^ k) _ _ (λ j g. each j) ∙ product_xor L k c (λ j. cond (eqb j 0) 𝟙 (t j)) h ∙ skip_zero_product k l
      where
        each : (j : ℕ) → cond (eqb j c) 𝟙 (t c ⊕ t j) ≡ cond (eqb (bit_xor j c) 0) 𝟙 (t (bit_xor j c))
        each j = elim (ℕ_discrete j c) [
          | yes e ↦ cond-true _ _ _ (eq-eqb j c e) ∙ sym (cond-true _ _ _ (eq-eqb (bit_xor j c) 0 (ap (λ w. bit_xor w c) e ∙ xor_self c)))
          | no d ↦ cond-false _ _ _ (ne_eqb j c d) ∙ L.ring.sum_comm _ _ ∙ sym (T.of_xor j c) ∙ sym (cond-false _ _ _ (ne_eqb (bit_xor j c) 0 (λ z. d (same_from_xor j c z))))
        ]
