-- Lagrange polynomials over the first 2 ^ k points of a span: by one division, and under shifts of the argument.
use Rattle.std.proofs.Common.{◌≡◌, ℕ, ◌+◌, ◌^◌, ◌<◌, ◌≤◌, cond, eqb, ◌≢◌, sym, ap, ◌∙◌, ap₂}
use native.Mathlib.Decide.{ℕ_discrete}
use lib.Bits.{bit_xor, xor_lt}
use Rattle.std.proofs.lemmas.Bool.{eq-eqb, ne_eqb, cond-true, cond-false}
use Rattle.fields.specs.Field.{Operations, FieldLaws}
use Rattle.fields.specs.Rings.{product_left_comm}
use Rattle.algebra.specs.Sums.{sum_below, product_below}
use Rattle.algebra.specs.Quotients.{quotient}
use Rattle.algebra.specs.Interpolation.{lagrange, interpolation}
use Rattle.algebra.specs.Points.{vanishing}
use Rattle.algebra.specs.Theorems.{Barycentric}
use Rattle.algebra.proofs.Divisions.{sum_nonzero, product_quotient, quotient_unique}
use Rattle.algebra.proofs.Sums.{sum_same, sum_scale}
use Rattle.algebra.proofs.Products.{product_same, product_of_products, product_skip, product_xor}
use Rattle.algebra.proofs.Interpolations.{lagrange_own, lagrange_other}
use Rattle.algebra.proofs.Xors.{xor_above, xor_cancel}
use Rattle.algebra.proofs.Spans.{Spanned, spanned_apart}
use Rattle.algebra.proofs.NonzeroProducts.{other_points_product}

module _ {F : Type 0} {o : Operations F} (L : FieldLaws o) {m : ℕ} {t : ℕ → F} (T : Spanned o m t) (k : ℕ) (fits : k ≤ m) where
  open o use {one as 𝟙, sum as ◌⊕◌, product as ◌⊗◌}

  infixl 30 ◌⊕◌
  infixl 40 ◌⊗◌
  -- no division is left: the product of what it divides by is one
  lagrange_product : (c : ℕ) (x : F) → c < 2 ^ k → lagrange o (2 ^ k) t c x ≡ product_below o (2 ^ k) (λ j. cond (eqb j c) 𝟙 (x ⊕ t j))
  lagrange_product c x l =
      sym (L.ring.product_one _) ∙ ap (λ w. lagrange o (2 ^ k) t c x ⊗ w) (sym (other_points_product L T k c fits l))
      ∙ sym (product_of_products L (2 ^ k) _ _) ∙ product_same L (2 ^ k) _ _ each
    where
      each : (j : ℕ) → j < 2 ^ k → cond (eqb j c) 𝟙 (quotient o (x ⊕ t j) (t c ⊕ t j)) ⊗ cond (eqb j c) 𝟙 (t c ⊕ t j) ≡ cond (eqb j c) 𝟙 (x ⊕ t j)
      each j h = elim (ℕ_discrete j c) [
        | yes e ↦ ap₂ ◌⊗◌ (cond-true _ _ _ (eq-eqb j c e)) (cond-true _ _ _ (eq-eqb j c e)) ∙ L.ring.product_one 𝟙 ∙ sym (cond-true _ _ _ (eq-eqb j c e))
        | no d ↦ ap₂ ◌⊗◌ (cond-false _ _ _ (ne_eqb j c d)) (cond-false _ _ _ (ne_eqb j c d)) ∙ L.ring.product_comm _ _
            ∙ product_quotient L _ _ (sum_nonzero L _ _ (spanned_apart L T k fits c j l h (λ e. d (sym e)))) ∙ sym (cond-false _ _ _ (ne_eqb j c d))
      ]

  -- the factor that the Lagrange polynomial of c leaves out
  pub lagrange_vanishing : (c : ℕ) (x : F) → c < 2 ^ k → (x ⊕ t c) ⊗ lagrange o (2 ^ k) t c x ≡ vanishing o (2 ^ k) t x
  lagrange_vanishing c x l = ap (λ w. (x ⊕ t c) ⊗ w) (lagrange_product c x l) ∙ product_skip L (2 ^ k) c (λ j. x ⊕ t j) l

  -- so it is one quotient, at every x but point c
  pub lagrange_quotient : (c : ℕ) (x : F) → c < 2 ^ k → x ≢ t c → lagrange o (2 ^ k) t c x ≡ quotient o (vanishing o (2 ^ k) t x) (x ⊕ t c)
  lagrange_quotient c x l d = quotient_unique L _ _ _ (sum_nonzero L _ _ d) (lagrange_vanishing c x l)

  -- away from the points, an interpolation takes one product and a sum of quotients
  pub interpolation_barycentric : (y : ℕ → F) (x : F) → ((c : ℕ) → c < 2 ^ k → x ≢ t c) → interpolation o (2 ^ k) t y x ≡ vanishing o (2 ^ k) t x ⊗ sum_below o (2 ^ k) (λ c. quotient o (y c) (x ⊕ t c))
  interpolation_barycentric y x away = sum_same L (2 ^ k) _ _ each ∙ sum_scale L (2 ^ k) _ _
    where
      each : (c : ℕ) → c < 2 ^ k → y c ⊗ lagrange o (2 ^ k) t c x ≡ vanishing o (2 ^ k) t x ⊗ quotient o (y c) (x ⊕ t c)
      each c l = ap (λ w. y c ⊗ w) (lagrange_quotient c x l (away c l)) ∙ product_left_comm L.ring _ _ _

  pub spanned_barycentric : Barycentric o t k
  spanned_barycentric = record {
    own = λ c l. lagrange_own L (2 ^ k) t c l (spanned_apart L T k fits);
    others = λ c j l h d. lagrange_other L (2 ^ k) t c j h d;
    elsewhere = lagrange_quotient;
  }

  -- a shift of x by point d is an exclusive or of c with d
  pub lagrange_shift : (c d : ℕ) (x : F) → c < 2 ^ k → d < 2 ^ k → lagrange o (2 ^ k) t (bit_xor c d) x ≡ lagrange o (2 ^ k) t c (x ⊕ t d)
  lagrange_shift c d x l h =
      lagrange_product (bit_xor c d) x (xor_lt k c d l h) ∙ sym (product_xor L k d (λ j. cond (eqb j (bit_xor c d)) 𝟙 (x ⊕ t j)) h)
      ∙ product_same L (2 ^ k) _ _ (λ j g. each j) ∙ sym (lagrange_product c (x ⊕ t d) l)
    where
      each : (j : ℕ) → cond (eqb (bit_xor j d) (bit_xor c d)) 𝟙 (x ⊕ t (bit_xor j d)) ≡ cond (eqb j c) 𝟙 (x ⊕ t d ⊕ t j)
      each j = elim (ℕ_discrete j c) [
        | yes e ↦ cond-true _ _ _ (eq-eqb _ _ (ap (λ w. bit_xor w d) e)) ∙ sym (cond-true _ _ _ (eq-eqb j c e))
        | no n ↦ cond-false _ _ _ (ne_eqb _ _ (λ e. n (xor_cancel j c d e))) ∙ ap (λ w. x ⊕ w) (T.of_xor j d ∙ L.ring.sum_comm _ _) ∙ sym (L.ring.sum_assoc _ _ _) ∙ sym (cond-false _ _ _ (ne_eqb j c n))
      ]

  -- at the points after the first 2 ^ k, both numbers are shifted
  pub lagrange_after : (c d i : ℕ) → c < 2 ^ k → d < 2 ^ k → lagrange o (2 ^ k) t (bit_xor c d) (t (2 ^ k + i)) ≡ lagrange o (2 ^ k) t c (t (2 ^ k + bit_xor i d))
  lagrange_after c d i l h = lagrange_shift c d (t (2 ^ k + i)) l h ∙ ap (lagrange o (2 ^ k) t c) (sym (T.of_xor (2 ^ k + i) d) ∙ ap t (xor_above k i d h))
