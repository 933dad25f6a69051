-- The points of any number of dimensions. From the number of basis elements on every element is a
-- point, and points repeat; the vanishing polynomial and the product of the nonzero points stay what
-- they are below it.
use Rattle.std.proofs.Common.{◌≡◌, ℕ, zero, suc, ◌+◌, ◌^◌, ◌<◌, ◌≤◌, true, cond, ltb, Some, unwrap_or, fold, sym, ap, ◌∙◌, subst, ap₂, inl, inr, lt_of_lt_of_le, arith, pow_pos, pow_mono}
use mathlib.Core.Logic.{∥∥₁_elim}
use native.Mathlib.Decide.{ℕ_discrete}
use lib.Pow.{pow-lt}
use Rattle.std.specs.List.{range_with_len}
use Rattle.std.proofs.lemmas.Bool.{cases_lt, ltb-true}
use Rattle.fields.specs.Field.{Operations, FieldLaws}
use Rattle.fields.specs.Tower.{Level, LevelLaws, width, phi, cantor}
use Rattle.fields.specs.Fields.{same_or_not}
use Rattle.fields.specs.Levels.{phi_zero}
use Rattle.algebra.specs.Points.{basis_element_or_zero, point, phi_power, vanishing, nonzero_product}
use Rattle.algebra.specs.Theorems.{Vanishes}
use Rattle.algebra.proofs.BitSums.{bit_sum_power}
use Rattle.algebra.proofs.NonzeroProducts.{nonzero_product_one}
use Rattle.algebra.proofs.Points.{basis_none, point_bits}
use Rattle.algebra.proofs.Products.{product_same, product_halves}
use Rattle.algebra.proofs.Spans.{points_spanned, spanned_injective, spanned_top, vanishing_zero_at, vanishing_zero_only, vanishing_is_phi_power, phi_power_top}
use Rattle.skip_domain.specs.Domains.{Room, ZeroExactlyOn}
use Rattle.skip_domain.proofs.Places.{none_left_out}

-- where a polynomial is known to vanish at those points alone
pub vanishes_exactly_on : {F : Type 0} {o : Operations F} {t : ℕ → F} {k : ℕ} {x r : F} → Vanishes o t k → r ≡ vanishing o (2 ^ k) t x → ZeroExactlyOn o (2 ^ k) t x r
vanishes_exactly_on {o = o} {t} {k} {x} v e = record { there = λ j h q. e ∙ ap (vanishing o (2 ^ k) t) q ∙ v.at_points j h; only_there = λ z. v.only_there x (sym e ∙ z) }

module _ {F : Type 0} {o : Operations F} {l : Level F} (L : FieldLaws o) (V : LevelLaws o l) where
  open o use {zero as 𝟘, one as 𝟙, sum as ◌⊕◌, product as ◌⊗◌}

  infixl 30 ◌⊕◌
  infixl 40 ◌⊗◌
  -- a number with one bit
  pub point_basis : (r : ℕ) → point o l (2 ^ r) ≡ basis_element_or_zero o l r
  point_basis r =
      let h : r < suc r = omega arith in
      point_bits L V (suc r) (2 ^ r) (pow-lt h) ∙ bit_sum_power L (suc r) (basis_element_or_zero o l) r h

  -- the top bit, and the rest
  pub point_above : (r j : ℕ) → j < 2 ^ r → point o l (2 ^ r + j) ≡ point o l j ⊕ basis_element_or_zero o l r
  point_above r j h = spanned_top L (points_spanned L V) r j h ∙ ap (λ w. w ⊕ point o l j) (point_basis r) ∙ L.ring.sum_comm _ _

  point_again : (r j : ℕ) → width l ≤ r → j < 2 ^ r → point o l (2 ^ r + j) ≡ point o l j
  point_again r j k h = point_above r j h ∙ ap (λ w. point o l j ⊕ w) (basis_none L V r k) ∙ L.ring.sum_zero _

  -- every element is one of the points of all basis elements
  vanishing_everywhere : (x : F) → vanishing o (2 ^ width l) (point o l) x ≡ 𝟘
  vanishing_everywhere x = elim (same_or_not L (vanishing o (2 ^ width l) (point o l) x) 𝟘) [
    | inl e ↦ e
    | inr d ↦ absurd (none_left_out (2 ^ width l) (λ j. l.number (point o l j)) (l.number x) (V.form.below x)
        (λ i h. V.form.below (point o l i))
        (λ i h e. d (ap (vanishing o (2 ^ width l) (point o l)) (sym (V.form.injective _ _ e)) ∙ vanishing_zero_at L (2 ^ width l) (point o l) i h))
        (λ i j h k e. spanned_injective L (points_spanned L V) (width l) i j (omega arith) h k (V.form.injective _ _ e)))
  ]

  -- a field that has room for the points of e dimensions has e basis elements
  pub room_within : (e : ℕ) → Room F (2 ^ e) → e ≤ width l
  room_within e r = elim (cases_lt (width l) e) [
    | inr h ↦ h
    | inl h ↦
        let more : 2 ^ width l < 2 ^ e = pow-lt h in
        absurd (∥∥₁_elim r (λ x. absurd x) (λ p.
        none_left_out (2 ^ width l) (λ j. l.number (p.0 j)) (l.number (p.0 (2 ^ width l))) (V.form.below _)
        (λ i k. V.form.below _)
        (λ i k q. p.1 i (2 ^ width l) (omega arith) more (omega arith) (V.form.injective _ _ q))
        (λ i j k m q. elim (ℕ_discrete i j) [
          | yes s ↦ s
          | no d ↦ absurd (p.1 i j (omega arith) (omega arith) d (V.form.injective _ _ q))
        ])))
  ]

  vanishing_beyond : (k : ℕ) (x : F) → width l ≤ k → vanishing o (2 ^ k) (point o l) x ≡ 𝟘
  vanishing_beyond k x h =
      let r = vanishing_zero_only L (2 ^ width l) (point o l) x (vanishing_everywhere x) in
      ap (vanishing o (2 ^ k) (point o l)) r.2 ∙ vanishing_zero_at L (2 ^ k) (point o l) r.0 (lt_of_lt_of_le r.1 (pow_mono h))

  phi_power_beyond : (k : ℕ) (x : F) → width l ≤ k → phi_power o k x ≡ 𝟘
  phi_power_beyond zero x h = let p : 0 < width l = pow_pos l.log_bits in absurd (omega arith)
  phi_power_beyond (suc k) x h = elim (cases_lt k (width l)) [
    | inl p ↦
        let e : width l ≡ suc k = omega arith in
        let z : phi_power o (width l) x ≡ 𝟘 = sym (vanishing_is_phi_power L (points_spanned L V) (width l) (omega arith) x) ∙ vanishing_everywhere x in
        subst (λ (n : ℕ). phi_power o n x ≡ 𝟘) e z
    | inr p ↦ ap (phi o) (phi_power_beyond k x p) ∙ phi_zero L.ring
  ]

  -- phi applied k times is the product of x + s over the points s of k dimensions
  pub phi_power_is_vanishing : (k : ℕ) (x : F) → phi_power o k x ≡ vanishing o (2 ^ k) (point o l) x
  phi_power_is_vanishing k x = elim (cases_lt k (width l)) [
    | inl p ↦ sym (vanishing_is_phi_power L (points_spanned L V) k (omega arith) x)
    | inr p ↦ phi_power_beyond k x p ∙ sym (vanishing_beyond k x p)
  ]

  pub zero_exactly_on : (n : ℕ) (t : ℕ → F) (x r : F) → r ≡ vanishing o n t x → ZeroExactlyOn o n t x r
  zero_exactly_on n t x r e =
      record {
        there = λ j h q. e ∙ ap (vanishing o n t) q ∙ vanishing_zero_at L n t j h;
        only_there = λ z. vanishing_zero_only L n t x (sym e ∙ z);
      }

  -- the product of the nonzero points is one
  pub nonzero_points_one : (k : ℕ) → nonzero_product o (2 ^ k) (point o l) ≡ 𝟙
  nonzero_points_one zero = nonzero_product_one L (points_spanned L V) 0 (omega arith)
  nonzero_points_one (suc k) = elim (cases_lt k (width l)) [
    | inl p ↦ nonzero_product_one L (points_spanned L V) (suc k) p
    | inr p ↦
        product_halves L k _
        ∙ ap₂ ◌⊗◌ (nonzero_points_one k) (product_same L (2 ^ k) _ _ (λ j h. ap (λ w. cond (o.equals w 𝟘) 𝟙 w) (point_again k j p h)) ∙ nonzero_points_one k)
        ∙ L.ring.product_one 𝟙
  ]

  -- the product of the points that dimension r adds, which is one
  pub product_added : (r : ℕ) (p : F) → p ≡ 𝟙 → nonzero_product o (2 ^ (r + 1)) (point o l) ≡ nonzero_product o (2 ^ r) (point o l) ⊗ p
  product_added r p e = nonzero_points_one (r + 1) ∙ sym (ap₂ ◌⊗◌ (nonzero_points_one r) e ∙ L.ring.product_one 𝟙)

  -- the vanishing polynomial of r dimensions at element r of the basis: the product of the points that dimension r adds
  pub added_product : (r : ℕ) → r < width l → phi_power o r (basis_element_or_zero o l r) ≡ 𝟙
  added_product r h = ap (phi_power o r) (sym (point_basis r)) ∙ phi_power_top L (points_spanned L V) r h

  pub vanishing_at_next : (r : ℕ) (v p : F) → Some v ≡ cantor o l r → true ≡ ltb r (width l) → p ≡ phi_power o r v → p ≡ 𝟙
  vanishing_at_next r v p e h q = q ∙ ap (phi_power o r) (ap (λ s. unwrap_or s 𝟘) e) ∙ added_product r (ltb-true r (width l) (sym h))

  -- and of those that the first n add, from one on
  pub added_products : (n : ℕ) (p : F) → n ≤ width l → p ≡ 𝟙 → fold (λ w r. w ⊗ phi_power o r (basis_element_or_zero o l r)) p (range_with_len 0 n) ≡ 𝟙
  added_products n p h e = products_from 0 n p (omega arith) e
    where
      products_from : (a n : ℕ) (p : F) → a + n ≤ width l → p ≡ 𝟙 → fold (λ w r. w ⊗ phi_power o r (basis_element_or_zero o l r)) p (range_with_len a n) ≡ 𝟙
      products_from a zero p h e = e
      products_from a (suc n) p h e = products_from (a + 1) n _ (omega arith) (ap₂ ◌⊗◌ e (added_product a (omega arith)) ∙ L.ring.product_one 𝟙)
