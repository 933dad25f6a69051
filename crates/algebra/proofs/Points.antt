-- The points of a level: an exclusive or of numbers is a sum of points, and phi halves the number.
use Rattle.std.proofs.Common.{◌≡◌, ℕ, zero, suc, ◌+◌, ◌/◌, ◌%◌, ◌^◌, ◌<◌, ◌≤◌, Bool, true, false, cond, eqb, is_some, Some, None, Option, unwrap_or, sym, refl, ap, ◌∙◌, ap₂, inl, inr, arith, pow_pos}
use lib.Bits.{bit_xor}
use Rattle.std.proofs.lemmas.Bool.{false≢true, lt-ltb, le-ltb, cases_lt}
use Rattle.fields.specs.Field.{Operations, FieldLaws}
use Rattle.fields.specs.Tower.{Level, LevelLaws, Solves, width, phi, solution, cantor, bit_set}
use Rattle.fields.specs.Rings.{zero_sum}
use Rattle.fields.specs.Levels.{phi_sum, phi_zero, phi_one}
use Rattle.algebra.specs.Sums.{sum_below, bit_sum}
use Rattle.algebra.specs.Points.{basis_element_or_zero, point}
use Rattle.algebra.proofs.Sums.{sum_same}
use Rattle.algebra.proofs.Xors.{xor_top}
use Rattle.algebra.proofs.BitSums.{bit_sum_xor, bit_sum_zero, bit_sum_same, bit_sum_more, bit_sum_short, bit_sum_power, bit_sum_from_first}

module _ {F : Type 0} {o : Operations F} (L : FieldLaws o) where
  open o use {zero as 𝟘, sum as ◌⊕◌}

  infixl 30 ◌⊕◌
  pub phi_sum_below : (n : ℕ) (f : ℕ → F) → phi o (sum_below o n f) ≡ sum_below o n (λ i. phi o (f i))
  phi_sum_below zero f = phi_zero L.ring
  phi_sum_below (suc n) f = phi_sum L.ring _ _ ∙ ap (λ w. w ⊕ phi o (f n)) (phi_sum_below n f)

  phi_cond : (b : Bool) (x : F) → phi o (cond b x 𝟘) ≡ cond b (phi o x) 𝟘
  phi_cond true x = refl
  phi_cond false x = phi_zero L.ring

  cond_zero : (b : Bool) → cond b 𝟘 𝟘 ≡ 𝟘
  cond_zero true = refl
  cond_zero false = refl

  pub phi_bit_sum : (n : ℕ) (v : ℕ → F) (j : ℕ) → phi o (bit_sum o n v j) ≡ bit_sum o n (λ r. phi o (v r)) j
  phi_bit_sum n v j = phi_sum_below n _ ∙ sum_same L n _ _ (λ r l. phi_cond (bit_set j r) (v r))

  -- where v 0 is one and phi takes each next to the one before
  bit_sum_half : (n : ℕ) (v : ℕ → F) (j : ℕ) → v 0 ≡ o.one → ((r : ℕ) → suc r < n → phi o (v (suc r)) ≡ v r) → j < 2 ^ n → phi o (bit_sum o n v j) ≡ bit_sum o n v (j / 2)
  bit_sum_half zero v j a c h = phi_zero L.ring
  bit_sum_half (suc n) v j a c h =
      phi_bit_sum (suc n) v j
      ∙ bit_sum_from_first L n (λ r. phi o (v r)) j
      ∙ ap₂ ◌⊕◌ (ap (λ w. cond (eqb (j % 2) 1) w 𝟘) (ap (phi o) a ∙ phi_one L.ring) ∙ cond_zero (eqb (j % 2) 1)) (bit_sum_same L n _ v (j / 2) (λ r l. c r (omega arith)))
      ∙ zero_sum L.ring _
      ∙ bit_sum_short L n (suc n) v (j / 2) (omega arith) (omega arith)

module _ {F : Type 0} {o : Operations F} {l : Level F} (L : FieldLaws o) (V : LevelLaws o l) where
  open o use {zero as 𝟘, one as 𝟙, sum as ◌⊕◌}

  infixl 30 ◌⊕◌
  -- phi takes each next element of the basis to the one before
  pub basis_next : (r : ℕ) → suc r < width l → phi o (basis_element_or_zero o l (suc r)) ≡ basis_element_or_zero o l r
  basis_next r h = go (cantor o l r) (V.basis (suc r) ∙ lt-ltb (suc r) (width l) h)
    where
      root : (t : F) (s : Option F) → Solves o l t s → is_some s ≡ true → phi o (unwrap_or s 𝟘) ≡ t
      root t (Some y) k e = k.0
      root t None k e = absurd (false≢true e)

      go : (s : Option F) → is_some (solution l s) ≡ true → phi o (unwrap_or (solution l s) 𝟘) ≡ unwrap_or s 𝟘
      go (Some v) e = root v (l.solve v) (V.solving.solves v) e
      go None e = absurd (false≢true e)

  -- the basis ends at the width
  pub basis_none : (r : ℕ) → width l ≤ r → basis_element_or_zero o l r ≡ 𝟘
  basis_none r h = go (cantor o l r) (V.basis r ∙ le-ltb r (width l) h)
    where
      go : (s : Option F) → is_some s ≡ false → unwrap_or s 𝟘 ≡ 𝟘
      go (Some v) e = absurd (false≢true (sym e))
      go None e = refl

  pub point_xor : (i j : ℕ) → point o l (bit_xor i j) ≡ point o l i ⊕ point o l j
  point_xor = bit_sum_xor L (width l) (basis_element_or_zero o l)

  pub point_zero : point o l 0 ≡ 𝟘
  point_zero = bit_sum_zero L (width l) (basis_element_or_zero o l)

  pub point_power : (r : ℕ) → r < width l → point o l (2 ^ r) ≡ basis_element_or_zero o l r
  point_power = bit_sum_power L (width l) (basis_element_or_zero o l)

  pub point_one : point o l 1 ≡ 𝟙
  point_one = point_power 0 (pow_pos l.log_bits)

  -- the top bit, and the rest
  pub point_top : (r j : ℕ) → r < width l → j < 2 ^ r → point o l (2 ^ r + j) ≡ basis_element_or_zero o l r ⊕ point o l j
  point_top r j h k = ap (point o l) (sym (xor_top r j k)) ∙ point_xor (2 ^ r) j ∙ ap (λ w. w ⊕ point o l j) (point_power r h)

  -- phi halves the number of a point
  pub phi_point : (j : ℕ) → j < 2 ^ width l → phi o (point o l j) ≡ point o l (j / 2)
  phi_point j = bit_sum_half L (width l) (basis_element_or_zero o l) j refl basis_next

  -- the bits of j from n on are clear, so n elements of the basis will do, and more do no harm
  pub point_bits : (n j : ℕ) → j < 2 ^ n → point o l j ≡ bit_sum o n (basis_element_or_zero o l) j
  point_bits n j h = elim (cases_lt n (width l)) [
    | inl p ↦ sym (bit_sum_short L n (width l) (basis_element_or_zero o l) j (omega arith) h)
    | inr p ↦ bit_sum_more L (width l) n (basis_element_or_zero o l) j p (λ r k m. ap (λ w. cond (bit_set j r) w 𝟘) (basis_none r k) ∙ cond_zero L (bit_set j r))
  ]
