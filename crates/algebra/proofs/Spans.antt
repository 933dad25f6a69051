-- The points that a Cantor basis spans, in the level's field or in an extension: they differ, and phi applied k times
-- is their vanishing polynomial (Cantor 1989).
use Rattle.std.proofs.Common.{◌≡◌, ℕ, zero, suc, ◌+◌, ◌/◌, ◌^◌, ◌<◌, ◌≤◌, fold, sym, refl, ap, ◌∙◌, ap₂, lt_of_lt_of_le, lt_of_le_of_lt, pow-suc, div-le_self, div-one, arith, pow_pos, pow_mono}
use Rattle.std.specs.List.{range_with_len}
use native.Mathlib.Nat.{div_self, div-eq_of_lt, div-div-eq-div-mul}
use native.Mathlib.Decide.{ℕ_discrete}
use lib.Bits.{bit_xor, xor_lt}
use lib.Pow.{pow-lt}
use Rattle.fields.specs.Field.{Operations, FieldLaws}
use Rattle.fields.specs.Tower.{Level, LevelLaws, width, phi}
use Rattle.fields.specs.Rings.{one_product, same_from_sum}
use Rattle.fields.specs.Levels.{phi_sum, phi_zero}
use Rattle.algebra.specs.Sums.{product_below}
use Rattle.algebra.specs.Interpolation.{Apart}
use Rattle.algebra.specs.Points.{point, phi_power, vanishing}
use Rattle.algebra.specs.Theorems.{Vanishes}
use Rattle.algebra.proofs.Divisions.{sum_of_same}
use Rattle.algebra.proofs.Products.{product_same, product_halves, product_with_zero, zero_among}
use Rattle.algebra.proofs.Xors.{same_from_xor, xor_top}
use Rattle.algebra.proofs.Points.{point_xor, point_one, phi_point}

-- t is the numbering of the points that a Cantor basis of m elements spans
pub record Spanned {F : Type 0} (o : Operations F) (m : ℕ) (t : ℕ → F) : Type 0 where
  pub of_xor : (i j : ℕ) → t (bit_xor i j) ≡ o.sum (t i) (t j)
  pub of_one : t 1 ≡ o.one
  pub of_half : (j : ℕ) → j < 2 ^ m → phi o (t j) ≡ t (j / 2)

pub points_spanned : {F : Type 0} {o : Operations F} {l : Level F} → FieldLaws o → LevelLaws o l → Spanned o (width l) (point o l)
points_spanned L V = record { of_xor = point_xor L V; of_one = point_one L V; of_half = phi_point L V }

-- phi applied once for each number of a range, as a fold over the range does
phi_power_next : {F : Type 0} (o : Operations F) (k : ℕ) (x : F) → phi_power o k (phi o x) ≡ phi_power o (suc k) x
phi_power_next o zero x = refl
phi_power_next o (suc k) x = ap (phi o) (phi_power_next o k x)

pub phi_power_fold : {F : Type 0} (o : Operations F) (n a : ℕ) (x : F) → fold (λ w r. phi o w) x (range_with_len a n) ≡ phi_power o n x
phi_power_fold o zero a x = refl
phi_power_fold o (suc n) a x = phi_power_fold o n (a + 1) (phi o x) ∙ phi_power_next o n x

module _ {F : Type 0} {o : Operations F} (L : FieldLaws o) where
  open o use {zero as 𝟘, one as 𝟙, sum as ◌⊕◌, product as ◌⊗◌}

  infixl 30 ◌⊕◌
  infixl 40 ◌⊗◌
  pub phi_power_sum : (k : ℕ) (x y : F) → phi_power o k (x ⊕ y) ≡ phi_power o k x ⊕ phi_power o k y
  phi_power_sum zero x y = refl
  phi_power_sum (suc k) x y = ap (phi o) (phi_power_sum k x y) ∙ phi_sum L.ring _ _

  module _ (n : ℕ) (t : ℕ → F) where
    pub vanishing_zero_at : (j : ℕ) → j < n → vanishing o n t (t j) ≡ 𝟘
    vanishing_zero_at j h = product_with_zero L n j _ h (L.ring.sum_self (t j))

    pub vanishing_zero_only : (x : F) → vanishing o n t x ≡ 𝟘 → (j : ℕ) × (j < n) × (x ≡ t j)
    vanishing_zero_only x e = let r = zero_among L n _ e in (r.0, r.1, same_from_sum L.ring _ _ r.2)

  module _ {m : ℕ} {t : ℕ → F} (T : Spanned o m t) where
    pub spanned_zero : t 0 ≡ 𝟘
    spanned_zero = T.of_xor 0 0 ∙ L.ring.sum_self (t 0)

    -- only point 0 is zero
    pub zero_point : (k j : ℕ) → k ≤ m → j < 2 ^ k → t j ≡ 𝟘 → j ≡ 0
    zero_point zero j l h e = omega arith
    zero_point (suc k) j l h e =
        let half : j / 2 ≡ 0 = zero_point k (j / 2) (omega arith) (omega arith) (sym (T.of_half j (lt_of_lt_of_le h (pow_mono l))) ∙ ap (phi o) e ∙ phi_zero L.ring) in
        elim (ℕ_discrete j 1) [
          | yes d ↦ absurd (L.one_not_zero (sym T.of_one ∙ ap t (sym d) ∙ e))
          | no d ↦ omega arith
        ]

    pub spanned_injective : (k i j : ℕ) → k ≤ m → i < 2 ^ k → j < 2 ^ k → t i ≡ t j → i ≡ j
    spanned_injective k i j l h g e = same_from_xor i j (zero_point k (bit_xor i j) l (xor_lt k i j h g) (T.of_xor i j ∙ sum_of_same L _ _ e))

    pub spanned_apart : (k : ℕ) → k ≤ m → Apart (2 ^ k) t
    spanned_apart k l i j h g d e = d (spanned_injective k i j l h g e)

    -- the top bit, and the rest
    pub spanned_top : (k j : ℕ) → j < 2 ^ k → t (2 ^ k + j) ≡ t (2 ^ k) ⊕ t j
    spanned_top k j h = ap t (sym (xor_top k j h)) ∙ T.of_xor (2 ^ k) j

    pub phi_power_point : (k j : ℕ) → j < 2 ^ m → phi_power o k (t j) ≡ t (j / 2 ^ k)
    phi_power_point zero j h = ap t (sym (div-one j))
    phi_power_point (suc k) j h =
        ap (phi o) (phi_power_point k j h) ∙ T.of_half (j / 2 ^ k) (lt_of_le_of_lt (div-le_self j (2 ^ k)) h)
        ∙ ap t (div-div-eq-div-mul j (2 ^ k) 2 ∙ ap (λ w. j / w) (sym (pow-suc 2 k)))

    pub phi_power_below : (k j : ℕ) → k ≤ m → j < 2 ^ k → phi_power o k (t j) ≡ 𝟘
    phi_power_below k j l h = phi_power_point k j (lt_of_lt_of_le h (pow_mono l)) ∙ ap t (div-eq_of_lt h) ∙ spanned_zero

    pub phi_power_top : (k : ℕ) → k < m → phi_power o k (t (2 ^ k)) ≡ 𝟙
    phi_power_top k l = phi_power_point k (2 ^ k) (pow-lt l) ∙ ap t (div_self (pow_pos k)) ∙ T.of_one

    -- phi applied k times is the product of x + s over the first 2 ^ k points s
    pub vanishing_is_phi_power : (k : ℕ) → k ≤ m → (x : F) → vanishing o (2 ^ k) t x ≡ phi_power o k x
    vanishing_is_phi_power zero l x = one_product L.ring _ ∙ ap (λ w. x ⊕ w) spanned_zero ∙ L.ring.sum_zero x
    vanishing_is_phi_power (suc k) l x =
        let upper : product_below o (2 ^ k) (λ j. x ⊕ t (2 ^ k + j)) ≡ phi_power o k x ⊕ 𝟙 =
        product_same L (2 ^ k) _ _ (λ j h. ap (λ w. x ⊕ w) (spanned_top k j h) ∙ sym (L.ring.sum_assoc _ _ _))
        ∙ vanishing_is_phi_power k (omega arith) (x ⊕ t (2 ^ k)) ∙ phi_power_sum k x (t (2 ^ k)) ∙ ap (λ w. phi_power o k x ⊕ w) (phi_power_top k l) in
        product_halves L k (λ j. x ⊕ t j)
        ∙ ap₂ ◌⊗◌ (vanishing_is_phi_power k (omega arith) x) upper
        ∙ L.ring.product_sum _ _ _ ∙ ap (λ w. phi_power o k x ⊗ phi_power o k x ⊕ w) (L.ring.product_one _)

    pub vanishing_point : (k j : ℕ) → k ≤ m → j < 2 ^ m → vanishing o (2 ^ k) t (t j) ≡ t (j / 2 ^ k)
    vanishing_point k j l h = vanishing_is_phi_power k l (t j) ∙ phi_power_point k j h

    -- a shift by one of the points changes nothing
    pub vanishing_shift : (k d : ℕ) (x : F) → k ≤ m → d < 2 ^ k → vanishing o (2 ^ k) t (x ⊕ t d) ≡ vanishing o (2 ^ k) t x
    vanishing_shift k d x l h =
        vanishing_is_phi_power k l (x ⊕ t d) ∙ phi_power_sum k x (t d) ∙ ap (λ w. phi_power o k x ⊕ w) (phi_power_below k d l h)
        ∙ L.ring.sum_zero _ ∙ sym (vanishing_is_phi_power k l x)

    pub spanned_vanishes : (k : ℕ) → k ≤ m → Vanishes o t k
    spanned_vanishes k l = record { by_phi = λ x. sym (vanishing_is_phi_power k l x); at_points = vanishing_zero_at (2 ^ k) t; only_there = vanishing_zero_only (2 ^ k) t }
