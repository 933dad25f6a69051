-- The theorems: on roots and interpolation over any field of characteristic two, and on the points of a level, their
-- vanishing and Lagrange polynomials, in the level's field and in any that it is embedded in.
use Rattle.std.specs.Prelude.{◌≡◌, ℕ, ◌+◌, ◌*◌, ◌/◌, ◌^◌, ◌<◌, ◌≤◌, ◌≢◌, List, length, bit_xor, slice_index_or}
use Rattle.fields.specs.Field.{Operations}
use Rattle.fields.specs.Tower.{Level, width, phi}
use Rattle.algebra.specs.Sums.{bit_sum}
use Rattle.algebra.specs.Quotients.{quotient}
use Rattle.algebra.specs.Polynomials.{value_at}
use Rattle.algebra.specs.Interpolation.{Apart, Interpolates, lagrange, interpolation}
use Rattle.algebra.specs.Points.{basis_element_or_zero, point, phi_power, vanishing, nonzero_product}
use Rattle.fields.specs.Extension.{Keeps}

module _ {F : Type 0} (o : Operations F) where
  -- a polynomial of degree below n that is zero at n different points is zero everywhere, and so is each coefficient
  abbrev pub ZerosDetermine : Type 0
  ZerosDetermine =
      (n : ℕ) (p : List F) (t : ℕ → F) → length p ≤ n → Apart n t → ((i : ℕ) → i < n → value_at o p (t i) ≡ o.zero)
      → ((x : F) → value_at o p x ≡ o.zero) × ((i : ℕ) → slice_index_or p i o.zero ≡ o.zero)

  -- the polynomial of degree below n through n given values exists, and is the only one
  abbrev pub InterpolationExistsOnce : Type 0
  InterpolationExistsOnce =
      (n : ℕ) (t y : ℕ → F) → Apart n t
      → Interpolates o n t y (interpolation o n t y) × ((f : F → F) → Interpolates o n t y f → (x : F) → f x ≡ interpolation o n t y x)

-- phi applied k times is the vanishing polynomial of the first 2 ^ k points, and is zero exactly at them
pub record Vanishes {F : Type 0} (o : Operations F) (t : ℕ → F) (k : ℕ) : Type 0 where
  pub by_phi : (x : F) → phi_power o k x ≡ vanishing o (2 ^ k) t x
  pub at_points : (j : ℕ) → j < 2 ^ k → vanishing o (2 ^ k) t (t j) ≡ o.zero
  pub only_there : (x : F) → vanishing o (2 ^ k) t x ≡ o.zero → (j : ℕ) × (j < 2 ^ k) × (x ≡ t j)

-- the barycentric form of the first 2 ^ k points: a Lagrange polynomial is one at its own point, zero at the others, and
-- elsewhere the vanishing polynomial divided by x + the point
pub record Barycentric {F : Type 0} (o : Operations F) (t : ℕ → F) (k : ℕ) : Type 0 where
  pub own : (c : ℕ) → c < 2 ^ k → lagrange o (2 ^ k) t c (t c) ≡ o.one
  pub others : (c j : ℕ) → c < 2 ^ k → j < 2 ^ k → j ≢ c → lagrange o (2 ^ k) t c (t j) ≡ o.zero
  pub elsewhere : (c : ℕ) (x : F) → c < 2 ^ k → x ≢ t c → lagrange o (2 ^ k) t c x ≡ quotient o (vanishing o (2 ^ k) t x) (o.sum x (t c))

module _ {F : Type 0} (o : Operations F) (l : Level F) where
  -- a point takes in every bit of its number
  abbrev pub PointsOfBits : Type 0
  PointsOfBits = (n j : ℕ) → j < 2 ^ n → point o l j ≡ bit_sum o n (basis_element_or_zero o l) j

  abbrev pub PointsDiffer : Type 0
  PointsDiffer = Apart (2 ^ width l) (point o l)

  abbrev pub PointsAdd : Type 0
  PointsAdd = (a b : ℕ) → point o l (bit_xor a b) ≡ o.sum (point o l a) (point o l b)

  abbrev pub PointsHalve : Type 0
  PointsHalve = (j : ℕ) → j < 2 ^ width l → phi o (point o l j) ≡ point o l (j / 2)

  abbrev pub VanishingIsProduct : Type 0
  VanishingIsProduct = (k : ℕ) → k ≤ width l → Vanishes o (point o l) k

  abbrev pub NonzeroProductIsOne : Type 0
  NonzeroProductIsOne = (k : ℕ) → k ≤ width l → nonzero_product o (2 ^ k) (point o l) ≡ o.one

  abbrev pub LagrangeByDivision : Type 0
  LagrangeByDivision = (k : ℕ) → k ≤ width l → Barycentric o (point o l) k

  -- at the points after the first 2 ^ k, the Lagrange polynomial of place j of byte b is that of place j of byte 0,
  -- at the point whose number is shifted by 8 b
  abbrev pub TableRule : Type 0
  TableRule =
      (k : ℕ) → k ≤ width l → (b j i : ℕ) → 8 * b + 8 ≤ 2 ^ k → j < 8
      → lagrange o (2 ^ k) (point o l) (8 * b + j) (point o l (2 ^ k + i)) ≡ lagrange o (2 ^ k) (point o l) j (point o l (2 ^ k + bit_xor i (8 * b)))

-- in a field that the level's is embedded in
module _ {F E : Type 0} (o : Operations F) (l : Level F) (p : Operations E) where
  abbrev pub VanishingInExtensions : Type 0
  VanishingInExtensions = (e : F → E) → Keeps o p e → (k : ℕ) → k ≤ width l → Vanishes p (λ j. e (point o l j)) k

  abbrev pub LagrangeInExtensions : Type 0
  LagrangeInExtensions = (e : F → E) → Keeps o p e → (k : ℕ) → k ≤ width l → Barycentric p (λ j. e (point o l j)) k
