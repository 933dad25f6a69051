-- A level of a tower of fields: elements as numbers, the equation y² + y = t, and the Cantor basis (Cantor 1989).
use Rattle.std.specs.Prelude.{◌≡◌, ℕ, zero, suc, ◌/◌, ◌%◌, ◌^◌, ◌<◌, Bool, not, is_some, Some, None, Option, ◌==◌, ◌≢◌, bit_xor, nat_lt}
use Rattle.fields.specs.Field.{Operations}

-- the base 2 logarithm of the number of bits, an element's number, the element top, and the solutions of y² + y = t
pub record Level (F : Type 0) : Type 0 where
  pub log_bits : ℕ
  pub number : F → ℕ
  pub top : F
  pub solve : F → Option F

-- the number of bits
abbrev pub width : {F : Type 0} → Level F → ℕ
width l = 2 ^ l.log_bits

abbrev pub phi : {F : Type 0} → Operations F → F → F
phi o y = o.sum (o.product y y) y

-- v₀ is one, and each next is the solution of the one before
abbrev pub solution : {F : Type 0} → Level F → Option F → Option F
solution l (Some v) = l.solve v
solution l None = None

abbrev pub cantor : {F : Type 0} → Operations F → Level F → ℕ → Option F
cantor o l zero = Some o.one
cantor o l (suc j) = solution l (cantor o l j)

-- whether bit k of n is set
abbrev pub bit_set : ℕ → ℕ → Bool
bit_set n k = n / 2 ^ k % 2 == 1

-- one-to-one between the elements and the numbers of that width; a sum is an exclusive or
pub record NumberForm {F : Type 0} (o : Operations F) (l : Level F) : Type 0 where
  pub below : (x : F) → l.number x < 2 ^ width l
  pub injective : (x y : F) → l.number x ≡ l.number y → x ≡ y
  pub onto : (n : ℕ) → n < 2 ^ width l → (x : F) × (l.number x ≡ n)
  pub of_sum : (x y : F) → l.number (o.sum x y) ≡ bit_xor (l.number x) (l.number y)
  pub of_zero : l.number o.zero ≡ 0
  pub of_one : l.number o.one ≡ 1

-- the y with y² + y = t whose bit 0 is clear, or none exactly if no y exists
abbrev pub Solves : {F : Type 0} → Operations F → Level F → F → Option F → Type 0
Solves o l t (Some y) = (phi o y ≡ t) × (l.number y % 2 ≡ 0)
Solves {F} o l t None = (y : F) → phi o y ≢ t

-- exactly one of t and t + top is solved
abbrev pub Halves : {F : Type 0} → Operations F → Level F → Type 0
Halves {F} o l = (t : F) → is_some (l.solve (o.sum t l.top)) ≡ not (is_some (l.solve t))

pub record Solving {F : Type 0} (o : Operations F) (l : Level F) : Type 0 where
  pub solves : (t : F) → Solves o l t (l.solve t)
  pub halves : Halves o l

pub record LevelLaws {F : Type 0} (o : Operations F) (l : Level F) : Type 0 where
  pub form : NumberForm o l
  pub solving : Solving o l
  -- the basis has as many elements as there are bits
  pub basis : (j : ℕ) → is_some (cantor o l j) ≡ nat_lt j (width l)
