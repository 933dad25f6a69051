-- A field of characteristic two: its operations, and the laws that they keep.
use Rattle.std.specs.Prelude.{◌≡◌, Bool, true, Some, None, Option, ◌≢◌}

pub record Operations (F : Type 0) : Type 0 where
  pub zero : F
  pub one : F
  pub sum : F → F → F
  pub product : F → F → F
  pub inverse : F → Option F
  pub equals : F → F → Bool

-- a commutative ring in which x + x = 0
pub record Ring {F : Type 0} (o : Operations F) : Type 0 where
  pub sum_assoc : (x y z : F) → o.sum (o.sum x y) z ≡ o.sum x (o.sum y z)
  pub sum_comm : (x y : F) → o.sum x y ≡ o.sum y x
  pub sum_zero : (x : F) → o.sum x o.zero ≡ x
  pub sum_self : (x : F) → o.sum x x ≡ o.zero
  pub product_assoc : (x y z : F) → o.product (o.product x y) z ≡ o.product x (o.product y z)
  pub product_comm : (x y : F) → o.product x y ≡ o.product y x
  pub product_one : (x : F) → o.product x o.one ≡ x
  pub product_sum : (x y z : F) → o.product x (o.sum y z) ≡ o.sum (o.product x y) (o.product x z)

pub record FieldLaws {F : Type 0} (o : Operations F) : Type 0 where
  pub ring : Ring o
  pub one_not_zero : o.one ≡ o.zero → ⊥
  -- an inverse, exactly of what is not zero
  pub inverse_zero : o.inverse o.zero ≡ None
  pub inverse_some : (x : F) → (x ≢ o.zero) → (y : F) × (o.inverse x ≡ Some y) × (o.product x y ≡ o.one)
  -- true, exactly for the same element
  pub equals_same : (x : F) → o.equals x x ≡ true
  pub equals_true : (x y : F) → o.equals x y ≡ true → x ≡ y
