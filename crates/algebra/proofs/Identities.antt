-- The rules by which `simp (ring, R)` proves an identity of a commutative ring in which x + x = 0.
use Rattle.std.proofs.Common.{◌≡◌}
use Rattle.fields.specs.Field.{Operations, Ring}
use Rattle.fields.specs.Rings.{zero_sum, sum_left_comm, sum_self_left, one_product, product_zero, zero_product, product_left_comm, sum_product}

module _ {F : Type 0} {o : Operations F} (R : Ring o) where
  open o use {zero as 𝟘, one as 𝟙, sum as ◌⊕◌, product as ◌⊗◌}

  infixl 30 ◌⊕◌
  infixl 40 ◌⊗◌
  pub sum_assoc : (x y z : F) → x ⊕ y ⊕ z ≡ x ⊕ (y ⊕ z)
  sum_assoc = R.sum_assoc

  pub sum_comm : (x y : F) → x ⊕ y ≡ y ⊕ x
  sum_comm = R.sum_comm

  pub sum_zero : (x : F) → x ⊕ 𝟘 ≡ x
  sum_zero = R.sum_zero

  pub sum_self : (x : F) → x ⊕ x ≡ 𝟘
  sum_self = R.sum_self

  pub product_assoc : (x y z : F) → x ⊗ y ⊗ z ≡ x ⊗ (y ⊗ z)
  product_assoc = R.product_assoc

  pub product_comm : (x y : F) → x ⊗ y ≡ y ⊗ x
  product_comm = R.product_comm

  pub product_one : (x : F) → x ⊗ 𝟙 ≡ x
  product_one = R.product_one

  pub product_sum : (x y z : F) → x ⊗ (y ⊕ z) ≡ x ⊗ y ⊕ x ⊗ z
  product_sum = R.product_sum

pub ruleset ring = (sum_assoc, sum_comm, sum_left_comm, sum_zero, zero_sum, sum_self, sum_self_left, product_assoc, product_comm, product_left_comm, product_one, one_product, product_sum, sum_product, product_zero, zero_product)
