-- Consequences of the laws of a commutative ring in which x + x = 0.
use Rattle.std.specs.Prelude.{◌≡◌}
use Rattle.std.proofs.Common.{sym, ap, ◌∙◌}
use Rattle.fields.specs.Field.{Operations, Ring}

module _ {F : Type 0} {o : Operations F} (R : Ring o) where
  open o use {zero as 𝟘, one as 𝟙, sum as ◌⊕◌, product as ◌⊗◌}

  infixl 30 ◌⊕◌
  infixl 40 ◌⊗◌
  pub zero_sum : (x : F) → 𝟘 ⊕ x ≡ x
  zero_sum x = R.sum_comm 𝟘 x ∙ R.sum_zero x

  pub sum_left_comm : (x y z : F) → x ⊕ (y ⊕ z) ≡ y ⊕ (x ⊕ z)
  sum_left_comm x y z = sym (R.sum_assoc x y z) ∙ ap (λ w. w ⊕ z) (R.sum_comm x y) ∙ R.sum_assoc y x z

  pub sum_self_left : (x y : F) → x ⊕ (x ⊕ y) ≡ y
  sum_self_left x y = sym (R.sum_assoc x x y) ∙ ap (λ w. w ⊕ y) (R.sum_self x) ∙ zero_sum y

  pub sum_self_right : (x y : F) → x ⊕ y ⊕ y ≡ x
  sum_self_right x y = R.sum_assoc x y y ∙ ap (λ w. x ⊕ w) (R.sum_self y) ∙ R.sum_zero x

  pub one_product : (x : F) → 𝟙 ⊗ x ≡ x
  one_product x = R.product_comm 𝟙 x ∙ R.product_one x

  pub product_zero : (x : F) → x ⊗ 𝟘 ≡ 𝟘
  product_zero x = ap (λ w. x ⊗ w) (sym (R.sum_self 𝟘)) ∙ R.product_sum x 𝟘 𝟘 ∙ R.sum_self (x ⊗ 𝟘)

  pub zero_product : (x : F) → 𝟘 ⊗ x ≡ 𝟘
  zero_product x = R.product_comm 𝟘 x ∙ product_zero x

  pub product_left_comm : (x y z : F) → x ⊗ (y ⊗ z) ≡ y ⊗ (x ⊗ z)
  product_left_comm x y z = sym (R.product_assoc x y z) ∙ ap (λ w. w ⊗ z) (R.product_comm x y) ∙ R.product_assoc y x z

  pub sum_product : (x y z : F) → (x ⊕ y) ⊗ z ≡ x ⊗ z ⊕ y ⊗ z
  sum_product x y z = R.product_comm (x ⊕ y) z ∙ R.product_sum z x y ∙ ap (λ w. w ⊕ z ⊗ y) (R.product_comm z x) ∙ ap (λ w. x ⊗ z ⊕ w) (R.product_comm z y)

  pub same_from_sum : (x y : F) → x ⊕ y ≡ 𝟘 → x ≡ y
  same_from_sum x y h = sym (R.sum_zero x) ∙ ap (λ w. x ⊕ w) (sym h) ∙ sum_self_left x y
