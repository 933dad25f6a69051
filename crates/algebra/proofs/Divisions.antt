-- Different elements and elements that are not zero: sums, products, inverses and quotients.
use Rattle.std.proofs.Common.{◌≡◌, Bool, true, false, ◌≢◌, Some, unwrap_or, sym, refl, ap, ◌∙◌}
use Rattle.fields.specs.Field.{Operations, FieldLaws}
use Rattle.fields.specs.Rings.{same_from_sum, zero_product, product_left_comm}
use Rattle.fields.specs.Fields.{zero_factor}
use Rattle.algebra.specs.Quotients.{quotient}
use Rattle.algebra.proofs.Identities.{ring}

module _ {F : Type 0} {o : Operations F} (L : FieldLaws o) where
  open o use {zero as 𝟘, one as 𝟙, sum as ◌⊕◌, product as ◌⊗◌}

  infixl 30 ◌⊕◌
  infixl 40 ◌⊗◌
  pub sum_of_same : (x y : F) → x ≡ y → x ⊕ y ≡ 𝟘
  sum_of_same x y h = ap (λ w. w ⊕ y) h ∙ L.ring.sum_self y

  pub sum_nonzero : (x y : F) → x ≢ y → x ⊕ y ≢ 𝟘
  sum_nonzero x y h e = h (same_from_sum L.ring x y e)

  pub equals_different : (x y : F) → x ≢ y → o.equals x y ≡ false
  equals_different x y h = go (o.equals x y) refl
    where
      go : (b : Bool) → o.equals x y ≡ b → b ≡ false
      go true e = absurd (h (L.equals_true x y e))
      go false e = refl

  pub sum_cancel : (x y z : F) → x ⊕ y ≡ z ⊕ y → x ≡ z
  sum_cancel x y z h = same_from_sum L.ring x z (apart x y z ∙ sum_of_same _ _ h)
    where
      apart : (x y z : F) → x ⊕ z ≡ (x ⊕ y) ⊕ (z ⊕ y)
      apart x y z = simp (ring, L.ring)

  pub product_nonzero : (x y : F) → x ≢ 𝟘 → y ≢ 𝟘 → x ⊗ y ≢ 𝟘
  product_nonzero x y h k e = k (zero_factor L x y h e)

  -- x / y is the element that y takes to x
  pub product_quotient : (x y : F) → y ≢ 𝟘 → y ⊗ quotient o x y ≡ x
  product_quotient x y h =
      let i = L.inverse_some y h in
      ap (λ w. y ⊗ (x ⊗ unwrap_or w 𝟘)) i.1 ∙ product_left_comm L.ring y x i.0 ∙ ap (λ w. x ⊗ w) i.2 ∙ L.ring.product_one x

  -- as a program divides
  pub quotient_by_inverse : (x y i : F) → o.inverse y ≡ Some i → quotient o x y ≡ x ⊗ i
  quotient_by_inverse x y i e = ap (λ w. x ⊗ unwrap_or w 𝟘) e

  pub product_cancel : (x y z : F) → x ≢ 𝟘 → x ⊗ y ≡ x ⊗ z → y ≡ z
  product_cancel x y z h e =
      same_from_sum L.ring y z (zero_factor L x (y ⊕ z) h (L.ring.product_sum x y z ∙ sum_of_same _ _ e))

  pub quotient_unique : (x y z : F) → y ≢ 𝟘 → y ⊗ z ≡ x → z ≡ quotient o x y
  quotient_unique x y z h e = product_cancel y z (quotient o x y) h (e ∙ sym (product_quotient x y h))

  pub product_of_quotient : (x y z : F) → x ⊗ quotient o y z ≡ quotient o (x ⊗ y) z
  product_of_quotient x y z = sym (L.ring.product_assoc _ _ _)

  pub inverse_unique : (x y : F) → x ⊗ y ≡ 𝟙 → o.inverse x ≡ Some y
  inverse_unique x y e =
      let h : x ≢ 𝟘 = λ z. L.one_not_zero (sym e ∙ ap (λ w. w ⊗ y) z ∙ zero_product L.ring y) in
      let i = L.inverse_some x h in
      i.1 ∙ ap Some (product_cancel x i.0 y h (i.2 ∙ sym e))
