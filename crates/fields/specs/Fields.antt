-- Consequences of a field's laws.
use Rattle.std.specs.Prelude.{◌≡◌, Bool, true, false, ◌⊎◌, [], ◌∷◌, Some, ◌≢◌, refl}
use Rattle.std.proofs.Common.{sym, ap, ◌∙◌, inl, inr}
use Rattle.std.proofs.lemmas.Bool.{true≢false}
use Rattle.fields.specs.Field.{Operations, FieldLaws}
use Rattle.fields.specs.Tower.{phi}
use Rattle.fields.specs.Rings.{zero_product, same_from_sum}
use Rattle.fields.specs.Solver.{by_normal_form}
use Rattle.fields.specs.Solver.Term.{var, unit, plus, times}

module _ {F : Type 0} {o : Operations F} (L : FieldLaws o) where
  open o use {zero as 𝟘, one as 𝟙, sum as ◌⊕◌, product as ◌⊗◌}

  infixl 30 ◌⊕◌
  infixl 40 ◌⊗◌
  pub same_or_not : (x y : F) → (x ≡ y) ⊎ (x ≢ y)
  same_or_not x y = go (o.equals x y) refl
    where
      go : (b : Bool) → o.equals x y ≡ b → (x ≡ y) ⊎ (x ≢ y)
      go true h = inl (L.equals_true x y h)
      go false h = inr (λ e. true≢false (sym (L.equals_same x) ∙ ap (o.equals x) e ∙ h))

  -- no zero divisors
  pub zero_factor : (x y : F) → (x ≢ 𝟘) → x ⊗ y ≡ 𝟘 → y ≡ 𝟘
  zero_factor x y h e = go (L.inverse_some x h)
    where
      go : (i : F) × (o.inverse x ≡ Some i) × (x ⊗ i ≡ 𝟙) → y ≡ 𝟘
      go (i, f, k) =
          let R = L.ring in
          sym (R.product_one y) ∙ ap (λ w. y ⊗ w) (sym k) ∙ by_normal_form R (x ∷ y ∷ i ∷ []) (times (var 1) (times (var 0) (var 2))) (times (times (var 0) (var 1)) (var 2)) refl
          ∙ ap (λ w. w ⊗ i) e ∙ zero_product R i

  pub square_zero : (x : F) → x ⊗ x ≡ 𝟘 → x ≡ 𝟘
  square_zero x e = go (same_or_not x 𝟘)
    where
      go : (x ≡ 𝟘) ⊎ (x ≢ 𝟘) → x ≡ 𝟘
      go (inl h) = h
      go (inr h) = zero_factor x x h e

  pub phi_root : (x : F) → phi o x ≡ 𝟘 → (x ≡ 𝟘) ⊎ (x ≡ 𝟙)
  phi_root x e = go (same_or_not x 𝟘)
    where
      go : (x ≡ 𝟘) ⊎ (x ≢ 𝟘) → (x ≡ 𝟘) ⊎ (x ≡ 𝟙)
      go (inl h) = inl h
      go (inr h) = inr (same_from_sum L.ring x 𝟙 (zero_factor x (x ⊕ 𝟙) h (by_normal_form L.ring (x ∷ []) (times (var 0) (plus (var 0) unit)) (plus (times (var 0) (var 0)) (var 0)) refl ∙ e)))
