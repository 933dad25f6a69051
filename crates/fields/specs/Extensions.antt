-- A field extends itself, and the consequences of an extension's laws.
use Rattle.std.specs.Prelude.{◌≡◌, ◌⊎◌, Some, None, Option, ◌≢◌, refl}
use Rattle.std.proofs.Common.{sym, ap, ◌∙◌, inl, inr}
use Rattle.fields.specs.Field.{Operations, FieldLaws}
use Rattle.fields.specs.Extension.{Embedding, Lies, ExtensionLaws, itself}
use Rattle.fields.specs.Rings.{same_from_sum, zero_product}
use Rattle.fields.specs.Fields.{same_or_not}

pub self_extends : {F : Type 0} (o : Operations F) → ExtensionLaws o o itself
self_extends o = record { keeps = record { one = refl; sum = λ x y. refl; product = λ x y. refl }; lies = λ e. refl }

module _ {F E : Type 0} {o : Operations F} {p : Operations E} {m : Embedding F E} (L : FieldLaws o) (M : FieldLaws p) (X : ExtensionLaws o p m) where
  pub embed_zero : m.embed o.zero ≡ p.zero
  embed_zero = ap m.embed (sym (L.ring.sum_self o.zero)) ∙ X.keeps.sum o.zero o.zero ∙ M.ring.sum_self (m.embed o.zero)

  nonzero : (x : F) → (x ≢ o.zero) → m.embed x ≢ p.zero
  nonzero x h e = go (L.inverse_some x h)
    where
      go : (y : F) × (o.inverse x ≡ Some y) × (o.product x y ≡ o.one) → ⊥
      go (y, f, k) = M.one_not_zero (sym X.keeps.one ∙ ap m.embed (sym k) ∙ X.keeps.product x y ∙ ap (λ w. p.product w (m.embed y)) e ∙ zero_product M.ring (m.embed y))

  pub embed_injective : (x y : F) → m.embed x ≡ m.embed y → x ≡ y
  embed_injective x y e = same_from_sum L.ring x y (go (same_or_not L (o.sum x y) o.zero))
    where
      go : (o.sum x y ≡ o.zero) ⊎ (o.sum x y ≢ o.zero) → o.sum x y ≡ o.zero
      go (inl z) = z
      go (inr n) = absurd (nonzero (o.sum x y) n (X.keeps.sum x y ∙ ap (λ w. p.sum w (m.embed y)) e ∙ M.ring.sum_self (m.embed y)))

  pub base_embed : (x : F) → m.base (m.embed x) ≡ Some x
  base_embed x = go (m.base (m.embed x)) (X.lies (m.embed x))
    where
      go : (s : Option F) → Lies m (m.embed x) s → s ≡ Some x
      go (Some y) h = ap Some (embed_injective y x h)
      go None h = absurd (h x refl)
