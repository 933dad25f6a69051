-- Pairs extend what their halves extend.
use Rattle.std.specs.Prelude.{◌≡◌, Bool, true, false, cond, [], ◌∷◌, Some, None, Option, refl}
use Rattle.std.proofs.Common.{sym, ap, ◌∙◌, subst}
use Rattle.std.proofs.lemmas.Bool.{true≢false, cond-true, cond-false}
use Rattle.fields.specs.declared.pair.Pair.{Pair}
use Rattle.fields.specs.Field.{Operations, FieldLaws}
use Rattle.fields.specs.Extension.{Embedding, Lies, ExtensionLaws}
use Rattle.fields.specs.Pairs.{pair, pair_ops, pair_embedding}
use Rattle.fields.specs.Solver.Term.{var, nil, times}
use Rattle.fields.specs.PairLaws.{pair_eq, terms, X, pair_by_normal_form}

module _ {F B : Type 0} {o : Operations F} {p : Operations B} {m : Embedding F B} (M : FieldLaws p) (top : B) (E : ExtensionLaws o p m) where
  pub pair_extends : ExtensionLaws o (pair_ops p top) (pair_embedding p m)
  pair_extends = record {
    keeps = record {
      one = ap (λ w. pair w p.zero) E.keeps.one;
      sum = λ x y. pair_eq _ _ (E.keeps.sum x y) (sym (M.ring.sum_zero p.zero));
      product = λ x y. ap (λ w. pair w p.zero) (E.keeps.product x y)
          ∙ pair_by_normal_form M.ring top (top ∷ m.embed x ∷ m.embed y ∷ []) (pair (times (var 1) (var 2)) nil) (terms.product (pair (var 1) nil) (pair (var 2) nil)) refl refl;
    };
    lies = λ e. at e (p.equals e.high p.zero) refl;
  }
    where
      within : (e : Pair B) → e.high ≡ p.zero → (s : Option F) → Lies m e.low s → Lies (pair_embedding p m) e s
      within e z (Some x) h = pair_eq _ _ h (sym z)
      within e z None h = λ x k. h x (ap (λ w. w.low) k)

      at : (e : Pair B) (b : Bool) → p.equals e.high p.zero ≡ b → Lies (pair_embedding p m) e (cond b (m.base e.low) None)
      at e true h = within e (M.equals_true _ _ h) (m.base e.low) (E.lies e.low)
      at e false h = λ x k. true≢false (sym (M.equals_same p.zero) ∙ ap (λ w. p.equals w.high p.zero) k ∙ h)

  -- a product with an image, half by half
  pub scale_halves : (e : Pair B) (x : F) → pair (p.product e.low (m.embed x)) (p.product e.high (m.embed x)) ≡ (pair_ops p top).product e ((pair_embedding p m).embed x)
  scale_halves e x = pair_by_normal_form M.ring top (top ∷ e.low ∷ e.high ∷ m.embed x ∷ []) (pair (times (var 1) (var 3)) (times (var 2) (var 3))) (terms.product X (pair (var 3) nil)) refl refl

  -- what a test for zero says, by an equality that is the field's
  pub tested : {same : B → B → Bool} → ((x y : B) → same x y ≡ p.equals x y) → (x z : B) (b : Bool) → z ≡ p.zero → b ≡ same x z → p.equals x p.zero ≡ b
  tested e x z b h k = ap (p.equals x) (sym h) ∙ sym (e x z) ∙ sym k

  pub base_low : (e : Pair B) (r : Option F) → p.equals e.high p.zero ≡ true → r ≡ m.base e.low → r ≡ (pair_embedding p m).base e
  base_low e r h k = k ∙ sym (cond-true _ _ _ h)

  pub base_none : (e : Pair B) → p.equals e.high p.zero ≡ false → None ≡ (pair_embedding p m).base e
  base_none e h = sym (cond-false _ _ _ h)

  -- what equals the base lies there
  pub lies_of : (e : Pair B) (r : Option F) → r ≡ (pair_embedding p m).base e → Lies (pair_embedding p m) e r
  lies_of e r k = subst (Lies (pair_embedding p m) e) (sym k) (pair_extends.lies e)
