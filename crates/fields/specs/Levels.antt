-- Consequences of a level's laws.
use Rattle.std.specs.Prelude.{◌≡◌, ◌%◌, true, false, not, [], ◌∷◌, is_some, Some, None, Option, ◌≢◌, refl}
use Rattle.std.proofs.Common.{sym, ap, ◌∙◌, subst}
use Rattle.std.proofs.lemmas.Bool.{true≢false}
use Rattle.fields.specs.Field.{Operations, Ring}
use Rattle.fields.specs.Tower.{Level, Solves, Solving, phi}
use Rattle.fields.specs.Rings.{zero_sum}
use Rattle.fields.specs.Solver.{by_normal_form}
use Rattle.fields.specs.Solver.Term.{var, nil, unit, plus, times}

module _ {F : Type 0} {o : Operations F} (R : Ring o) where
  open o use {zero as 𝟘, one as 𝟙, sum as ◌⊕◌, product as ◌⊗◌}

  infixl 30 ◌⊕◌
  infixl 40 ◌⊗◌
  pub phi_sum : (x y : F) → phi o (x ⊕ y) ≡ phi o x ⊕ phi o y
  phi_sum x y = by_normal_form R (x ∷ y ∷ []) (plus (times (plus (var 0) (var 1)) (plus (var 0) (var 1))) (plus (var 0) (var 1))) (plus (plus (times (var 0) (var 0)) (var 0)) (plus (times (var 1) (var 1)) (var 1))) refl

  pub phi_zero : phi o 𝟘 ≡ 𝟘
  phi_zero = by_normal_form R [] (plus (times nil nil) nil) nil refl

  pub phi_one : phi o 𝟙 ≡ 𝟘
  phi_one = by_normal_form R [] (plus (times unit unit) unit) nil refl

module _ {F : Type 0} {o : Operations F} {l : Level F} (S : Solving o l) where
  pub solve_root : (t y : F) → l.solve t ≡ Some y → phi o y ≡ t
  solve_root t y e = (subst (Solves o l t) e (S.solves t)).0

  pub solve_even : (t y : F) → l.solve t ≡ Some y → l.number y % 2 ≡ 0
  solve_even t y e = (subst (Solves o l t) e (S.solves t)).1

  pub solve_some : (t y : F) → phi o y ≡ t → is_some (l.solve t) ≡ true
  solve_some t y h = go (l.solve t) (S.solves t)
    where
      go : (s : Option F) → Solves o l t s → is_some s ≡ true
      go (Some x) k = refl
      go None k = absurd (k y h)

  pub root_of_some : (t : F) → is_some (l.solve t) ≡ true → (y : F) × (phi o y ≡ t)
  root_of_some t e = go (l.solve t) (S.solves t) e
    where
      go : (s : Option F) → Solves o l t s → is_some s ≡ true → (y : F) × (phi o y ≡ t)
      go (Some y) k e' = (y, k.0)
      go None k e' = absurd (true≢false (sym e'))

  -- 0 has a solution, so top has none
  pub no_root : Ring o → (y : F) → phi o y ≢ l.top
  no_root R y e =
      let none : is_some (l.solve (o.sum o.zero l.top)) ≡ false = S.halves o.zero ∙ ap not (solve_some o.zero o.zero (phi_zero R)) in
      true≢false (sym (solve_some l.top y e) ∙ ap (λ t. is_some (l.solve t)) (sym (zero_sum R l.top)) ∙ none)
