-- The equation y² + y = t over pairs: solved, exactly where its high part is.
use Rattle.std.specs.Prelude.{◌≡◌, ◌%◌, true, not, [], ◌∷◌, is_some, Some, None, Option, refl}
use Rattle.std.proofs.Common.{sym, ap, ◌∙◌, subst}
use Rattle.std.proofs.lemmas.Bool.{false≢true}
use Rattle.std.specs.Option.{option_map, option_or}
use Rattle.fields.specs.declared.pair.Pair.{Pair}
use Rattle.fields.specs.Field.{Operations, Ring}
use Rattle.fields.specs.Tower.{Level, Solves, Solving, phi}
use Rattle.fields.specs.Pairs.{pair, pair_ops, solve_low, pair_level}
use Rattle.fields.specs.Solver.{by_normal_form}
use Rattle.fields.specs.Solver.Term.{var, unit, plus, times}
use Rattle.fields.specs.PairLaws.{pair_eq, terms, X}
use Rattle.fields.specs.PairForm.{join_even}

module _ {B : Type 0} {o : Operations B} (R : Ring o) (top : B) where
  open o use {zero as 𝟘, one as 𝟙, sum as ◌⊕◌, product as ◌⊗◌}

  infixl 30 ◌⊕◌
  infixl 40 ◌⊗◌
  pub phi_high : (y : Pair B) → (phi (pair_ops o top) y).high ≡ phi o y.high
  phi_high y = by_normal_form R (top ∷ y.low ∷ y.high ∷ []) (phi terms X).high (plus (times (var 2) (var 2)) (var 2)) refl

  pub phi_low : (y : Pair B) → (phi (pair_ops o top) y).low ≡ phi o y.low ⊕ y.high ⊗ y.high ⊗ top
  phi_low y = by_normal_form R (top ∷ y.low ∷ y.high ∷ []) (phi terms X).low (plus (plus (times (var 1) (var 1)) (var 1)) (times (times (var 2) (var 2)) (var 0))) refl

  phi_parts : (a b c d : B) → phi o d ≡ b → phi o c ≡ a ⊕ d ⊗ d ⊗ top → phi (pair_ops o top) (pair c d) ≡ pair a b
  phi_parts a b c d p q = pair_eq _ _
      (phi_low (pair c d) ∙ ap (λ w. w ⊕ d ⊗ d ⊗ top) q ∙ by_normal_form R (a ∷ (d ⊗ d ⊗ top) ∷ []) (plus (plus (var 0) (var 1)) (var 1)) (var 0) refl)
      (phi_high (pair c d) ∙ p)

  phi_next : (d : B) → phi o (d ⊕ 𝟙) ≡ phi o d
  phi_next d = by_normal_form R (d ∷ []) (plus (times (plus (var 0) unit) (plus (var 0) unit)) (plus (var 0) unit)) (plus (times (var 0) (var 0)) (var 0)) refl

  next_low : (a d : B) → a ⊕ d ⊗ d ⊗ top ⊕ top ≡ a ⊕ (d ⊕ 𝟙) ⊗ (d ⊕ 𝟙) ⊗ top
  next_low a d = by_normal_form R (top ∷ a ∷ d ∷ []) (plus (plus (var 1) (times (times (var 2) (var 2)) (var 0))) (var 0)) (plus (var 1) (times (times (plus (var 2) unit) (plus (var 2) unit)) (var 0))) refl

module _ {B : Type 0} {o : Operations B} {l : Level B} (R : Ring o) (S : Solving o l) where
  open o use {zero as 𝟘, one as 𝟙, sum as ◌⊕◌, product as ◌⊗◌}

  infixl 30 ◌⊕◌
  infixl 40 ◌⊗◌
  pair_solves : (t : Pair B) → Solves (pair_ops o l.top) (pair_level o l) t ((pair_level o l).solve t)
  pair_solves t = go (l.solve t.high) (S.solves t.high)
    where
      made : (d c : B) → phi o d ≡ t.high → phi o c ≡ t.low ⊕ d ⊗ d ⊗ l.top → l.number c % 2 ≡ 0 → Solves (pair_ops o l.top) (pair_level o l) t (Some (pair c d))
      made d c p q e = (phi_parts R l.top t.low t.high c d p q, join_even l.log_bits (l.number c) (l.number d) e)

      last : (d : B) → phi o d ≡ t.high → (s : Option B) → Solves o l (t.low ⊕ d ⊗ d ⊗ l.top ⊕ l.top) s → is_some s ≡ true → Solves (pair_ops o l.top) (pair_level o l) t (option_map (λ c. pair c (d ⊕ 𝟙)) s)
      last d p (Some c) k i = made (d ⊕ 𝟙) c (phi_next R l.top d ∙ p) (k.0 ∙ next_low R l.top t.low d) k.1
      last d p None k i = absurd (false≢true i)

      low : (d : B) → phi o d ≡ t.high → (s : Option B) → Solves o l (t.low ⊕ d ⊗ d ⊗ l.top) s → is_some (l.solve (t.low ⊕ d ⊗ d ⊗ l.top ⊕ l.top)) ≡ not (is_some s)
          → Solves (pair_ops o l.top) (pair_level o l) t (option_or (option_map (λ c. pair c d) s) (option_map (λ c. pair c (d ⊕ 𝟙)) (l.solve (t.low ⊕ d ⊗ d ⊗ l.top ⊕ l.top))))
      low d p (Some c) k i = made d c p k.0 k.1
      low d p None k i = last d p (l.solve (t.low ⊕ d ⊗ d ⊗ l.top ⊕ l.top)) (S.solves (t.low ⊕ d ⊗ d ⊗ l.top ⊕ l.top)) i

      go : (s : Option B) → Solves o l t.high s → Solves (pair_ops o l.top) (pair_level o l) t (solve_low o l t.low s)
      go (Some d) k = low d k.0 (l.solve (t.low ⊕ d ⊗ d ⊗ l.top)) (S.solves (t.low ⊕ d ⊗ d ⊗ l.top)) (S.halves (t.low ⊕ d ⊗ d ⊗ l.top))
      go None k = λ y e. k y.high (sym (phi_high R l.top y) ∙ ap (λ w. w.high) e)

  pub solve_some_high : (t : Pair B) → is_some ((pair_level o l).solve t) ≡ is_some (l.solve t.high)
  solve_some_high t = go (l.solve t.high)
    where
      last : (d : B) (s : Option B) → is_some s ≡ true → is_some (option_map (λ c. pair c d) s) ≡ true
      last d (Some c) i = refl
      last d None i = i

      low : (d : B) (s z : Option B) → is_some z ≡ not (is_some s) → is_some (option_or (option_map (λ c. pair c d) s) (option_map (λ c. pair c (d ⊕ 𝟙)) z)) ≡ true
      low d (Some c) z i = refl
      low d None z i = last (d ⊕ 𝟙) z i

      go : (s : Option B) → is_some (solve_low o l t.low s) ≡ is_some s
      go (Some d) = low d (l.solve (t.low ⊕ d ⊗ d ⊗ l.top)) (l.solve (t.low ⊕ d ⊗ d ⊗ l.top ⊕ l.top)) (S.halves (t.low ⊕ d ⊗ d ⊗ l.top))
      go None = refl

  pub pair_solving : Solving (pair_ops o l.top) (pair_level o l)
  pair_solving = record { solves = pair_solves; halves = λ t. solve_some_high _ ∙ S.halves t.high ∙ ap not (sym (solve_some_high t)) }

  -- the ways of solving
  module _ (t : Pair B) where
    pub solve_none : None ≡ l.solve t.high → None ≡ (pair_level o l).solve t
    solve_none h = ap (solve_low o l t.low) h

    pub solve_first : (d c r : B) → Some d ≡ l.solve t.high → r ≡ t.low ⊕ d ⊗ d ⊗ l.top → Some c ≡ l.solve r → Some (pair c d) ≡ (pair_level o l).solve t
    solve_first d c r h e k =
        ap (λ s. option_or (option_map (λ c. pair c d) s) (option_map (λ c. pair c (d ⊕ 𝟙)) (l.solve (t.low ⊕ d ⊗ d ⊗ l.top ⊕ l.top)))) (k ∙ ap l.solve e)
        ∙ ap (solve_low o l t.low) h

    pub solve_second : (d c r : B) → Some d ≡ l.solve t.high → r ≡ t.low ⊕ d ⊗ d ⊗ l.top → None ≡ l.solve r → Some c ≡ l.solve (r ⊕ l.top) → Some (pair c (d ⊕ 𝟙)) ≡ (pair_level o l).solve t
    solve_second d c r h e n k =
        ap (option_map (λ c. pair c (d ⊕ 𝟙))) (k ∙ ap (λ w. l.solve (w ⊕ l.top)) e)
        ∙ ap (λ s. option_or (option_map (λ c. pair c d) s) (option_map (λ c. pair c (d ⊕ 𝟙)) (l.solve (t.low ⊕ d ⊗ d ⊗ l.top ⊕ l.top)))) (n ∙ ap l.solve e)
        ∙ ap (solve_low o l t.low) h

    pub solve_neither : (d r : B) → Some d ≡ l.solve t.high → r ≡ t.low ⊕ d ⊗ d ⊗ l.top → None ≡ l.solve r → None ≡ l.solve (r ⊕ l.top) → None ≡ (pair_level o l).solve t
    solve_neither d r h e n k =
        ap (option_map (λ c. pair c (d ⊕ 𝟙))) (k ∙ ap (λ w. l.solve (w ⊕ l.top)) e)
        ∙ ap (λ s. option_or (option_map (λ c. pair c d) s) (option_map (λ c. pair c (d ⊕ 𝟙)) (l.solve (t.low ⊕ d ⊗ d ⊗ l.top ⊕ l.top)))) (n ∙ ap l.solve e)
        ∙ ap (solve_low o l t.low) h

    -- what equals the solution solves
    pub solves_of : (r : Option (Pair B)) → r ≡ (pair_level o l).solve t → Solves (pair_ops o l.top) (pair_level o l) t r
    solves_of r e = subst (Solves (pair_ops o l.top) (pair_level o l) t) (sym e) (pair_solves t)
