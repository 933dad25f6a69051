-- The Cantor basis of pairs is twice as long as that of their halves, and the laws of their level.
use Rattle.std.specs.Prelude.{◌≡◌, ℕ, zero, suc, ◌+◌, ◌-◌, ◌<◌, ◌≤◌, true, ltb, ◌⊎◌, [], ◌∷◌, is_some, ◌≢◌, nat_lt, refl}
use Rattle.std.proofs.Common.{sym, ap, ap₂, ◌∙◌, inl, inr, suc-add, arith, pow_pos}
use Rattle.std.proofs.lemmas.Bool.{true≢false, lt-ltb, le-ltb, cases_lt}
use Rattle.fields.specs.declared.pair.Pair.{Pair}
use Rattle.fields.specs.Field.{Operations, Ring, FieldLaws}
use Rattle.fields.specs.Tower.{Level, LevelLaws, phi, width}
use Rattle.fields.specs.Pairs.{pair, pair_ops, pair_level}
use Rattle.fields.specs.Rings.{sum_self_left}
use Rattle.fields.specs.Solver.{by_normal_form}
use Rattle.fields.specs.Solver.Term.{var, nil, unit, plus, times}
use Rattle.fields.specs.Fields.{phi_root}
use Rattle.fields.specs.Levels.{phi_sum, phi_zero, solve_some, root_of_some, no_root}
use Rattle.fields.specs.Chains.{phis, Ends, ends, basis_from_ends}
use Rattle.fields.specs.PairForm.{pair_form, twice_wide}
use Rattle.fields.specs.PairSolve.{phi_low, phi_high, pair_solving, solve_some_high}

module _ {B : Type 0} {o : Operations B} {l : Level B} (L : FieldLaws o) (V : LevelLaws o l) where
  open o use {zero as 𝟘, one as 𝟙, sum as ◌⊕◌, product as ◌⊗◌}

  infixl 30 ◌⊕◌
  infixl 40 ◌⊗◌
  R : Ring o
  R = L.ring

  abbrev P : Operations (Pair B)
  P = pair_ops o l.top

  low_at_zero : (v : Pair B) → v.high ≡ 𝟘 → phi o v.low ≡ (phi P v).low
  low_at_zero v z = sym (phi_low R l.top v ∙ ap (λ w. phi o v.low ⊕ w ⊗ w ⊗ l.top) z ∙ by_normal_form R (l.top ∷ phi o v.low ∷ []) (plus (var 1) (times (times nil nil) (var 0))) (var 1) refl)

  low_at_one : (v : Pair B) → v.high ≡ 𝟙 → phi o v.low ≡ (phi P v).low ⊕ l.top
  low_at_one v z = by_normal_form R (l.top ∷ phi o v.low ∷ []) (var 1) (plus (plus (var 1) (times (times unit unit) (var 0))) (var 0)) refl ∙ ap (λ w. phi o v.low ⊕ w ⊗ w ⊗ l.top ⊕ l.top) (sym z) ∙ ap (λ w. w ⊕ l.top) (sym (phi_low R l.top v))

  high_root : (v : Pair B) → (phi P v).high ≡ 𝟘 → (v.high ≡ 𝟘) ⊎ (v.high ≡ 𝟙)
  high_root v e = phi_root L v.high (sym (phi_high R l.top v) ∙ e)

  -- the first half of a chain lies in B
  lows : (k : ℕ) (v : Pair B) → k < width l → phis P k v ≡ pair 𝟙 𝟘 → (v.high ≡ 𝟘) × (phis o k v.low ≡ 𝟙)
  lows zero v h e = (ap (λ w. w.high) e, ap (λ w. w.low) e)
  lows (suc k) v h e = go (lows k (phi P v) (omega arith) e)
    where
      off : phis o k (phi P v).low ≡ 𝟙 → v.high ≢ 𝟙
      off f u =
          let some : is_some (l.solve (phi P v).low) ≡ true = ends L V k (phi P v).low (omega arith) f ∙ lt-ltb (suc k) (width l) h in
          let y = root_of_some V.solving (phi P v).low some in
          no_root V.solving R (y.0 ⊕ v.low) (phi_sum R y.0 v.low ∙ ap₂ (λ a b. a ⊕ b) y.1 (low_at_one v u) ∙ sum_self_left R _ _)

      at : phis o k (phi P v).low ≡ 𝟙 → (v.high ≡ 𝟘) ⊎ (v.high ≡ 𝟙) → (v.high ≡ 𝟘) × (phis o k (phi o v.low) ≡ 𝟙)
      at f (inl z) = (z, ap (phis o k) (low_at_zero v z) ∙ f)
      at f (inr u) = absurd (off f u)

      go : ((phi P v).high ≡ 𝟘) × (phis o k (phi P v).low ≡ 𝟙) → (v.high ≡ 𝟘) × (phis o k (phi o v.low) ≡ 𝟙)
      go (z, f) = at f (high_root v z)

  -- the next element has high part one
  turn : (k : ℕ) (v : Pair B) → suc k ≡ width l → phis P (suc k) v ≡ pair 𝟙 𝟘 → v.high ≡ 𝟙
  turn k v h e = go (lows k (phi P v) (omega arith) e)
    where
      at : phis o k (phi P v).low ≡ 𝟙 → (v.high ≡ 𝟘) ⊎ (v.high ≡ 𝟙) → v.high ≡ 𝟙
      at f (inr u) = u
      at f (inl z) = absurd (true≢false (sym (solve_some V.solving (phi P v).low v.low (low_at_zero v z)) ∙ ends L V k (phi P v).low (omega arith) f ∙ le-ltb (suc k) (width l) (omega arith)))

      go : ((phi P v).high ≡ 𝟘) × (phis o k (phi P v).low ≡ 𝟙) → v.high ≡ 𝟙
      go (z, f) = at f (high_root v z)

  -- and from there on the high parts are a chain of B
  highs : (k i : ℕ) (v : Pair B) → suc k ≡ width l → phis P (i + suc k) v ≡ pair 𝟙 𝟘 → phis o i v.high ≡ 𝟙
  highs k zero v h e = let z : zero + suc k ≡ suc k = omega arith in turn k v h (sym (ap (λ j. phis P j v) z) ∙ e)
  highs k (suc i) v h e = ap (phis o i) (sym (phi_high R l.top v)) ∙ highs k i (phi P v) h (sym (ap (λ j. phis P j v) (suc-add i (suc k))) ∙ e)

  pair_ends : Ends P (pair_level o l) (width l + width l)
  pair_ends j v h e = solve_some_high R V.solving v ∙ go (cases_lt j (width l))
    where
      p : 0 < width l
      p = pow_pos l.log_bits

      go : (j < width l) ⊎ (width l ≤ j) → is_some (l.solve v.high) ≡ nat_lt (suc j) (width l + width l)
      go (inl m) =
          let q = p in
          solve_some V.solving v.high 𝟘 (phi_zero R ∙ sym (lows j v m e).0) ∙ sym (lt-ltb (suc j) (width l + width l) (omega arith))
      go (inr m) =
          let q = p in
          let k : suc (width l - 1) ≡ width l = omega arith in
          let i : (j - width l) + suc (width l - 1) ≡ j = omega arith in
          ends L V (j - width l) v.high (omega arith) (highs (width l - 1) (j - width l) v k (ap (λ n. phis P n v) i ∙ e)) ∙ same (cases_lt (suc (j - width l)) (width l))
        where
          same : (suc (j - width l) < width l) ⊎ (width l ≤ suc (j - width l)) → nat_lt (suc (j - width l)) (width l) ≡ nat_lt (suc j) (width l + width l)
          same (inl n) = lt-ltb _ _ n ∙ sym (lt-ltb (suc j) (width l + width l) (omega arith))
          same (inr n) = le-ltb _ _ n ∙ sym (le-ltb (suc j) (width l + width l) (omega arith))

  pub pair_tower : LevelLaws (pair_ops o l.top) (pair_level o l)
  pair_tower = record {
    form = pair_form V.form;
    solving = pair_solving R V.solving;
    basis = λ j. basis_from_ends (pair_solving R V.solving) (width l + width l) (let p = pow_pos l.log_bits in omega arith) pair_ends j ∙ ap (ltb j) (sym (twice_wide l.log_bits));
  }
