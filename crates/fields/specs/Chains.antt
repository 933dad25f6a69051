-- Chains of solutions from one on: where a level's basis ends, every chain does.
use Rattle.std.specs.Prelude.{◌≡◌, ℕ, zero, suc, ◌%◌, ◌<◌, ◌≤◌, Bool, true, false, ◌⊎◌, is_some, Some, None, Option, nat_lt, refl}
use Rattle.std.proofs.Common.{sym, ap, ap₂, ◌∙◌, inl, inr, arith}
use Rattle.std.proofs.lemmas.Bool.{true≢false, ltb-true, ltb-false, lt-ltb, le-ltb, cases_lt}
use Rattle.fields.specs.Field.{Operations, Ring, FieldLaws}
use Rattle.fields.specs.Tower.{Level, LevelLaws, Solving, phi, solution, cantor, width}
use Rattle.fields.specs.Rings.{sum_self_left, sum_self_right}
use Rattle.fields.specs.Fields.{phi_root}
use Rattle.fields.specs.Levels.{phi_sum, phi_zero, solve_root, solve_even, solve_some, root_of_some}

-- phi, k times
abbrev pub phis : {F : Type 0} → Operations F → ℕ → F → F
phis o zero x = x
phis o (suc k) x = phis o k (phi o x)

pub phis_last : {F : Type 0} (o : Operations F) (k : ℕ) (x : F) → phis o (suc k) x ≡ phi o (phis o k x)
phis_last o zero x = refl
phis_last o (suc k) x = phis_last o k (phi o x)

module _ {F : Type 0} {o : Operations F} (R : Ring o) where
  pub phis_sum : (k : ℕ) (x y : F) → phis o k (o.sum x y) ≡ o.sum (phis o k x) (phis o k y)
  phis_sum zero x y = refl
  phis_sum (suc k) x y = ap (phis o k) (phi_sum R x y) ∙ phis_sum k (phi o x) (phi o y)

-- each chain goes on from an element below n, and stops at the last
abbrev pub Ends : {F : Type 0} → Operations F → Level F → ℕ → Type 0
Ends {F} o l n = (k : ℕ) (x : F) → k < n → phis o k x ≡ o.one → is_some (l.solve x) ≡ nat_lt (suc k) n

module _ {F : Type 0} {o : Operations F} {l : Level F} (S : Solving o l) where
  pub phis_cantor : (k : ℕ) (v : F) → cantor o l k ≡ Some v → phis o k v ≡ o.one
  phis_cantor zero v e = let w : Some o.one ≡ Some v = e in cc
  phis_cantor (suc k) v e = go (phis_cantor k) (cantor o l k) refl e
    where
      go : ((u : F) → cantor o l k ≡ Some u → phis o k u ≡ o.one) → (s : Option F) → cantor o l k ≡ s → solution l s ≡ Some v → phis o k (phi o v) ≡ o.one
      go before (Some u) h e' = ap (phis o k) (solve_root S u v e') ∙ before u h
      go before None h e' = absurd (true≢false (sym (ap is_some e')))

  -- each next element of the basis solves the one before, with bit 0 clear
  pub cantor_down : (j : ℕ) (v w : F) → cantor o l j ≡ Some v → cantor o l (suc j) ≡ Some w → phi o w ≡ v
  cantor_down j v w e f = solve_root S v w (sym (ap (solution l) e) ∙ f)

  pub cantor_even : (j : ℕ) (w : F) → cantor o l (suc j) ≡ Some w → l.number w % 2 ≡ 0
  cantor_even j w e = go (cantor o l j) e
    where
      go : (s : Option F) → solution l s ≡ Some w → l.number w % 2 ≡ 0
      go (Some v) f = solve_even S v w f
      go None f = absurd (true≢false (sym (ap is_some f)))

  -- then the basis has n elements
  pub basis_from_ends : (n : ℕ) → 0 < n → Ends o l n → (j : ℕ) → is_some (cantor o l j) ≡ nat_lt j n
  basis_from_ends n p E zero = sym (lt-ltb 0 n p)
  basis_from_ends n p E (suc j) = go (cantor o l j) refl (basis_from_ends n p E j)
    where
      go : (s : Option F) → cantor o l j ≡ s → is_some s ≡ nat_lt j n → is_some (solution l s) ≡ nat_lt (suc j) n
      go (Some v) h e = E j v (ltb-true j n (sym e)) (phis_cantor j v h)
      go None h e = let m : n ≤ j = ltb-false j n (sym e) in sym (le-ltb (suc j) n (omega arith))

module _ {F : Type 0} {o : Operations F} {l : Level F} (L : FieldLaws o) (V : LevelLaws o l) where
  open o use {zero as 𝟘, one as 𝟙, sum as ◌⊕◌}

  infixl 30 ◌⊕◌
  element : (k : ℕ) → k < width l → (v : F) × (cantor o l k ≡ Some v)
  element k h = go (cantor o l k) refl (V.basis k ∙ lt-ltb k (width l) h)
    where
      go : (s : Option F) → cantor o l k ≡ s → is_some s ≡ true → (v : F) × (cantor o l k ≡ Some v)
      go (Some v) e i = (v, e)
      go None e i = absurd (true≢false (sym i))

  -- an element of the basis, and the next
  step : (k : ℕ) → suc k < width l → (v : F) × (u : F) × (phis o k v ≡ 𝟙) × (phi o u ≡ v)
  step k h = go (element k (omega arith)) (element (suc k) h)
    where
      go : (v : F) × (cantor o l k ≡ Some v) → (u : F) × (cantor o l (suc k) ≡ Some u) → (v : F) × (u : F) × (phis o k v ≡ 𝟙) × (phi o u ≡ v)
      go (v, e) (u, f) = (v, u, phis_cantor V.solving k v e, cantor_down V.solving k v u e f)

  -- what phi takes to zero in less steps than there are bits is phi of something
  kernel : (k : ℕ) (x : F) → k < width l → phis o k x ≡ 𝟘 → (y : F) × (phi o y ≡ x)
  kernel zero x h e = (𝟘, phi_zero L.ring ∙ sym e)
  kernel (suc k) x h e = go (λ z. kernel k z (omega arith)) (phi_root L (phis o k x) (sym (phis_last o k x) ∙ e)) (step k h)
    where
      R : Ring o
      R = L.ring

      go : ((z : F) → phis o k z ≡ 𝟘 → (y : F) × (phi o y ≡ z)) → (phis o k x ≡ 𝟘) ⊎ (phis o k x ≡ 𝟙) → (v : F) × (u : F) × (phis o k v ≡ 𝟙) × (phi o u ≡ v) → (y : F) × (phi o y ≡ x)
      go before (inl z) s = before x z
      go before (inr z) (v, u, f, g) =
          let below = before (x ⊕ v) (phis_sum R k x v ∙ ap₂ (λ a b. a ⊕ b) z f ∙ R.sum_self 𝟙) in
          (below.0 ⊕ u, phi_sum R below.0 u ∙ ap₂ (λ a b. a ⊕ b) below.1 g ∙ sum_self_right R x v)

  pub ends : Ends o l (width l)
  ends k x h e = go (cases_lt (suc k) (width l)) (element k h)
    where
      R : Ring o
      R = L.ring

      near : (v : F) → cantor o l k ≡ Some v → (y : F) × (phi o y ≡ x ⊕ v)
      near v f = kernel k (x ⊕ v) h (phis_sum R k x v ∙ ap₂ (λ a b. a ⊕ b) e (phis_cantor V.solving k v f) ∙ R.sum_self 𝟙)

      up : suc k < width l → (v : F) × (u : F) × (phis o k v ≡ 𝟙) × (phi o u ≡ v) → is_some (l.solve x) ≡ true
      up p (v, u, f, g) =
          let y = kernel k (x ⊕ v) h (phis_sum R k x v ∙ ap₂ (λ a b. a ⊕ b) e f ∙ R.sum_self 𝟙) in
          solve_some V.solving x (y.0 ⊕ u) (phi_sum R y.0 u ∙ ap₂ (λ a b. a ⊕ b) y.1 g ∙ sum_self_right R x v)

      stop : (v : F) → cantor o l k ≡ Some v → width l ≤ suc k → (b : Bool) → is_some (l.solve x) ≡ b → b ≡ false
      stop v f p false i = refl
      stop v f p true i =
          let z = root_of_some V.solving x i in
          let y = near v f in
          let some : is_some (l.solve v) ≡ true = solve_some V.solving v (z.0 ⊕ y.0) (phi_sum R z.0 y.0 ∙ ap₂ (λ a b. a ⊕ b) z.1 y.1 ∙ sum_self_left R x v) in
          sym some ∙ sym (ap (λ s. is_some (solution l s)) f) ∙ V.basis (suc k) ∙ le-ltb (suc k) (width l) p

      go : (suc k < width l) ⊎ (width l ≤ suc k) → (v : F) × (cantor o l k ≡ Some v) → is_some (l.solve x) ≡ nat_lt (suc k) (width l)
      go (inl p) w = up p (step k p) ∙ sym (lt-ltb (suc k) (width l) p)
      go (inr p) (v, f) = stop v f p (is_some (l.solve x)) refl ∙ sym (le-ltb (suc k) (width l) p)
