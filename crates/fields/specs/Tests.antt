-- A test that is computed at each number below a bound.
use Rattle.std.specs.Prelude.{◌≡◌, ℕ, zero, suc, ◌<◌, Bool, true, false, T, refl}
use Rattle.std.proofs.Common.{sym, subst, not-suc-le-zero, arith}
use Rattle.std.proofs.Math.Decide.{dec_lt}

abbrev pub every : (ℕ → Bool) → ℕ → Bool
every f zero = true
every f (suc n) = elim (f n) [ true ↦ every f n | false ↦ false ]

pub every_at : (f : ℕ → Bool) (n : ℕ) → T (every f n) → (k : ℕ) → k < n → T (f k)
every_at f zero t k h = absurd (not-suc-le-zero h)
every_at f (suc n) t k h = go (f n) refl t (every_at f n) (dec_lt k n)
  where
    go : (b : Bool) → f n ≡ b → T (elim b [ true ↦ every f n | false ↦ false ]) → (T (every f n) → (j : ℕ) → j < n → T (f j)) → Dec (k < n) → T (f k)
    go true e u ih (yes l) = ih u k l
    go true e u ih (no l) = let same : n ≡ k = omega arith in subst (λ j. T (f j)) same (subst T (sym e) tt)
    go false e u ih d = absurd u

pub truly : (b : Bool) → T b → b ≡ true
truly true t = refl
truly false t = absurd t
