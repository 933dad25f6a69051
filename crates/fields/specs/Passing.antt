-- The number below a bound that passes a test, where only one does or none.
use Rattle.std.specs.Prelude.{◌≡◌, ℕ, zero, suc, ◌<◌, Bool, true, false, cond, Some, None, ◌≢◌, refl}
use Rattle.std.proofs.Common.{sym, ap, ◌∙◌, arith}
use Rattle.std.proofs.lemmas.Bool.{true≢false}
use Rattle.fields.specs.Bytes.{passing}

pub passing_only : (p : ℕ → Bool) (y n : ℕ) → y < n → p y ≡ true → ((z : ℕ) → z < n → p z ≡ true → z ≡ y) → passing p n ≡ Some y
unfolding passing
passing_only p y zero l h only = absurd (omega arith)
passing_only p y (suc n) l h only = go (passing_only p y n) (p n) refl
  where
    go : (y < n → p y ≡ true → ((z : ℕ) → z < n → p z ≡ true → z ≡ y) → passing p n ≡ Some y) → (b : Bool) → p n ≡ b → cond b (Some n) (passing p n) ≡ Some y
    go ih true e = ap Some (only n (omega arith) e)
    go ih false e =
        let apart : n ≡ y → ⊥ = λ s. true≢false (sym h ∙ ap p (sym s) ∙ e) in
        let less : y < n = omega arith in
        ih less h (λ z k. only z (omega arith))

pub passing_none : (p : ℕ → Bool) (n : ℕ) → ((z : ℕ) → z < n → p z ≢ true) → passing p n ≡ None
unfolding passing
passing_none p zero no_one = refl
passing_none p (suc n) no_one = go (passing_none p n (λ z k. no_one z (omega arith))) (p n) refl
  where
    go : passing p n ≡ None → (b : Bool) → p n ≡ b → cond b (Some n) (passing p n) ≡ None
    go ih true e = absurd (no_one n (omega arith) e)
    go ih false e = ih
