use Rattle.std.proofs.Common.{◌≡◌, ℕ, false}
use Rattle.measuring.specs.Repetitions.{Repeated}
use Rattle.measuring.proofs.Repetitions.{Alone}
use Rattle.measuring.proofs.timing.Outcome.of.Given as goal

-- c is the checksum of the repetitions so far: what was taken, where each was, and after the last
abbrev pub invariant-loop-i : goal.invariant-loop-i
invariant-loop-i g l =
    (c : ℕ) × Repeated g.T.Timed.repeats g.T.Timed.sum l.i l.initial.timed l.timed c
    × (l.last_alone ≡ false → c ≡ l.checksum) × (l.i ≡ l.repetitions → c ≡ l.checksum)
    × Alone g.T.Timed.sum l.last_alone
