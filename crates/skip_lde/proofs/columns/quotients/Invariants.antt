use Rattle.std.proofs.Common.{◌≡◌, ℕ, ◌<◌, get_or}
use Rattle.algebra.specs.Quotients.{quotient}
use Rattle.skip_lde.proofs.columns.quotients.Given as goal

abbrev pub invariant-loop-j : goal.invariant-loop-j
invariant-loop-j g l = (k : ℕ) → k < l.j → get_or l.value-items k g.F.Field.ops.zero ≡ quotient g.F.Field.ops l.vanishing (g.F.Field.ops.sum l.t (get_or l.points k g.F.Field.ops.zero))
