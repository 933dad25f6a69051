use Rattle.std.proofs.Common.{◌≡◌, ℕ, ◌<◌, get_or}
use Rattle.skip_lde.proofs.table.clear_row.Given as goal

abbrev pub invariant-loop-entry : goal.invariant-loop-entry
invariant-loop-entry g l = (i : ℕ) → i < l.entry-index → get_or l.entry-items i g.F.Field.ops.zero ≡ g.F.Field.ops.zero
