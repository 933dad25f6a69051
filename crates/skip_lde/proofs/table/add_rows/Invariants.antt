use Rattle.std.proofs.Common.{◌≡◌, ℕ, ◌<◌, get_or}
use Rattle.skip_lde.proofs.table.add_rows.Given as goal

abbrev pub invariant-loop-i : goal.invariant-loop-i
invariant-loop-i g l = (k : ℕ) → k < l.i → get_or l.entry-items k g.F.Field.ops.zero ≡ g.F.Field.ops.sum (get_or l.rest_row k g.F.Field.ops.zero) (get_or l.bit_row k g.F.Field.ops.zero)
