use Rattle.std.proofs.Common.{◌≡◌, ℕ, ◌*◌, ◌<◌, get_or}
use Rattle.skip_lde.specs.Tables.{entries_sum}
use Rattle.skip_lde.proofs.blocks.Table.extend_row.Given as goal

abbrev pub invariant-loop-q : goal.invariant-loop-q
invariant-loop-q g l = (p : ℕ) → p < 8 * l.q → get_or l.out p g.F.Field.ops.zero ≡ entries_sum g.F.Field.ops l.self.width l.self.entries.now l.row p
