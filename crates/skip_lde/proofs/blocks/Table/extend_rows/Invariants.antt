use Rattle.skip_lde.specs.Tables.{SumsEntriesOfRows}
use Rattle.skip_lde.proofs.blocks.Table.extend_rows.Given as goal

abbrev pub invariant-loop-r : goal.invariant-loop-r
invariant-loop-r g l = SumsEntriesOfRows g.F.Field.ops l.self.width l.self.row_bytes l.self.entries.now l.rows l.r l.out
