use Rattle.std.proofs.Common.{◌∙◌, ap₂, arith}
use Rattle.skip_lde.specs.Tables.{entries_sum}
use Rattle.skip_lde.proofs.Extensions.{entries_extend}
use Rattle.skip_lde.proofs.lde.CompressedLde.extend.Goals as goal

pub returns-clause-values : goal.returns-clause-values
returns-clause-values g c B i h =
    let o = g.F.Field.ops in
    let d = c.args.self.now.dimensions in
    let n = c.new.ensures.width in
    c.extend_row.ensures i (omega arith) ∙ ap₂ (λ n table. entries_sum o n table c.args.row.now i) n c.new.ensures.entries
    ∙ entries_extend g.met.F.Field.laws g.met.F.TowerLevel.tower d.log_size d.whole (let f = B.fits in omega (arith, d.larger)) d.log_extended c.args.table.now c.args.row.now i d.larger B (omega arith) h
