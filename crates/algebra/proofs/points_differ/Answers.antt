use Rattle.std.proofs.Common.{arith}
use Rattle.fields.specs.Tower.{width}
use Rattle.algebra.proofs.Spans.{points_spanned, spanned_apart}
use Rattle.algebra.proofs.points_differ.Goals as goal

pub returns : goal.returns
returns g c =
    let L = g.met.F.Field.laws in
    spanned_apart L (points_spanned L g.met.F.TowerLevel.tower) (width g.F.TowerLevel.level) (omega arith)
