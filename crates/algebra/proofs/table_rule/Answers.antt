use Rattle.algebra.proofs.Spans.{points_spanned}
use Rattle.algebra.proofs.Tables.{lagrange_of_byte}
use Rattle.algebra.proofs.table_rule.Goals as goal

pub returns : goal.returns
returns g c = let L = g.met.F.Field.laws in lagrange_of_byte L (points_spanned L g.met.F.TowerLevel.tower)
