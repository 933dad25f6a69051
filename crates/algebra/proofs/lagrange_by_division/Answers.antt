use Rattle.algebra.proofs.Spans.{points_spanned}
use Rattle.algebra.proofs.Subspaces.{spanned_barycentric}
use Rattle.algebra.proofs.lagrange_by_division.Goals as goal

pub returns : goal.returns
returns g c = let L = g.met.F.Field.laws in spanned_barycentric L (points_spanned L g.met.F.TowerLevel.tower)
