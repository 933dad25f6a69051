use Rattle.algebra.proofs.Spans.{points_spanned, spanned_vanishes}
use Rattle.algebra.proofs.vanishing_is_product.Goals as goal

pub returns : goal.returns
returns g c = let L = g.met.F.Field.laws in spanned_vanishes L (points_spanned L g.met.F.TowerLevel.tower)
