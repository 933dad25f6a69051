use Rattle.algebra.proofs.NonzeroProducts.{nonzero_product_one}
use Rattle.algebra.proofs.Spans.{points_spanned}
use Rattle.algebra.proofs.nonzero_product_is_one.Goals as goal

pub returns : goal.returns
returns g c = let L = g.met.F.Field.laws in nonzero_product_one L (points_spanned L g.met.F.TowerLevel.tower)
