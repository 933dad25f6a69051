use Rattle.algebra.proofs.Embeddings.{embedded_points_spanned}
use Rattle.algebra.proofs.Spans.{spanned_vanishes}
use Rattle.algebra.proofs.vanishing_in_extensions.Goals as goal

pub returns : goal.returns
returns g c e h =
    let L = g.met.F.Field.laws in
    let M = g.met.E.Field.laws in
    spanned_vanishes M (embedded_points_spanned L M h g.met.F.TowerLevel.tower)
