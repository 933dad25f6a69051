use Rattle.std.proofs.Common.{refl}
use Rattle.algebra.proofs.Spans.{points_spanned, spanned_apart}
use Rattle.skip_domain.proofs.Spans.{room_within}
use Rattle.skip_domain.proofs.domain.SkipDomain.log_extended.Goals as goal

pub returns : goal.returns
returns g c =
    let L = g.met.F.Field.laws in
    let V = g.met.F.TowerLevel.tower in
    let e = c.args.self.now.dimensions.log_extended in
    let w = room_within L V e c.args.self.now.room in
    record { value = refl; within = w; different = spanned_apart L (points_spanned L V) e w; room = c.args.self.now.room }
