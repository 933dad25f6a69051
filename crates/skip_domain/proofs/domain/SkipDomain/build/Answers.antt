use Rattle.algebra.specs.Points.{point}
use Rattle.algebra.proofs.Spans.{points_spanned, spanned_apart}
use Rattle.skip_domain.proofs.domain.SkipDomain.build.Goals as goal

pub invariant_of-result : goal.invariant_of-result
invariant_of-result g c =
    let L = g.met.F.Field.laws in
    record { room = ∣ (point g.F.Field.ops g.F.TowerLevel.level, spanned_apart L (points_spanned L g.met.F.TowerLevel.tower) c.args.dimensions.log_extended c.requires) ∣₁ }

pub returns-clause-different : goal.returns-clause-different
returns-clause-different g c =
    let L = g.met.F.Field.laws in
    spanned_apart L (points_spanned L g.met.F.TowerLevel.tower) c.args.dimensions.log_extended c.requires
