use Rattle.std.proofs.Common.{ℕ, ap, ◌∙◌}
use Rattle.algebra.specs.Points.{phi_power}
use Rattle.skip_domain.proofs.Spans.{phi_power_is_vanishing, zero_exactly_on}
use Rattle.skip_domain.proofs.domain.SkipDomain.vanishing.Goals as goal

pub returns : goal.returns
returns g c =
    let L = g.met.F.Field.laws in
    let V = g.met.F.TowerLevel.tower in
    let e = c.vanishing_poly.ensures ∙ ap (λ (n : ℕ). phi_power g.F.Field.ops n c.args.x) c.log_size.ensures ∙ phi_power_is_vanishing L V c.args.self.now.dimensions.log_size c.args.x in
    record { value = e; zeros = zero_exactly_on L V _ _ _ _ e }
