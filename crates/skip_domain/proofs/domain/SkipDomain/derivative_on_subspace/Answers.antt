use Rattle.std.proofs.Common.{◌≡◌, ◌≤◌, sym, ◌∙◌, arith, rules}
use Rattle.std.proofs.iter.Yields.{nat_range_steps}
use Rattle.std.proofs.lemmas.Iterator.{YieldsList-from_range}
use Rattle.std.proofs.lemmas.Iterator.Consumers.{fold_from_yields_List}
use Rattle.fields.specs.Tower.{width}
use Rattle.algebra.specs.Points.{basis_element_or_zero, phi_power}
use Rattle.skip_domain.proofs.Spans.{room_within, nonzero_points_one, added_products}
use Rattle.skip_domain.proofs.domain.SkipDomain.derivative_on_subspace.Goals as goal

pub returns : goal.returns
returns g c =
    let L = g.met.F.Field.laws in
    let V = g.met.F.TowerLevel.tower in
    let s = c.args.self.now.dimensions.log_size in
    let w = room_within L V c.args.self.now.dimensions.log_extended c.args.self.now.room in
    let fits : s ≤ width g.F.TowerLevel.level = omega (arith, c.args.self.now.dimensions.larger) in
    let e : c.fold.result ≡ g.F.Field.ops.one =
    fold_from_yields_List {steps = nat_range_steps} _ (λ p r. g.F.Field.ops.product p (phi_power g.F.Field.ops r (basis_element_or_zero g.F.Field.ops g.F.TowerLevel.level r))) c.one.result c.fold.result c.fold.ensures.ran
    (YieldsList-from_range 0 c.log_size.result s (search rules) (omega arith)) (λ p r x q k. search rules)
    ∙ added_products L V s c.one.result fits c.one.ensures in
    record { value = e ∙ sym (nonzero_points_one L V s); one = e }
