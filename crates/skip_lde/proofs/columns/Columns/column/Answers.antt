use Rattle.std.proofs.Common.{◌+◌, ◌/◌, ◌^◌, ◌≤◌, ap, ◌∙◌, ap₂, arith, pow_mono}
use Rattle.algebra.specs.Points.{point}
use Rattle.algebra.specs.Quotients.{quotient}
use Rattle.skip_lde.proofs.Quotients.{quotient_lagrange}
use Rattle.skip_lde.proofs.columns.Columns.column.Goals as goal

pub returns : goal.returns
returns g c j h =
    let o = g.F.Field.ops in
    let l = g.F.TowerLevel.level in
    let d = c.args.self.now.dimensions in
    let s = d.log_size in
    let i = c.args.i in
    let sz = c.size.ensures in
    let t = c.point-t.ensures ∙ ap (λ x. point o l (x + i)) sz in
    let v = c.point-vanishing.ensures ∙ ap (λ x. point o l ((x + i) / 2 ^ s)) sz in
    let eight : 2 ^ 3 ≤ 2 ^ s = pow_mono d.whole in
    c.quotients.ensures j h ∙ ap₂ (quotient o) v (ap₂ o.sum t (c.args.self.now.eight j h))
    ∙ quotient_lagrange g.met.F.Field.laws g.met.F.TowerLevel.tower s d.log_extended j i c.args.self.now.fits (omega arith) (omega arith) (omega arith)
