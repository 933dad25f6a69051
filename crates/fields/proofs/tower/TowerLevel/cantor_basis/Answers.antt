use Rattle.std.proofs.Common.{◌≡◌, is_some, Some, None, ap, ◌∙◌, arith}
use Rattle.fields.specs.Tower.{cantor}
use Rattle.fields.proofs.Basis.{cantor_next, cantor_none}
use Rattle.fields.proofs.tower.TowerLevel.cantor_basis.Goals as goal

pub returns-in_err-v : goal.returns-in_err-v
returns-in_err-v g c =
    let o = g.Self.Field.ops in
    let l = g.Self.TowerLevel.level in
    let e = c.from_residual.ensures ∙ cantor_none o l c.loop.counter c.args.j c.loop-test.true (cantor_next o l _ c.loop.counter None c.loop.invariant c.in_err-v.ensures.solution) in
    record { element = e; within = ap is_some e ∙ g.met.Self.TowerLevel.tower.basis c.args.j }

pub returns : goal.returns
returns g c =
    let o = g.Self.Field.ops in
    let l = g.Self.TowerLevel.level in
    let z : c.loop.counter ≡ c.args.j = omega arith in
    let e : Some c.loop.v ≡ cantor o l c.args.j = c.loop.invariant ∙ ap (cantor o l) z in
    record { element = e; within = ap is_some e ∙ g.met.Self.TowerLevel.tower.basis c.args.j }
