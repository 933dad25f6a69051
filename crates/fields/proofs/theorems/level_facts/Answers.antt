use Rattle.fields.specs.Levels.{no_root}
use Rattle.fields.specs.Chains.{cantor_down, cantor_even}
use Rattle.fields.proofs.theorems.level_facts.Goals as goal

pub returns : goal.returns
returns g c =
    let S = g.met.F.TowerLevel.tower.solving in
    record { top_unsolved = no_root S g.met.F.Field.laws.ring; basis_down = cantor_down S; basis_even = cantor_even S }
