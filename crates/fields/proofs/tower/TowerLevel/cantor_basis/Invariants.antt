use Rattle.std.proofs.Common.{◌≡◌, Some}
use Rattle.fields.specs.Tower.{cantor}
use Rattle.fields.proofs.tower.TowerLevel.cantor_basis.Given as goal

abbrev pub invariant-loop : goal.invariant-loop
invariant-loop g l = Some l.v ≡ cantor g.Self.Field.ops g.Self.TowerLevel.level l.counter
