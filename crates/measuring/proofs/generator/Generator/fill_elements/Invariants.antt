use Rattle.std.proofs.Common.{◌≡◌, ◌≢◌, All, take}
use Rattle.measuring.specs.Splitmix.{state_after, DrawnInTurn}
use Rattle.measuring.proofs.generator.Generator.fill_elements.Given as goal

abbrev pub invariant-loop-x : goal.invariant-loop-x
invariant-loop-x g l =
    (l.self.state ≡ state_after l.initial.self.state l.x-index)
    × DrawnInTurn g.F.Field.ops g.F.TowerLevel.level l.initial.self.state l.x-index (take l.x-index l.drawn)
    × All (λ x. x ≢ g.F.Field.ops.zero) (take l.x-index l.drawn)
