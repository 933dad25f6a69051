use Rattle.std.proofs.Common.{◌≡◌}
use Rattle.algebra.specs.Points.{basis_element_or_zero}
use Rattle.algebra.specs.Sums.{bit_sum}
use Rattle.skip_lde.proofs.points.Basis.point.Given as goal

abbrev pub invariant-loop-r : goal.invariant-loop-r
invariant-loop-r g l = l.point ≡ bit_sum g.F.Field.ops l.r (basis_element_or_zero g.F.Field.ops g.F.TowerLevel.level) l.index
