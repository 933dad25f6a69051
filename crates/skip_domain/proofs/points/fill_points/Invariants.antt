use Rattle.std.proofs.Common.{◌≡◌, ℕ, ◌^◌, ◌<◌, get_or}
use Rattle.algebra.specs.Points.{point}
use Rattle.skip_domain.proofs.points.fill_points.Given as goal

abbrev pub invariant-loop-r : goal.invariant-loop-r
invariant-loop-r g l = (k : ℕ) → k < 2 ^ l.r → get_or l.buffer k g.F.Field.ops.zero ≡ point g.F.Field.ops g.F.TowerLevel.level k
