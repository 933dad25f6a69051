use Rattle.std.proofs.Common.{◌≡◌, ℕ, ◌+◌, ◌<◌, get_or}
use Rattle.skip_domain.proofs.points.double_points.Given as goal

abbrev pub invariant-loop-j : goal.invariant-loop-j
invariant-loop-j g l =
    ((k : ℕ) → k < l.half → get_or l.buffer k g.F.Field.ops.zero ≡ get_or l.initial.buffer k g.F.Field.ops.zero)
    × ((k : ℕ) → k < l.j → get_or l.buffer (l.half + k) g.F.Field.ops.zero ≡ g.F.Field.ops.sum (get_or l.initial.buffer k g.F.Field.ops.zero) l.step)
