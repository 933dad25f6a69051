use Rattle.std.proofs.Common.{◌≡◌, ℕ, ◌<◌, ◌≤◌, get_or}
use Rattle.skip_lde.proofs.blocks.add_block.Given as goal

abbrev pub invariant-loop-k : goal.invariant-loop-k
invariant-loop-k g l =
    ((k : ℕ) → k < l.k → get_or l.sums k g.F.Field.ops.zero ≡ g.F.Field.ops.sum (get_or l.initial.sums k g.F.Field.ops.zero) (get_or l.entries k g.F.Field.ops.zero))
    × ((k : ℕ) → l.k ≤ k → get_or l.sums k g.F.Field.ops.zero ≡ get_or l.initial.sums k g.F.Field.ops.zero)
