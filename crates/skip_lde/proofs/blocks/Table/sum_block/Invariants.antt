use Rattle.std.proofs.Common.{◌≡◌, ℕ, ◌+◌, ◌*◌, ◌%◌, ◌<◌, get_or}
use lib.Bits.{bit_xor}
use Rattle.algebra.specs.Sums.{sum_below}
use Rattle.skip_lde.proofs.blocks.Table.sum_block.Given as goal

abbrev pub invariant-loop-b : goal.invariant-loop-b
invariant-loop-b g l =
    (k : ℕ) → k < 8 → get_or l.sums k g.F.Field.ops.zero ≡ sum_below g.F.Field.ops l.b (λ b. get_or l.self.entries.now (get_or l.row b 0 % 256 * l.self.width + bit_xor (8 * l.q + k) (8 * b)) g.F.Field.ops.zero)
