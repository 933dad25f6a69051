use Rattle.std.proofs.Common.{◌≡◌, ℕ, ◌+◌, ◌*◌, ◌^◌, ◌<◌, ◌≤◌, get_or}
use Rattle.algebra.specs.Sums.{bit_sum}
use Rattle.skip_lde.proofs.table.peel_rows.Given as goal

abbrev pub invariant-loop-v : goal.invariant-loop-v
invariant-loop-v g l =
    ((u i : ℕ) → u < l.v → i < l.n → get_or l.table (u * l.n + i) g.F.Field.ops.zero ≡ bit_sum g.F.Field.ops 8 (λ j. get_or l.initial.table (2 ^ j * l.n + i) g.F.Field.ops.zero) u)
    × ((p : ℕ) → l.v * l.n ≤ p → get_or l.table p g.F.Field.ops.zero ≡ get_or l.initial.table p g.F.Field.ops.zero)
