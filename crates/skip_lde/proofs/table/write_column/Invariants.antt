use Rattle.std.proofs.Common.{◌≡◌, ℕ, ◌+◌, ◌*◌, ◌^◌, ◌<◌, get_or}
use Rattle.skip_lde.proofs.table.write_column.Given as goal

abbrev pub invariant-loop-j : goal.invariant-loop-j
invariant-loop-j g l =
    ((m : ℕ) → m < l.j → get_or l.table (2 ^ m * l.n + l.i) g.F.Field.ops.zero ≡ get_or l.column m g.F.Field.ops.zero)
    × ((u k : ℕ) → k < l.i → get_or l.table (u * l.n + k) g.F.Field.ops.zero ≡ get_or l.initial.table (u * l.n + k) g.F.Field.ops.zero)
