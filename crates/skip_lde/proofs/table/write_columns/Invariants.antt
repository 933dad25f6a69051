use Rattle.std.proofs.Common.{◌≡◌, ℕ, ◌+◌, ◌*◌, ◌^◌, ◌<◌, get_or}
use Rattle.algebra.specs.Interpolation.{lagrange}
use Rattle.algebra.specs.Points.{point}
use Rattle.skip_lde.proofs.table.write_columns.Given as goal

abbrev pub invariant-loop-i : goal.invariant-loop-i
invariant-loop-i g l =
    let s = l.columns.dimensions.log_size in let t = point g.F.Field.ops g.F.TowerLevel.level in
    (j i : ℕ) → j < 8 → i < l.i → get_or l.table (2 ^ j * l.n + i) g.F.Field.ops.zero ≡ lagrange g.F.Field.ops (2 ^ s) t j (t (2 ^ s + i))
