use Rattle.std.proofs.Common.{◌≡◌, ◌<◌, vec_len}
use Rattle.skip_lde.specs.Tables.{Built}
use Rattle.skipbench.proofs.measure.TablesTimed.repeat.Given as goal

abbrev pub invariant-loop : goal.invariant-loop
invariant-loop g l =
    (l.self.dimensions ≡ l.initial.self.dimensions) × (l.self.count ≡ l.initial.self.count) × (vec_len l.self.table ≡ vec_len l.initial.self.table)
    × (0 < l.counter → Built g.F.Field.ops g.F.TowerLevel.level l.initial.self.dimensions.log_size l.initial.self.dimensions.log_extended l.self.table.items)
