use Rattle.std.proofs.Common.{◌≡◌, ◌++◌, map, take, drop}
use Rattle.fields.specs.Batch.{inverted}
use Rattle.fields.proofs.batch.batch_multiplicative_inverse.Given as goal

abbrev pub invariant-loop-value : goal.invariant-loop-value
invariant-loop-value g l = l.values ≡ map (inverted g.F.Field.ops) (take l.value-index l.initial.values) ++ drop l.value-index l.initial.values
