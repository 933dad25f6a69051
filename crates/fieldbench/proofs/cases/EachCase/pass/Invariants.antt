use Rattle.std.proofs.Common.{◌≡◌}
use Rattle.fieldbench.proofs.Zips.{zipped_first}
use Rattle.fieldbench.proofs.cases.EachCase.pass.Given as goal

abbrev pub invariant-loop-i : goal.invariant-loop-i
invariant-loop-i g l = l.values ≡ zipped_first g.O.Operation.answer l.i l.initial.values l.operands
