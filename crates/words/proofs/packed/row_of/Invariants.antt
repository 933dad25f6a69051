use Rattle.std.proofs.Common.{vec_items}
use Rattle.words.proofs.Digits.{Read}
use Rattle.words.proofs.packed.row_of.Given as goal

abbrev pub invariant-loop-high : goal.invariant-loop-high
invariant-loop-high l = Read l.digits l.pairs l.odd l.high-index (vec_items l.row)
