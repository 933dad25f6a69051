use Rattle.words.proofs.Numerals.{Read}
use Rattle.words.proofs.numeral.numeral_in.Given as goal

abbrev pub invariant-loop-byte : goal.invariant-loop-byte
invariant-loop-byte l = Read l.base l.word l.byte-index l.value
