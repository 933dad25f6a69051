use Rattle.std.proofs.Common.{sym, ◌∙◌}
use Rattle.std.proofs.lemmas.Bool.{eqb-false}
use Rattle.words.proofs.Numerals.{read_none, read_more, read_refused, read_all}
use Rattle.words.proofs.numeral.numeral_in.Goals as goal

pub loop-byte-init : goal.loop-byte-init
loop-byte-init c = read_none c.args.base c.args.word.now

pub loop-byte-preserved : goal.loop-byte-preserved
loop-byte-preserved c = read_more _ _ _ _ c.loop-byte.invariant _ c.loop-byte-test.true (sym c.with_digit.ensures ∙ c.in_ok-value.was)

pub returns-in_err-value : goal.returns-in_err-value
returns-in_err-value c =
    c.from_residual.ensures ∙ sym (read_refused _ _ _ _ c.loop-byte.invariant c.requires.positive c.loop-byte-test.true (sym c.with_digit.ensures ∙ c.in_err-value.was))

pub returns : goal.returns
returns c = read_all _ _ _ _ c.loop-byte.invariant c.loop-byte-test.false (eqb-false _ 0 (sym c.if-is_empty.ensures))
