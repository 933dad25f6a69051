use Rattle.std.proofs.Common.{◌≡◌, not, ◌++◌, take, sym, ap, ◌∙◌, subst, append_assoc, append-nil, arith}
use Rattle.std.proofs.lemmas.List.{take_more}
use Rattle.std.proofs.lemmas.List.Sums.{prefix_len-drop_yes, prefix_len-drop_no, prefix_len-drop_all}
use Rattle.std.proofs.lemmas.Bool.{eq-eqb, ne_eqb}
use Rattle.std.specs.List.{position_or_len}
use Rattle.words.specs.Pieces.{other}
use Rattle.lines.specs.Lines.{is_lf, EndsLine}
use Rattle.lines.specs.Buffers.{Holds}
use Rattle.lines.proofs.Cuts.{some_through, none_through, ends_line}
use Rattle.lines.proofs.line.LineBuffer.feed.Goals as goal

pub loop-i-init : goal.loop-i-init
loop-i-init c = (omega arith, λ k h. subst (Holds c.args.self.now) (sym (append-nil k)) h)

pub loop-i-preserved : goal.loop-i-preserved
loop-i-preserved c =
    let input = c.args.input.now in
    let i = c.loop-i.i in
    let within = c.loop-i-test.true in (
      omega (arith, prefix_len-drop_yes (other 10) input i 0 within (ap not (ne_eqb _ 10 c.if-byte-eq10.false)), c.loop-i.invariant.0),
      λ k h.
          let one = append_assoc k (take i input) _ ∙ sym (ap (λ t. k ++ t) (take_more input i 0 within)) in
          subst (Holds c.push.new.self) one (c.push.ensures _ (c.loop-i.invariant.1 k h)),
    )

pub returns-then-byte-eq10 : goal.returns-then-byte-eq10
returns-then-byte-eq10 c =
    let input = c.args.input.now in
    let within = c.loop-i-test.true in
    let front : c.loop-i.i ≡ position_or_len is_lf input =
    omega (arith, prefix_len-drop_no (other 10) input c.loop-i.i 0 within (ap not (eq-eqb _ 10 c.if-byte-eq10.true)), c.loop-i.invariant.0) in
    let taken = some_through input _ front within in
    record {
      taken = taken;
      holds = λ l h. subst (λ n. Holds c.loop-i.self (l ++ take n input)) front (c.loop-i.invariant.1 l h);
      lines = subst (EndsLine input) (sym taken) (ends_line input);
    }

pub returns : goal.returns
returns c =
    let input = c.args.input.now in
    let all = c.loop-i-test.false in
    let front : c.loop-i.i ≡ position_or_len is_lf input = omega (arith, prefix_len-drop_all (other 10) input c.loop-i.i all, c.loop-i.invariant.0) in
    let taken = none_through input (omega (arith, front)) in
    record {
      taken = taken;
      holds = λ l h. subst (λ n. Holds c.loop-i.self (l ++ take n input)) front (c.loop-i.invariant.1 l h);
      lines = subst (EndsLine input) (sym taken) (ends_line input);
    }
