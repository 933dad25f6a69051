use Rattle.std.proofs.Common.{◌∷◌, ◌++◌, [], take, length, ap, ◌∙◌, arith, length-take}
use Rattle.lines.proofs.Growth.{front_push}
use Rattle.lines.proofs.line.LineBuffer.append.Goals as goal

pub invariant_of-self : goal.invariant_of-self
invariant_of-self c = record { within = omega (arith, ap length c.push.ensures, length-take 16384 (c.args.self.now.bytes ++ c.args.byte ∷ [])) }

pub returns-clause-makes : goal.returns-clause-makes
returns-clause-makes c = λ l m. record {
  front = c.push.ensures ∙ ap (λ t. take 16384 (t ++ c.args.byte ∷ [])) m.front ∙ front_push 16384 l c.args.byte;
  is = c.with_byte-self.ensures l m.is (c.len.ensures ∙ ap length m.front ∙ length-take 16384 l);
}
