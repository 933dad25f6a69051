use Rattle.std.proofs.Common.{sym, ◌∙◌, subst}
use Rattle.std.proofs.lemmas.Bool.{eq-eqb, ne_eqb, cond-true, cond-false}
use Rattle.lines.specs.Buffers.{Makes}
use Rattle.lines.proofs.Returns.{ends_in_cr_push, without_cr_push}
use Rattle.lines.proofs.line.LineBuffer.push.Goals as goal

pub returns-then-byte-eq13 : goal.returns-then-byte-eq13
returns-then-byte-eq13 c = λ l h.
    let is = eq-eqb c.args.byte 13 c.if-byte-eq13.true in
    let m = subst (Makes c.release.new.self) (sym (without_cr_push l c.args.byte ∙ cond-true _ _ _ is)) (c.release.ensures.makes l h) in
    record { body = record { front = m.front; is = m.is }; waits = sym (ends_in_cr_push l c.args.byte ∙ is) }

pub returns-else-byte-eq13 : goal.returns-else-byte-eq13
returns-else-byte-eq13 c = λ l h.
    let is = ne_eqb c.args.byte 13 c.if-byte-eq13.false in
    record {
      body = subst (Makes c.append.new.self) (sym (without_cr_push l c.args.byte ∙ cond-false _ _ _ is)) (c.append.ensures.makes l (c.release.ensures.makes l h));
      waits = c.append.ensures.held ∙ c.release.ensures.none ∙ sym (ends_in_cr_push l c.args.byte ∙ is);
    }
