use Rattle.std.proofs.Common.{sym, refl, ◌∙◌, subst}
use Rattle.lines.specs.Buffers.{Makes}
use Rattle.lines.proofs.Returns.{without_cr_back}
use Rattle.lines.proofs.line.LineBuffer.release.Goals as goal

pub returns-then-self : goal.returns-then-self
returns-then-self c = record {
  makes = λ l h.
      let m = subst (Makes c.append.new.self) (without_cr_back l (sym h.waits ∙ c.if-self.true)) (c.append.ensures.makes _ h.body) in
      record { front = m.front; is = m.is };
  none = refl;
}
