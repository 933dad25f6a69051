use Rattle.std.proofs.Common.{ap, sym, ◌∙◌}
use Rattle.lines.specs.Lines.{text_of, without_cr}
use Rattle.lines.specs.declared.line.Content.TheVariants.{Blank, Readable, Unfit}
use Rattle.lines.proofs.Classes.{passed, class, whole}
use Rattle.lines.proofs.line.LineBuffer.line.Goals as goal

pub returns-then-is_idle : goal.returns-then-is_idle
returns-then-is_idle c = record { makes = λ l m. passed l (sym c.if-is_idle.true ∙ c.is_idle.ensures l m); holds = λ l h. passed (without_cr l) (sym c.if-is_idle.true ∙ c.is_idle.ensures _ h.body) }

pub returns-in-Blank : goal.returns-in-Blank
returns-in-Blank c = record {
  makes = λ l m. class m Blank c.in-Blank.is (sym c.if-is_idle.false ∙ c.is_idle.ensures l m);
  holds = λ l h. class h.body Blank c.in-Blank.is (sym c.if-is_idle.false ∙ c.is_idle.ensures _ h.body);
}

pub returns-in-Readable : goal.returns-in-Readable
returns-in-Readable c = record {
  makes = λ l m. ap text_of (c.as_slice.ensures ∙ whole m c.in-Readable.is) ∙ class m Readable c.in-Readable.is (sym c.if-is_idle.false ∙ c.is_idle.ensures l m);
  holds = λ l h. ap text_of (c.as_slice.ensures ∙ whole h.body c.in-Readable.is) ∙ class h.body Readable c.in-Readable.is (sym c.if-is_idle.false ∙ c.is_idle.ensures _ h.body);
}

pub returns-in-Unfit : goal.returns-in-Unfit
returns-in-Unfit c = record {
  makes = λ l m. class m Unfit c.in-Unfit.is (sym c.if-is_idle.false ∙ c.is_idle.ensures l m);
  holds = λ l h. class h.body Unfit c.in-Unfit.is (sym c.if-is_idle.false ∙ c.is_idle.ensures _ h.body);
}
