use Rattle.std.proofs.Common.{◌≡◌, get_or, sym, ap, ◌∙◌, arith}
use Rattle.std.proofs.lemmas.Bool.{eq-eqb, ne_eqb}
use Rattle.lines.proofs.Classes.{first}
use Rattle.lines.proofs.line.LineBuffer.is_comment.Goals as goal

pub returns-in-35 : goal.returns-in-35
returns-in-35 c = λ l m.
    let kept : get_or c.as_slice.result.now 0 0 ≡ get_or l 0 0 = ap (λ t. get_or t 0 0) c.as_slice.ensures ∙ first m in
    let is : get_or c.as_slice.result.now 0 0 ≡ 35 = omega arith in
    sym (eq-eqb (get_or l 0 0) 35 (sym kept ∙ is))

pub returns-in_default-2 : goal.returns-in_default-2
returns-in_default-2 c = λ l m.
    let kept : get_or c.as_slice.result.now 0 0 ≡ get_or l 0 0 = ap (λ t. get_or t 0 0) c.as_slice.ensures ∙ first m in
    sym (ne_eqb (get_or l 0 0) 35 (λ e. omega arith))
