use Rattle.std.proofs.Common.{◌∙◌}
use Rattle.lines.proofs.Classes.{idle_other}
use Rattle.lines.proofs.line.LineBuffer.is_idle.Goals as goal
use Rattle.lines.proofs.line.LineBuffer.is_idle.Goals.{in-Blank, in_default}

pub returns-else-matches : goal.returns-else-matches
returns-else-matches c = λ l m.
    elim c.match-matches.branch [
      | in-Blank w ↦ cc (w.matches-is, c.if-matches.false)
      | in_default w ↦ c.is_comment.ensures l m ∙ idle_other l m.is w.in_default.not-Blank
    ]
