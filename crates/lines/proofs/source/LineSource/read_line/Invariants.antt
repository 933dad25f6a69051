use Rattle.lines.proofs.Steps.{Reading}
use Rattle.lines.proofs.source.LineSource.read_line.Given as goal

abbrev pub invariant-loop : goal.invariant-loop
invariant-loop l = Reading l.initial.self l.self
