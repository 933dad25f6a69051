use Rattle.std.proofs.Common.{sym}
use Rattle.fields.specs.ByteLaws.{solution_is, solution_none}
use Rattle.fields.proofs.byte.tables.solution.Goals as goal

pub returns-then-t-lt128 : goal.returns-then-t-lt128
returns-then-t-lt128 c = sym (solution_is c.args.t c.if-t-lt128.true)

pub returns-else-t-lt128 : goal.returns-else-t-lt128
returns-else-t-lt128 c = sym (solution_none c.args.t c.if-t-lt128.false)
