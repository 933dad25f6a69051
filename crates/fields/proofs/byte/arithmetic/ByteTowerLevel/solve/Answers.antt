use Rattle.std.proofs.Common.{rules}
use Rattle.fields.specs.ByteLaws.{solves_of}
use Rattle.fields.proofs.byte.arithmetic.ByteTowerLevel.solve.Goals as goal

pub returns-clause-solves : goal.returns-clause-solves
returns-clause-solves c = solves_of c.args.self _ (search rules)
