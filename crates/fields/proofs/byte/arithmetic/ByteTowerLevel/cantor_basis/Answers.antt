use Rattle.std.proofs.Common.{rules}
use Rattle.fields.specs.ByteLaws.{byte_cantor}
use Rattle.fields.proofs.byte.arithmetic.ByteTowerLevel.cantor_basis.Goals as goal

pub returns-clause-element : goal.returns-clause-element
returns-clause-element c = let e = byte_cantor c.args.j in search rules
