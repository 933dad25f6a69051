use Rattle.fields.specs.ByteLaws.{byte_tower}
use Rattle.fields.proofs.byte.arithmetic.ByteTowerLevel.top.Goals as goal

pub returns-clause-halves : goal.returns-clause-halves
returns-clause-halves c = byte_tower.solving.halves
