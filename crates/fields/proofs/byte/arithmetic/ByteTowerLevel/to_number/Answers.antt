use Rattle.fields.specs.ByteLaws.{byte_tower}
use Rattle.fields.proofs.byte.arithmetic.ByteTowerLevel.to_number.Goals as goal

pub returns-clause-form : goal.returns-clause-form
returns-clause-form c = byte_tower.form
