use Rattle.fields.specs.BitLaws.{bit_tower}
use Rattle.fields.proofs.bit.BitTowerLevel.to_number.Goals as goal

pub returns-clause-form : goal.returns-clause-form
returns-clause-form c = bit_tower.form
