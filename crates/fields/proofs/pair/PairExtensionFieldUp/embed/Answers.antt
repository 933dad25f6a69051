use Rattle.fields.specs.PairExtends.{pair_extends}
use Rattle.fields.proofs.pair.PairExtensionFieldUp.embed.Goals as goal

pub returns : goal.returns
returns g c = record { image = cc; keeps = (pair_extends g.met.B.Field.laws _ g.met.B.ExtensionField.extends).keeps }
