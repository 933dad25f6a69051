use Rattle.fields.specs.Extensions.{embed_zero, embed_injective, base_embed}
use Rattle.fields.proofs.theorems.extension_facts.Goals as goal

pub returns : goal.returns
returns g c =
    let L = g.met.F.Field.laws in
    let M = g.met.EF.Field.laws in
    let X = g.met.EF.ExtensionField.extends in
    record { embed_zero = embed_zero L M X; embed_injective = embed_injective L M X; base_embed = base_embed L M X }
