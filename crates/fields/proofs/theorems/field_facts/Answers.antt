use Rattle.fields.specs.Fields.{zero_factor, phi_root}
use Rattle.fields.specs.Levels.{phi_sum}
use Rattle.fields.proofs.theorems.field_facts.Goals as goal

pub returns : goal.returns
returns g c = let L = g.met.F.Field.laws in record { no_zero_divisors = zero_factor L; phi_sum = phi_sum L.ring; phi_roots = phi_root L }
