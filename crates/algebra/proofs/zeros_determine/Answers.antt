use Rattle.algebra.proofs.Degrees.{degree_value}
use Rattle.algebra.proofs.Roots.{coefficients_zero, zero_everywhere}
use Rattle.algebra.proofs.zeros_determine.Goals as goal

pub returns : goal.returns
returns g c n p t l a h =
    let L = g.met.F.Field.laws in
    (zero_everywhere L n _ t (degree_value L p l) a h, coefficients_zero L n p t l a h)
