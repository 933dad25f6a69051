use Rattle.algebra.proofs.Interpolations.{interpolation_interpolates, interpolation_unique}
use Rattle.algebra.proofs.interpolation_exists_once.Goals as goal

pub returns : goal.returns
returns g c n t y a =
    let L = g.met.F.Field.laws in
    (interpolation_interpolates L n t y a, λ f i. interpolation_unique L n t y f a i)
