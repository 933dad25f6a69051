use Rattle.std.proofs.Common.{refl}
use Rattle.fields.specs.Bytes.{bilinear, passing}
use Rattle.figures.proofs.figures_hold.Goals as goal

pub returns : goal.returns
unfolding Rattle.fields.specs.Bytes.bilinear Rattle.fields.specs.Bytes.passing
returns c = (refl, (refl, (refl, (refl, (refl, (refl, (refl, (refl, (refl, (refl, tt))))))))))
