use Rattle.std.proofs.Common.{◌≤◌, ◌^◌, length, pow_mono}
use Rattle.std.proofs.iter.Serving.{serving}
use Rattle.skip_lde.proofs.points.Basis.first_points.Goals as goal

pub from_fn-requires : goal.from_fn-requires
from_fn-requires g c = let eight : 2 ^ 3 ≤ 2 ^ length c.args.self.now.elements.now = pow_mono c.requires in grind serving
