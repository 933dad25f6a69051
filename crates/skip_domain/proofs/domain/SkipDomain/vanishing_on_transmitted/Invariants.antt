use Rattle.std.proofs.Common.{◌≡◌, ℕ, ◌+◌, ◌*◌, ◌^◌, ◌<◌, get_or}
use Rattle.algebra.specs.Points.{point}
use Rattle.skip_domain.specs.Domains.{vanishing_of}
use Rattle.skip_domain.proofs.domain.SkipDomain.vanishing_on_transmitted.Given as goal

abbrev pub invariant-loop-block : goal.invariant-loop-block
invariant-loop-block g l =
    let s = l.self.dimensions.log_size in
    (k : ℕ) → k < l.block * 2 ^ s → get_or l.output k g.F.Field.ops.zero ≡ vanishing_of g.F.Field.ops g.F.TowerLevel.level s (point g.F.Field.ops g.F.TowerLevel.level (2 ^ s + k))
