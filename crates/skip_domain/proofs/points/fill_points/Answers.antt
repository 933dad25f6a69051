use Rattle.std.proofs.Common.{◌≡◌, ℕ, ◌^◌, ◌<◌, length, get_or, subst, arith, length-set, pow_pos}
use Rattle.std.proofs.lemmas.List.FromFn.{fill_by_all}
use Rattle.algebra.specs.Points.{point}
use Rattle.skip_dimensions.proofs.Degrees.{shifted_one}
use Rattle.skip_domain.proofs.Fills.{halves_within, point_first, points_double}
use Rattle.skip_domain.proofs.points.fill_points.Goals as goal

pub loop-r-init : goal.loop-r-init
loop-r-init g c =
    let p : 0 < 2 ^ c.args.log_extended = pow_pos c.args.log_extended in
    let h : 0 < length c.args.buffer.now = omega (arith, c.requires.length) in
    point_first g.met.F.Field.laws g.met.F.TowerLevel.tower _ _ h c.zero.ensures

pub double_points-requires : goal.double_points-requires
double_points-requires g c =
    let half = shifted_one c.loop-r.r (omega (arith, c.requires.fits)) in
    let w = halves_within c.loop-r.r c.args.log_extended _ c.loop-r-test.true half in
    let n = length-set c.args.buffer.now 0 c.zero.result in
    omega (arith, c.requires.length)

pub loop-r-preserved : goal.loop-r-preserved
loop-r-preserved g c =
    points_double g.met.F.Field.laws g.met.F.TowerLevel.tower c.loop-r.r _ _ _ _ (shifted_one c.loop-r.r (omega (arith, c.requires.fits)))
    c.basis_or_zero.ensures c.loop-r.invariant c.double_points.ensures.kept c.double_points.ensures.shifted

pub returns : goal.returns
returns g c =
    let all : c.loop-r.r ≡ c.args.log_extended = omega arith in
    let n = length-set c.args.buffer.now 0 c.zero.result in
    fill_by_all (point g.F.Field.ops g.F.TowerLevel.level) c.loop-r.buffer (2 ^ c.args.log_extended) g.F.Field.ops.zero (omega (arith, c.requires.length))
    (subst (λ (n : ℕ). (k : ℕ) → k < 2 ^ n → get_or c.loop-r.buffer k g.F.Field.ops.zero ≡ point g.F.Field.ops g.F.TowerLevel.level k) all c.loop-r.invariant)
