use Rattle.std.proofs.Common.{◌≡◌, ℕ, ◌+◌, ◌-◌, ◌*◌, ◌/◌, ◌^◌, ◌<◌, length, get_or, sym, ap, ◌∙◌, subst, ap₂, suc-mul, add-one, arith}
use Rattle.std.proofs.lemmas.List.FromFn.{fill_by_all}
use Rattle.algebra.specs.Points.{point}
use Rattle.skip_domain.specs.Domains.{vanishing_of}
use Rattle.skip_domain.proofs.Fills.{blocks_divide, blocks_more}
use Rattle.skip_domain.proofs.domain.SkipDomain.vanishing_on_transmitted.Goals as goal

pub loop-block-preserved : goal.loop-block-preserved
loop-block-preserved g c =
    let s = c.args.self.now.dimensions.log_size in
    let b = c.loop-block.block in
    let z = c.size-size.result in
    let up = suc-mul b z in
    let first : (b + 1) * z ≡ z + b * z = ap (λ (n : ℕ). n * z) (add-one b) ∙ omega arith in
    blocks_more g.met.F.Field.laws g.met.F.TowerLevel.tower s b z _ _ _ c.size-size.ensures
    (c.vanishing-value.ensures.value ∙ ap (vanishing_of g.F.Field.ops g.F.TowerLevel.level s) (c.point.ensures.value ∙ ap (point g.F.Field.ops g.F.TowerLevel.level) first))
    c.loop-block.invariant c.fill_block.ensures.before c.fill_block.ensures.block

pub returns-clause-output : goal.returns-clause-output
returns-clause-output g c =
    let s = c.args.self.now.dimensions.log_size in
    let e = c.args.self.now.dimensions.log_extended in
    let n : length c.args.output.now ≡ 2 ^ e - 2 ^ s = c.in_ok-check_length.ensures.length ∙ c.num_transmitted.ensures in
    let blocks : c.loop-block.block ≡ length c.args.output.now / c.size-size.result = omega arith in
    let filled : c.loop-block.block * 2 ^ s ≡ 2 ^ e - 2 ^ s =
    ap₂ (λ (b z : ℕ). b * z) (blocks ∙ ap (λ (k : ℕ). k / c.size-size.result) n) (sym c.size-size.ensures) ∙ blocks_divide s e c.size-size.result (omega (arith, c.args.self.now.dimensions.larger)) c.size-size.ensures in
    fill_by_all (λ i. vanishing_of g.F.Field.ops g.F.TowerLevel.level s (point g.F.Field.ops g.F.TowerLevel.level (2 ^ s + i)))
    c.loop-block.output (2 ^ e - 2 ^ s) g.F.Field.ops.zero (c.loop-block.auto.output ∙ n)
    (subst (λ (m : ℕ). (k : ℕ) → k < m → get_or c.loop-block.output k g.F.Field.ops.zero ≡ vanishing_of g.F.Field.ops g.F.TowerLevel.level s (point g.F.Field.ops g.F.TowerLevel.level (2 ^ s + k))) filled c.loop-block.invariant)
