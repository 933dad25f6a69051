use Rattle.std.proofs.Common.{cond, sym, refl, ◌∙◌, arith, rules}
use Rattle.std.proofs.iter.Yields.{nat_range_steps}
use Rattle.std.proofs.lemmas.Iterator.{YieldsList-from_range}
use Rattle.std.proofs.lemmas.Iterator.Consumers.{fold_from_yields_List}
use Rattle.fields.specs.Tower.{bit_set}
use Rattle.algebra.specs.Points.{basis_element_or_zero}
use Rattle.algebra.proofs.BitSums.{bit_sum_added}
use Rattle.algebra.proofs.Points.{point_bits}
use Rattle.algebra.proofs.basis.point.Goals as goal

pub returns : goal.returns
returns g c =
    let L = g.met.F.Field.laws in
    let o = g.F.Field.ops in
    let v = basis_element_or_zero o g.F.TowerLevel.level in
    fold_from_yields_List {steps = nat_range_steps} _ (λ s r. o.sum s (cond (bit_set c.args.index r) (v r) o.zero)) c.zero.result c.fold.result c.fold.ensures.ran
    (YieldsList-from_range 0 64 64 refl (omega arith))
    (λ s r t q k. search rules)
    ∙ bit_sum_added L 64 v c.args.index c.zero.result c.zero.ensures ∙ sym (point_bits L g.met.F.TowerLevel.tower 64 c.args.index (omega arith))
