use Rattle.std.proofs.Common.{◌/◌, ◌%◌, ◌^◌, ◌<◌, sym, ap, ◌∙◌, subst}
use Rattle.fields.specs.Tower.{width}
use Rattle.fields.specs.PairForm.{cut_join, half_some, half_none, half_below, none_above}
use Rattle.fields.proofs.pair.PairTowerLevel.from_number.Goals.{in-Some, in-None}
use Rattle.fields.proofs.pair.PairTowerLevel.from_number.Goals as goal

pub overflow_shr-high : goal.overflow_shr-high
overflow_shr-high g c = let h = half_some _ _ c.in-Some.ensures in subst (λ b. b < 128) (sym h.0) (half_below _ h.1)

pub returns : goal.returns
returns g c =
    let l = g.B.TowerLevel.level in
    let k = l.log_bits in
    cut_join k c.args.n _ _ c.from_number.ensures (c.from_number-2.ensures ∙ ap (λ z. z % 2 ^ width l) (elim c.match-half_bits.branch [
      | in-Some w ↦ w.high-is ∙ ap (λ b. c.args.n / 2 ^ b) (half_some k _ w.in-Some.ensures).0
      | in-None w ↦ w.high-is ∙ sym (none_above k c.args.n (half_none k w.in-None.ensures) c.ranges.n.fits)
    ]))
