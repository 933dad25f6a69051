use Rattle.std.proofs.Common.{◌<◌, sym, ◌∙◌, subst}
use Rattle.fields.specs.PairForm.{pair_form, half_some, half_none, half_below, to_number_joined, to_number_low}
use Rattle.fields.proofs.pair.PairTowerLevel.to_number.Goals as goal

pub overflow_shl-result : goal.overflow_shl-result
overflow_shl-result g c = let h = half_some _ _ c.in-Some.ensures in subst (λ b. b < 128) (sym h.0) (half_below _ h.1)

pub overflow_add-result : goal.overflow_add-result
overflow_add-result g c =
    let N = g.met.B.TowerLevel.tower.form in
    let h = half_some _ _ c.in-Some.ensures in
    record { fits = (to_number_joined _ _ _ _ _ _ h.1 (N.below c.args.self.low) (N.below c.args.self.high) c.to_number-low.ensures.number c.to_number.ensures.number h.0).1 }

pub returns-in-Some : goal.returns-in-Some
returns-in-Some g c =
    let N = g.met.B.TowerLevel.tower.form in
    let h = half_some _ _ c.in-Some.ensures in
    record {
      number = (to_number_joined _ _ _ _ _ _ h.1 (N.below c.args.self.low) (N.below c.args.self.high) c.to_number-low.ensures.number c.to_number.ensures.number h.0).0;
      form = pair_form N;
    }

pub returns-in-None : goal.returns-in-None
returns-in-None g c = record {
  number = c.to_number-low.ensures.number ∙ to_number_low _ _ _ (half_none _ c.in-None.ensures);
  form = pair_form g.met.B.TowerLevel.tower.form;
}
