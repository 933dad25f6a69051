use Rattle.std.proofs.Common.{◌∙◌, arith, rules}
use Rattle.std.proofs.iter.Yields.{nat_range_steps}
use Rattle.std.proofs.lemmas.Iterator.{YieldsList-from_range}
use Rattle.std.proofs.lemmas.Iterator.Consumers.{fold_from_yields_List}
use Rattle.fields.specs.Tower.{phi}
use Rattle.algebra.proofs.Spans.{phi_power_fold}
use Rattle.skip_domain.proofs.vanishing.vanishing_poly.Goals as goal

pub returns : goal.returns
returns g c =
    fold_from_yields_List {steps = nat_range_steps} _ (λ w r. phi g.F.Field.ops w) c.args.x c.fold.result c.fold.ensures.ran
    (YieldsList-from_range 0 c.args.log_size c.args.log_size (search rules) (omega arith)) (λ w r x q k. search rules)
    ∙ phi_power_fold g.F.Field.ops c.args.log_size 0 c.args.x
