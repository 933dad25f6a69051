use Rattle.std.proofs.Common.{sym, ◌∙◌}
use Rattle.fieldbench.proofs.measure.measure.Goals as goal

pub invariant_of-passes : goal.invariant_of-passes
invariant_of-passes g c = record { paired = c.in_ok-elements-2.ensures.count ∙ sym c.in_ok-elements.ensures.count }
