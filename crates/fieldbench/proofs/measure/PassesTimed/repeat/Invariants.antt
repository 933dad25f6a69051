use Rattle.std.proofs.Common.{◌≡◌}
use Rattle.fieldbench.specs.Passes.{passes}
use Rattle.fieldbench.proofs.measure.PassesTimed.repeat.Given as goal

abbrev pub invariant-loop : goal.invariant-loop
invariant-loop g l =
    (l.self.values.items ≡ passes (λ xs. g.C.Case.after xs l.initial.self.operands.items) l.counter l.initial.self.values.items)
    × (l.self.operands ≡ l.initial.self.operands)
