use Rattle.skip_composition.specs.GatesLemmas.{gate_value}
use Rattle.skip_composition.proofs.gate.GateComposition.eval_extension.Goals as goal

pub returns : goal.returns
returns g c =
    let e = gate_value g.met.EF.Field.laws g.EF.ExtensionField.over.embed (g.C.Composition.polynomial c.args.self.now.inner) c.args.values.now in
    cc
