use Rattle.std.proofs.Common.{Some, refl, ◌∙◌, ap₂}
use Rattle.fields.specs.Pairs.{pair}
use Rattle.fields.specs.PairSolve.{solve_none, solve_first, solve_second, solves_of}
use Rattle.fields.proofs.pair.PairTowerLevel.solve.Goals as goal

pub returns-in_err-high : goal.returns-in_err-high
returns-in_err-high g c =
    let R = g.met.B.Field.laws.ring in
    let S = g.met.B.TowerLevel.tower.solving in
    let e = c.from_residual.ensures ∙ solve_none R S c.args.self c.in_err-high.ensures.solution in
    record { solution = e; solves = solves_of R S c.args.self _ e }

pub returns-in-Some : goal.returns-in-Some
returns-in-Some g c =
    let R = g.met.B.Field.laws.ring in
    let S = g.met.B.TowerLevel.tower.solving in
    let e = solve_first R S c.args.self c.in_ok-high.high c.in-Some.low c.sum-rest.result c.in_ok-high.ensures.solution (cc) c.in-Some.ensures.solution in
    record { solution = e; solves = solves_of R S c.args.self _ e }

pub returns-in_ok-low-in-None : goal.returns-in_ok-low-in-None
returns-in_ok-low-in-None g c =
    let R = g.met.B.Field.laws.ring in
    let S = g.met.B.TowerLevel.tower.solving in
    let k = c.in_ok-low-in-None.ensures.solution in
    let f = solve_second R S c.args.self c.in_ok-high.high c.in_ok-low-in-None.low c.sum-rest.result c.in_ok-high.ensures.solution (cc) c.in-None.ensures.solution (cc) in
    let e = ap₂ (λ a b. Some (pair a b)) refl (cc) ∙ f in
    record { solution = e; solves = solves_of R S c.args.self _ e }
