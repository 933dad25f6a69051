use Rattle.std.proofs.Common.{arith}
use Rattle.lines.proofs.Steps.{reading_none, reading_more, all_of, all_holds, next_line, last_line, refilled_on, refilled_over}
use Rattle.lines.proofs.source.LineSource.read_line.Goals as goal

pub loop-init : goal.loop-init
loop-init c = reading_none _ c.clear.ensures

pub loop-preserved : goal.loop-preserved
loop-preserved c =
    let fill = c.in_ok-refill.ensures in
    let took = c.if-take.ensures in
    let more = refilled_on c.take.new.self c.refill.new.self _ c.if-not-branch.false fill.filled in
    reading_more c.loop.invariant c.take.new.self c.refill.new.self took.taken took.kept.0 took.kept.1 more fill.kept.0 fill.kept.1

pub returns-then-take : goal.returns-then-take
returns-then-take c =
    let took = c.if-take.ensures in
    record {
      stepped = (c.loop.invariant.came, c.loop.invariant.may, next_line c.loop.invariant c.take.new.self took.taken);
      number = omega (arith, took.kept.1, c.loop.invariant.number);
    }

pub returns-then-not-branch : goal.returns-then-not-branch
returns-then-not-branch c =
    let r = c.loop.invariant in
    let fill = c.in_ok-refill.ensures in
    let took = c.if-take.ensures in
    let over = refilled_over c.take.new.self c.refill.new.self _ c.if-not-branch.true fill.filled in
    let holds = all_holds r c.take.new.self c.refill.new.self took.taken fill.kept.0 in
    record {
      stepped = (
        r.came,
        r.may,
        last_line r took.taken.1.free _ over.0 (over.1 took.taken.0) (c.end_of_input.ensures.makes (all_of r) holds) _
            (c.end_of_input.ensures.some (all_of r) holds),
      );
      number = omega (arith, fill.kept.1, took.kept.1, r.number);
    }
