use Rattle.measuring.proofs.Repetitions.{repeated_more, sums_agree}
use Rattle.measuring.proofs.timing.Outcome.of.Goals as goal
use Rattle.measuring.proofs.timing.Outcome.of.Goals.{then-not-last_alone, else-not-last_alone+else-i-repetitions}

pub loop-i-preserved : goal.loop-i-preserved
loop-i-preserved g c =
    let sum = g.T.Timed.sum in
    let t = c.repeat.new.self in
    let d = c.loop-i.invariant.0 in
    let more = repeated_more g.T.Timed.repeats sum c.loop-i.i c.args.timed.now c.loop-i.timed t d c.loop-i.invariant.1 c.in_ok-repeat.ensures in
    elim c.if-not-last_alone.branch [
      | then-not-last_alone w ↦
          let taken = sums_agree sum _ t d c.loop-i.checksum c.if-not-last_alone.checksum c.loop-i.invariant.2 c.loop-i.invariant.4 (rw w.checksum-is w.checksum-checksum.ensures) in
          (sum t d, more, λ _. taken, λ _. taken, c.loop-i.invariant.4)
      | else-not-last_alone+else-i-repetitions w ↦
          (sum t d, more, λ h. let e = w.if-not-last_alone.false in cc, λ h. absurd (w.if-i-repetitions.false h), c.loop-i.invariant.4)
    ]
