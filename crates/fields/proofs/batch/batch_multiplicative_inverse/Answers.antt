use Rattle.std.proofs.Common.{get_or, set, unwrap_or, ap, ◌∙◌, arith}
use Rattle.std.proofs.lemmas.List.Edits.{map_over_more}
use Rattle.fields.specs.Batch.{inverted}
use Rattle.fields.proofs.batch.batch_multiplicative_inverse.Goals as goal

pub loop-value-preserved : goal.loop-value-preserved
loop-value-preserved g c =
    let p = c.loop-value in
    let x = get_or p.values p.value-index c.value-item.result in
    ap (set p.values p.value-index) (c.unwrap_or.ensures ∙ ap (λ s. unwrap_or s x) c.inverse.ensures)
    ∙ map_over_more (inverted g.F.Field.ops) c.args.values.now p.values p.value-index x (omega arith) p.invariant (ap (get_or p.values p.value-index) c.value-item.is)
