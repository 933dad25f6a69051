use Rattle.std.proofs.Common.{◌≡◌, ◌+◌, ◌*◌, ◌^◌, get_or, sym, ap, ◌∙◌, inl, inr, arith}
use Rattle.std.proofs.lemmas.Bool.{cases_lt}
use Rattle.algebra.specs.Interpolation.{lagrange}
use Rattle.algebra.specs.Points.{point}
use Rattle.skip_lde.proofs.table.write_columns.Goals as goal

pub loop-i-preserved : goal.loop-i-preserved
loop-i-preserved g c j i h k =
    let o = g.F.Field.ops in
    let t = point o g.F.TowerLevel.level in
    let s = c.args.columns.now.dimensions.log_size in
    let n = c.num_transmitted-n.result in
    let after = c.write_column.new.table in
    elim (cases_lt i c.loop-i.i) [
      | inl d ↦ c.write_column.ensures.kept (2 ^ j) i d ∙ c.loop-i.invariant j i h d
      | inr d ↦
          let same : i ≡ c.loop-i.i = omega arith in
          ap (λ x. get_or after (2 ^ j * n + x) o.zero) same ∙ c.write_column.ensures.values j h ∙ c.column.ensures j h
          ∙ ap (λ x. lagrange o (2 ^ s) t j (t (2 ^ s + x))) (sym same)
    ]
