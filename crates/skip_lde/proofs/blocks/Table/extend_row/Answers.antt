use Rattle.std.proofs.Common.{◌≡◌, ◌+◌, ◌-◌, ◌*◌, get_or, sym, ap, ◌∙◌, inl, inr, arith}
use Rattle.std.proofs.lemmas.Bool.{cases_lt}
use Rattle.skip_lde.specs.Tables.{entries_sum}
use Rattle.skip_lde.proofs.blocks.Table.extend_row.Goals as goal

pub loop-q-preserved : goal.loop-q-preserved
loop-q-preserved g c p h =
    let o = g.F.Field.ops in
    let q = c.loop-q.q in
    let out = c.write_block.new.out in
    elim (cases_lt p (8 * q)) [
      | inl l ↦ c.write_block.ensures.kept p l ∙ c.loop-q.invariant p l
      | inr l ↦
          let d : 8 * q + (p - 8 * q) ≡ p = omega arith in
          ap (λ x. get_or out x o.zero) (sym d) ∙ c.write_block.ensures.sums (p - 8 * q) (omega arith)
          ∙ ap (entries_sum o c.args.self.now.width c.args.self.now.entries.now c.args.row.now) d
    ]
