use Rattle.std.proofs.Common.{◌≡◌, ◌+◌, ◌*◌, ◌%◌, ◌^◌, get_or, ap, ◌∙◌, arith}
use lib.Count.{count_trailing_zeros}
use Rattle.std.proofs.lemmas.Nat.{one_shl}
use Rattle.skip_lde.proofs.PeeledRows.{lowest, one_bit, peeled}
use Rattle.skip_lde.proofs.table.peel_rows.Goals as goal
use Rattle.skip_lde.proofs.table.peel_rows.Goals.{then-bit-v, else-bit-v}

pub loop-v-preserved : goal.loop-v-preserved
loop-v-preserved g c =
    let z = g.F.Field.ops.zero in
    let v = c.loop-v.v in
    let n = c.args.n in
    let r = count_trailing_zeros 64 v in
    let b = 1 * 2 ^ r % 2 ^ 64 in
    let low = lowest v (omega arith) c.loop-v-test.true in
    let e : b ≡ 2 ^ r = one_shl r 64 (omega (arith, low.0)) in
    let L = g.met.F.Field.laws in
    let inv = c.loop-v.invariant in
    elim c.if-bit-v.branch [
      | then-bit-v w ↦
          let a = w.add_rows.ensures in (
            λ u i h k. ap (λ xs. get_or xs (u * n + i) z) w.table-is ∙ peeled L c.args.table.now c.loop-v.table n v r low inv.0 inv.1 w.add_rows.new.table b e w.if-bit-v.true a.sums a.before u i h k,
            λ p h. ap (λ xs. get_or xs p z) w.table-is ∙ a.after p (omega arith) ∙ inv.1 p (omega arith),
          )
      | else-bit-v w ↦
          let least = low.2 in
          let s : v ≡ 2 ^ r = omega (arith, w.if-bit-v.false) in (
            λ u i h k. ap (λ xs. get_or xs (u * n + i) z) w.table-is ∙ one_bit L c.args.table.now c.loop-v.table n v r low inv.0 inv.1 s u i h k,
            λ p h. ap (λ xs. get_or xs p z) w.table-is ∙ inv.1 p (omega arith),
          )
    ]
