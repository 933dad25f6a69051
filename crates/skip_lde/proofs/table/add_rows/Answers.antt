use Rattle.std.proofs.Common.{◌≡◌, ◌+◌, ◌*◌, ◌≤◌, length, get_or, drop, sym, ap, ◌∙◌, ap₂, arith}
use Rattle.std.proofs.lemmas.List.{length-take-le}
use Rattle.std.proofs.lemmas.Nat.{mul-le}
use Rattle.skip_lde.proofs.Writes.{middle_part, last_part, earlier_row}
use Rattle.skip_lde.proofs.table.add_rows.Goals as goal

pub returns-clause-sums : goal.returns-clause-sums
returns-clause-sums g c i h =
    let o = g.F.Field.ops in
    let n = c.args.n in
    let v = c.args.v in
    let parts = c.split_at_mut-earlier in
    let earlier = parts.result.0.now in
    let later = parts.result.1.now in
    let r = c.requires.rows in
    let room = mul-le (v + 1) n 256 n (omega arith) (omega arith) in
    let len : n ≤ length later = omega (arith, parts.ensures.back_len) in
    let all = length-take-le n later len in
    let items : length c.loop-i.entry-items ≡ n = c.loop-i.auto.entry-items ∙ all in
    middle_part o.zero earlier c.loop-i.entry-items (drop n later) (v * n) parts.ensures.front_len i (omega arith)
    ∙ c.loop-i.invariant i (omega arith)
    ∙ ap₂ o.sum (earlier_row o.zero earlier c.args.table.now v n c.args.rest i parts.ensures.front r.1 h) (earlier_row o.zero earlier c.args.table.now v n c.args.bit i parts.ensures.front r.2 h)

pub returns-clause-after : goal.returns-clause-after
returns-clause-after g c p h =
    let o = g.F.Field.ops in
    let n = c.args.n in
    let v = c.args.v in
    let parts = c.split_at_mut-earlier in
    let earlier = parts.result.0.now in
    let later = parts.result.1.now in
    let room = mul-le (v + 1) n 256 n (omega (arith, c.requires.rows)) (omega arith) in
    let len : n ≤ length later = omega (arith, parts.ensures.back_len) in
    let items : length c.loop-i.entry-items ≡ n = c.loop-i.auto.entry-items ∙ length-take-le n later len in
    last_part o.zero earlier c.loop-i.entry-items later (v * n) n parts.ensures.front_len items p h ∙ ap (λ xs. get_or xs p o.zero) (sym parts.ensures.value)
