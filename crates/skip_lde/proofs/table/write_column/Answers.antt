use Rattle.std.proofs.Common.{◌≡◌, ◌+◌, ◌*◌, ◌^◌, ◌<◌, ◌≢◌, length, get_or, set, sym, ap, ◌∙◌, arith, get_or-set_other, get_or-set_same, below_more}
use Rattle.std.proofs.lemmas.List.{get_or_read}
use Rattle.skip_lde.proofs.Places.{columns_apart, bit_rows_apart, bit_row}
use Rattle.skip_lde.proofs.table.write_column.Goals as goal

pub loop-j-preserved : goal.loop-j-preserved
loop-j-preserved g c =
    let z = g.F.Field.ops.zero in
    let n = c.args.n in
    let i = c.args.i in
    let j = c.loop-j.j in
    let xs = c.loop-j.table in
    let column = c.args.column.now in
    let y = get_or column j c.index-column-j.result in
    let at = c.entry_place-at.result in
    let to : at ≡ 2 ^ j * n + i = c.entry_place-at.ensures.0 ∙ ap (λ x. x * n + i) (bit_row j c.loop-j-test.true).0 in
    let within : at < length xs = omega (arith, c.entry_place-at.ensures.1) in
    let p : j < length column = omega arith in
    let here : y ≡ get_or column j z = sym c.index-column-j.is ∙ get_or_read _ _ _ p c.index-column-j.is z in (
      below_more (λ m. get_or (set xs at y) (2 ^ m * n + i) z ≡ get_or column m z) j
          (λ m h. let d : 2 ^ m * n + i ≢ at = λ e. bit_rows_apart m j n i h c.requires.place (e ∙ to) in get_or-set_other xs at (2 ^ m * n + i) y z d ∙ c.loop-j.invariant.0 m h)
          (ap (λ x. get_or (set xs at y) x z) (sym to) ∙ get_or-set_same xs at y z within ∙ here),
      λ u k h. let d : u * n + k ≢ at = λ e. columns_apart u (2 ^ j) n k i (omega arith) c.requires.place (omega arith) (e ∙ to) in get_or-set_other xs at (u * n + k) y z d ∙ c.loop-j.invariant.1 u k h,
    )
