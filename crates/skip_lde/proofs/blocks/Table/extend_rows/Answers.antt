use Rattle.std.proofs.Common.{◌≡◌, ℕ, ◌+◌, ◌-◌, ◌*◌, ◌≤◌, List, length, take, drop, ap, ◌∙◌, ap₂, arith, length-drop, length-take}
use Rattle.skip_lde.specs.Rows.{packed_row}
use Rattle.skip_lde.specs.Tables.{entries_sum}
use Rattle.skip_lde.proofs.Writes.{row_written}
use Rattle.skip_lde.proofs.blocks.Table.extend_rows.Goals as goal

-- a part of w places, from row r on
part : (xs : List ℕ) (at w r : ℕ) → at ≡ r * w → take (at + w - at) (drop at xs) ≡ packed_row w xs r
part xs at w r e = let d : at + w - at ≡ w = omega arith in ap₂ (λ x y. take x (drop y xs)) d e

part_length : {X : Type 0} (xs : List X) (at w : ℕ) → at + w ≤ length xs → length (take (at + w - at) (drop at xs)) ≡ w
part_length xs at w h = simp (length-take, length-drop) (omega arith)

pub loop-r-preserved : goal.loop-r-preserved
loop-r-preserved g c =
    let o = g.F.Field.ops in
    let r = c.loop-r.r in
    let w = c.args.self.now.row_bytes in
    let n = c.args.self.now.width in
    let at = c.row_start-to.result in
    let xs = c.loop-r.out in
    let ys = c.extend_row.new.out in
    let rows = c.args.rows.now in
    let p = part rows c.row_start-from.result w r c.row_start-from.ensures.0 in
    let z : length ys ≡ length (take (at + n - at) (drop at xs)) = c.extend_row.auto.out in
    let q : n ≤ length ys = omega (arith, z, part_length xs at n c.row_start-to.ensures.1) in
    row_written o.zero xs ys at (at + n - at) r n (λ q i. entries_sum o n c.args.self.now.entries.now (packed_row w rows q) i) c.row_start-to.ensures.0 (omega (arith, c.row_start-to.ensures.1)) q c.loop-r.invariant (λ i h. c.extend_row.ensures i h ∙ ap (λ x. entries_sum o n c.args.self.now.entries.now x i) p)
