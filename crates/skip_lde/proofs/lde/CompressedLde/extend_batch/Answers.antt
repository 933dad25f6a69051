use Rattle.std.proofs.Common.{◌≡◌, ℕ, ◌/◌, ◌<◌, List, length, ◌∙◌, subst, arith, length-drop, length-take}
use Rattle.skip_lde.specs.Rows.{transmitted, bytes_of_row, packed_row}
use Rattle.skip_lde.specs.Tables.{SumsEntriesOfRows}
use Rattle.skip_lde.proofs.Extensions.{entries_extend}
use Rattle.skip_lde.proofs.Writes.{row_within}
use Rattle.skip_lde.proofs.lde.CompressedLde.extend_batch.Goals as goal

packed_length : (w r : ℕ) (rows : List ℕ) → r < length rows / w → length (packed_row w rows r) ≡ w
packed_length w r rows h = let l = row_within r w (length rows) h in simp (length-take, length-drop) (omega arith)

pub returns-clause-values : goal.returns-clause-values
returns-clause-values g c B r i h k =
    let o = g.F.Field.ops in
    let d = c.args.self.now.dimensions in
    let s = d.log_size in
    let rows = c.args.rows.now in
    let out = c.extend_rows.new.out in
    let t = c.new.result in
    let width = subst (λ (n : ℕ). SumsEntriesOfRows o n t.row_bytes t.entries.now rows (length rows / t.row_bytes) out) c.new.ensures.width c.extend_rows.ensures in
    let bytes = subst (λ (w : ℕ). SumsEntriesOfRows o (transmitted s d.log_extended) w t.entries.now rows (length rows / w) out) c.new.ensures.bytes width in
    let sums = subst (λ (x : List g.row.F.Denot). SumsEntriesOfRows o (transmitted s d.log_extended) (bytes_of_row s) x rows (length rows / bytes_of_row s) out) c.new.ensures.entries bytes in
    sums r i h k
    ∙ entries_extend g.met.F.Field.laws g.met.F.TowerLevel.tower s d.whole (let f = B.fits in omega (arith, d.larger)) d.log_extended c.args.table.now (packed_row (bytes_of_row s) rows r) i d.larger B (packed_length (bytes_of_row s) r rows h) k
