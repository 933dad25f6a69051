use Rattle.std.proofs.Common.{ℕ, ◌+◌, ◌*◌, ◌%◌, ◌<◌, get_or, drop, sym, ap, ◌∙◌, ap₂, arith}
use lib.Bits.{bit_xor}
use Rattle.std.proofs.lemmas.List.{get_or-take, get_or-drop}
use Rattle.algebra.proofs.Sums.{sum_more}
use Rattle.skip_lde.proofs.Places.{block_place}
use Rattle.skip_lde.proofs.blocks.Table.sum_block.Goals as goal

pub loop-b-preserved : goal.loop-b-preserved
loop-b-preserved g c k h =
    let o = g.F.Field.ops in
    let b = c.loop-b.b in
    let n = c.args.self.now.width in
    let table = c.args.self.now.entries.now in
    let byte = get_or c.args.row.now b 0 in
    let at = byte * n + 8 * bit_xor c.args.q b in
    let f : ℕ → g.row.F.Denot = λ i. get_or table (get_or c.args.row.now i 0 % 256 * n + bit_xor (8 * c.args.q + k) (8 * i)) o.zero in
    let v : byte < 256 = omega (arith, c.type_inv.row b) in
    c.add_block.ensures k h
    ∙ ap₂ o.sum (c.loop-b.invariant k h) (ap (λ xs. get_or xs k o.zero) c.block.ensures.value ∙ get_or-take 8 (drop at table) k o.zero h ∙ get_or-drop at table k o.zero ∙ ap (λ p. get_or table p o.zero) (block_place byte n c.args.q b k v h))
    ∙ sym (sum_more o b f)
