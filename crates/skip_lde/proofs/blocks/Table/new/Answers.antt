use Rattle.std.proofs.Common.{arith}
use Rattle.skip_lde.proofs.Sizes.{blocks_of, block_shifted}
use Rattle.skip_lde.proofs.blocks.Table.new.Goals as goal

pub invariant_of-result : goal.invariant_of-result
invariant_of-result g c =
    let d = c.args.dimensions in
    let s = d.log_size in
    let e = d.log_extended in
    let k = blocks_of s e d.whole d.larger in
    let n = c.num_transmitted.ensures in
    let b = c.row_bytes.ensures in
    record {
      whole = (omega arith, omega arith);
      bytes = omega arith;
      blocks = (omega arith, omega arith);
      shifts = λ q b h m. let x = block_shifted s e q b d.whole d.larger (omega arith) (omega arith) in omega arith;
    }
