use Rattle.std.proofs.Common.{ℕ, ◌+◌, ◌*◌, ◌^◌, ◌≤◌, length, get_or, sym, ap, ◌∙◌, arith, pow_pos, length-take}
use prog.Memory.{size}
use denote.Memory.{lone}
use Rattle.std.proofs.lemmas.Nat.{mul-le}
use Rattle.fields.specs.Tower.{width}
use Rattle.algebra.proofs.BitSums.{bit_sum_same}
use Rattle.skip_dimensions.proofs.Widths.{size_bounds}
use Rattle.skip_lde.proofs.Extensions.{column, entry_bits}
use Rattle.skip_lde.proofs.table.fill_table.Goals as goal

-- the table has more than sixteen elements, so sixteen take less than what the table takes
pub basis_elements-elements-requires : goal.basis_elements-elements-requires
basis_elements-elements-requires g c =
    let d = c.args.dimensions in
    let w = size_bounds d.log_size d.log_extended d.whole d.larger d.within in
    let m = mul-le 16 (size (lone g.row.F.mir)) (length c.args.table.now) (size (lone g.row.F.mir)) (omega arith) (omega arith) in
    omega arith

pub shared_whole_as_front-basis : goal.shared_whole_as_front-basis
shared_whole_as_front-basis g c =
    let d = c.args.dimensions in
    let w = size_bounds d.log_size d.log_extended d.whole d.larger d.within in
    let m = mul-le 16 (size (lone g.row.F.mir)) (length c.args.table.now) (size (lone g.row.F.mir)) (omega arith) (omega arith) in
    (d.within, omega arith)

pub first_points-points-requires : goal.first_points-points-requires
first_points-points-requires g c =
    let d = c.args.dimensions in
    let w = size_bounds d.log_size d.log_extended d.whole d.larger d.within in
    let m = mul-le 8 (size (lone g.row.F.mir)) (length c.args.table.now) (size (lone g.row.F.mir)) (omega arith) (omega arith) in
    (omega arith, simp length-take (omega arith))

later-row : (j n i : ℕ) → n ≤ 2 ^ j * n + i
later-row j n i = let m = mul-le 1 n (2 ^ j) n (pow_pos j) (omega arith) in omega arith

pub returns : goal.returns
returns g c =
    let o = g.F.Field.ops in
    let L = g.met.F.Field.laws in
    let V = g.met.F.TowerLevel.tower in
    let d = c.args.dimensions in
    let s = d.log_size in
    let n = c.num_transmitted-n.result in
    let e = c.num_transmitted-n.ensures.value in
    let fits = c.requires.fits in
    let small : s ≤ width g.F.TowerLevel.level = omega (arith, d.larger) in
    record {
      fits = fits;
      entries = λ v i h k.
          ap (λ x. get_or c.peel_rows.new.table (v * x + i) o.zero) (sym e)
          ∙ c.peel_rows.ensures v i h (omega arith)
          ∙ bit_sum_same L 8 (λ j. get_or c.clear_row.new.table (2 ^ j * n + i) o.zero) (λ j. column L V s d.whole small j i) v (λ j m.
          c.clear_row.ensures.kept (2 ^ j * n + i) (later-row j n i)
          ∙ ap (λ x. get_or c.write_columns.new.table (2 ^ j * x + i) o.zero) e ∙ c.write_columns.ensures j i m k)
          ∙ sym (entry_bits L V s d.whole small v i);
    }
