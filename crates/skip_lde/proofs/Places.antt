-- Places in the table: the block of a byte, and what stays within a row of the table.
use Rattle.std.proofs.Common.{◌≡◌, ℕ, ◌+◌, ◌*◌, ◌%◌, ◌^◌, ◌<◌, ◌≢◌, sym, ap, ◌∙◌, ap₂, arith}
use lib.Bits.{bit_xor, xor_block, xor_zero_r}
use Rattle.std.proofs.lemmas.Nat.{mul-add-lt, mod-mul-add, pow_below, one_shl}

-- output k of block q takes from place k of block q xor b
pub block_xor : (q b k : ℕ) → k < 8 → bit_xor (8 * q + k) (8 * b) ≡ 8 * bit_xor q b + k
block_xor q b k h =
    let e : 8 * q + k ≡ q * 2 ^ 3 + k = omega arith in
    let f : 8 * b ≡ b * 2 ^ 3 + 0 = omega arith in
    let g : bit_xor q b * 2 ^ 3 + k ≡ 8 * bit_xor q b + k = omega arith in
    ap₂ bit_xor e f ∙ xor_block 3 q b k 0 h (omega arith) ∙ ap (λ w. bit_xor q b * 2 ^ 3 + w) (xor_zero_r k) ∙ g

pub block_place : (v n q b k : ℕ) → v < 256 → k < 8 → v * n + 8 * bit_xor q b + k ≡ v % 256 * n + bit_xor (8 * q + k) (8 * b)
block_place v n q b k l h =
    let e = block_xor q b k h in
    let m : v % 256 ≡ v = omega arith in
    let a : v * n + 8 * bit_xor q b + k ≡ v * n + (8 * bit_xor q b + k) = omega arith in
    a ∙ sym (ap₂ (λ x y. x * n + y) m e)

-- two places of different columns differ
pub columns_apart : (u v n k i : ℕ) → k < n → i < n → k ≢ i → u * n + k ≢ v * n + i
columns_apart u v n k i h l d e = d (sym (mod-mul-add u n k h) ∙ ap (λ x. x % n) e ∙ mod-mul-add v n i l)

-- two rows of one bit differ in place
pub bit_rows_apart : (m j n i : ℕ) → m < j → i < n → 2 ^ m * n + i ≢ 2 ^ j * n + i
bit_rows_apart m j n i h l e = let w = mul-add-lt (2 ^ m) n i (2 ^ j) (pow_below m j h) l in absurd (omega arith)

-- the row of bit j, as a program shifts it
pub bit_row : (j : ℕ) → j < 8 → (1 * 2 ^ j % 2 ^ 64 ≡ 2 ^ j) × (2 ^ j < 256)
bit_row j h = (one_shl j 64 (omega arith), pow_below j 8 h)
