-- The sizes of a domain of dimensions s and e: whole bytes, whole blocks, and shifts that stay within the transmitted points.
use Rattle.std.proofs.Common.{◌≡◌, ℕ, ◌+◌, ◌-◌, ◌*◌, ◌/◌, ◌^◌, ◌<◌, ◌≤◌, sym, ap, ◌∙◌, subst, div-lt_iff_lt-mul, arith, pow_pos}
use native.Mathlib.Nat.{div-eq_of_lt}
use lib.Bits.{bit_xor, xor_shr, xor_zero_r}
use Rattle.std.proofs.lemmas.Nat.{pow-add}
use Rattle.skip_lde.specs.Rows.{transmitted, bytes_of_row}

-- a change below 2 ^ k stays below a multiple of 2 ^ k
pub xor_within : (k m i x : ℕ) → i < m * 2 ^ k → x < 2 ^ k → bit_xor i x < m * 2 ^ k
xor_within k m i x h l =
    let s : bit_xor i x / 2 ^ k ≡ i / 2 ^ k = xor_shr i x k ∙ ap (bit_xor (i / 2 ^ k)) (div-eq_of_lt l) ∙ xor_zero_r (i / 2 ^ k) in
    let a : i / 2 ^ k < m = (div-lt_iff_lt-mul {k = 2 ^ k} {x = i} {y = m} (pow_pos k)).1 h in
    (div-lt_iff_lt-mul {k = 2 ^ k} {x = bit_xor i x} {y = m} (pow_pos k)).0 (subst (λ (w : ℕ). w < m) (sym s) a)

-- 2 ^ s points are 2 ^ (s - 3) bytes
pub size_bytes : (s : ℕ) → 3 ≤ s → 2 ^ s ≡ 8 * 2 ^ (s - 3)
size_bytes s h = let e : s ≡ 3 + (s - 3) = omega arith in ap (λ (x : ℕ). 2 ^ x) e ∙ pow-add 2 3 (s - 3)

pub bytes_of : (s : ℕ) → 3 ≤ s → bytes_of_row s ≡ 2 ^ (s - 3)
bytes_of s h = let e = size_bytes s h in omega arith

pub whole_bytes : (s : ℕ) → 3 ≤ s → 2 ^ s ≡ bytes_of_row s * 8
whole_bytes s h = let e = size_bytes s h in omega arith

-- the transmitted points are 2 ^ (e - s) - 1 shifts of S
pub shifts : (s e : ℕ) → s < e → transmitted s e ≡ (2 ^ (e - s) - 1) * 2 ^ s
shifts s e h =
    let d : e ≡ (e - s) + s = omega arith in
    let p : 2 ^ e ≡ 2 ^ (e - s) * 2 ^ s = ap (λ (x : ℕ). 2 ^ x) d ∙ pow-add 2 (e - s) s in
    let o : 2 ^ (e - s) ≡ 1 + (2 ^ (e - s) - 1) = omega (arith, pow_pos (e - s)) in
    let q : 2 ^ (e - s) * 2 ^ s ≡ 2 ^ s + (2 ^ (e - s) - 1) * 2 ^ s = ap (λ (x : ℕ). x * 2 ^ s) o ∙ omega arith in
    omega arith

pub blocks_of : (s e : ℕ) → 3 ≤ s → s < e → transmitted s e ≡ 8 * ((2 ^ (e - s) - 1) * 2 ^ (s - 3))
blocks_of s e t h =
    let a = shifts s e h in
    let b : (2 ^ (e - s) - 1) * 2 ^ s ≡ (2 ^ (e - s) - 1) * (8 * 2 ^ (s - 3)) = ap (λ (x : ℕ). (2 ^ (e - s) - 1) * x) (size_bytes s t) in
    a ∙ b ∙ omega arith

-- a shift by a byte of the row
pub shifted_within : (s e i b : ℕ) → 3 ≤ s → s < e → i < transmitted s e → b < bytes_of_row s → bit_xor i (8 * b) < transmitted s e
shifted_within s e i b t h l m =
    let n = shifts s e h in
    let w = size_bytes s t in
    subst (λ (x : ℕ). bit_xor i (8 * b) < x) (sym n) (xor_within s (2 ^ (e - s) - 1) i (8 * b) (subst (λ (x : ℕ). i < x) n l) (omega arith))

-- block q, shifted by a byte of the row
pub block_shifted : (s e q b : ℕ) → 3 ≤ s → s < e → q < transmitted s e / 8 → b < bytes_of_row s → 8 * bit_xor q b + 8 ≤ transmitted s e
block_shifted s e q b t h l m =
    let n = blocks_of s e t h in
    let w = bytes_of s t in
    let x = xor_within (s - 3) (2 ^ (e - s) - 1) q b (omega arith) (omega arith) in
    omega arith
