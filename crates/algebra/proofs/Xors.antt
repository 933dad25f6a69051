-- Exclusive or of numbers: bit by bit, taken back, and beside a higher bit.
use Rattle.std.proofs.Common.{◌≡◌, ℕ, zero, suc, ◌+◌, ◌*◌, ◌/◌, ◌%◌, ◌^◌, ◌<◌, sym, ap, ◌∙◌, ap₂, mod-lt, suc-mul, arith, pow_pos}
use native.Mathlib.Nat.{pow-succ', div-div-eq-div-mul}
use lib.Bits.{bit_xor, differ, xor_step, xor_shr, xor_block, xor_shifted, xor_assoc, xor_self, xor_zero_l, xor_zero_r, xor_comm}
use lib.Pow.{split}

differ_below : (a b : ℕ) → a < 2 → b < 2 → differ a b < 2
differ_below zero b k l = l
differ_below (suc zero) zero k l = k
differ_below (suc zero) (suc zero) k l = omega arith
differ_below (suc zero) (suc (suc b)) k l = absurd (omega arith)
differ_below (suc (suc a)) b k l = absurd (omega arith)

xor_odd : (i j : ℕ) → bit_xor i j % 2 ≡ differ (i % 2) (j % 2)
xor_odd i j =
    let e = xor_step i j in
    let l : differ (i % 2) (j % 2) < 2 = differ_below (i % 2) (j % 2) (omega arith) (omega arith) in
    omega arith

pub bit_of_xor : (i j r : ℕ) → bit_xor i j / 2 ^ r % 2 ≡ differ (i / 2 ^ r % 2) (j / 2 ^ r % 2)
bit_of_xor i j r = ap (λ w. w % 2) (xor_shr i j r) ∙ xor_odd (i / 2 ^ r) (j / 2 ^ r)

pub bit_of_half : (j r : ℕ) → j / 2 ^ suc r % 2 ≡ j / 2 / 2 ^ r % 2
bit_of_half j r = ap (λ w. w % 2) (ap (λ w. j / w) (pow-succ' 2 r) ∙ sym (div-div-eq-div-mul j 2 (2 ^ r)))

pub xor_back : (i j : ℕ) → bit_xor (bit_xor i j) j ≡ i
xor_back i j = xor_assoc i j j ∙ ap (bit_xor i) (xor_self j) ∙ xor_zero_r i

pub xor_cancel : (i j d : ℕ) → bit_xor i d ≡ bit_xor j d → i ≡ j
xor_cancel i j d h = sym (xor_back i d) ∙ ap (λ w. bit_xor w d) h ∙ xor_back j d

pub same_from_xor : (i j : ℕ) → bit_xor i j ≡ 0 → i ≡ j
same_from_xor i j h = sym (xor_back i j) ∙ ap (λ w. bit_xor w j) h ∙ xor_zero_l j

xor_low : (k q r d : ℕ) → r < 2 ^ k → d < 2 ^ k → bit_xor (q * 2 ^ k + r) d ≡ q * 2 ^ k + bit_xor r d
xor_low k q r d l m =
    let e : d ≡ 0 * 2 ^ k + d = omega arith in
    ap (bit_xor (q * 2 ^ k + r)) e ∙ xor_block k q 0 r d l m ∙ ap (λ w. w * 2 ^ k + bit_xor r d) (xor_zero_r q)

-- a shift by a number below 2 ^ k keeps 2 ^ k apart
pub xor_above : (k i d : ℕ) → d < 2 ^ k → bit_xor (2 ^ k + i) d ≡ 2 ^ k + bit_xor i d
xor_above k i d l =
    let r : i % 2 ^ k < 2 ^ k = mod-lt i (pow_pos k) in
    let e = split i k in
    let a : 2 ^ k + i ≡ suc (i / 2 ^ k) * 2 ^ k + i % 2 ^ k = omega arith in
    let b : suc (i / 2 ^ k) * 2 ^ k + bit_xor (i % 2 ^ k) d ≡ 2 ^ k + (i / 2 ^ k * 2 ^ k + bit_xor (i % 2 ^ k) d) = omega arith in
    ap (λ w. bit_xor w d) a ∙ xor_low k (suc (i / 2 ^ k)) (i % 2 ^ k) d r l ∙ b
    ∙ ap (λ w. 2 ^ k + w) (sym (ap (λ w. bit_xor w d) (sym e) ∙ xor_low k (i / 2 ^ k) (i % 2 ^ k) d r l))

-- the top bit, and the rest
pub xor_top : (k j : ℕ) → j < 2 ^ k → bit_xor (2 ^ k) j ≡ 2 ^ k + j
xor_top k j l =
    let a : 2 ^ k ≡ 1 * 2 ^ k = omega arith in
    let b : 1 * 2 ^ k + j ≡ 2 ^ k + j = omega arith in
    ap (λ w. bit_xor w j) a ∙ xor_shifted 1 k j l ∙ b

-- place j of byte b
pub xor_byte : (b j : ℕ) → j < 8 → bit_xor j (8 * b) ≡ 8 * b + j
xor_byte b j l =
    let a : 8 * b ≡ b * 8 = omega arith in
    let c : b * 8 + j ≡ 8 * b + j = omega arith in
    xor_comm j (8 * b) ∙ ap (λ w. bit_xor w j) a ∙ xor_shifted b 3 j l ∙ c

-- a set bit is taken away
pub xor_set_bit : (j r : ℕ) → j / 2 ^ r % 2 ≡ 1 → bit_xor j (2 ^ r) + 2 ^ r ≡ j
xor_set_bit j r h =
    let s : j % 2 ^ r < 2 ^ r = mod-lt j (pow_pos r) in
    let e = split j r in
    let one : 2 ^ r ≡ 1 * 2 ^ r + 0 = omega arith in
    let odd : bit_xor (j / 2 ^ r) 1 ≡ bit_xor (j / 2 ^ r / 2) 0 * 2 + differ 1 1 = xor_step (j / 2 ^ r) 1 ∙ ap (λ w. bit_xor (j / 2 ^ r / 2) 0 * 2 + differ w 1) h in
    let half : bit_xor (j / 2 ^ r / 2) 0 ≡ j / 2 ^ r / 2 = xor_zero_r (j / 2 ^ r / 2) in
    let less : suc (bit_xor (j / 2 ^ r) 1) ≡ j / 2 ^ r = omega arith in
    let back : bit_xor (j / 2 ^ r) 1 * 2 ^ r + 2 ^ r ≡ j / 2 ^ r * 2 ^ r = sym (suc-mul (bit_xor (j / 2 ^ r) 1) (2 ^ r)) ∙ ap (λ w. w * 2 ^ r) less in
    let parts : bit_xor j (2 ^ r) ≡ bit_xor (j / 2 ^ r) 1 * 2 ^ r + j % 2 ^ r =
    ap₂ bit_xor (sym e) one ∙ xor_block r (j / 2 ^ r) 1 (j % 2 ^ r) 0 s (pow_pos r) ∙ ap (λ w. bit_xor (j / 2 ^ r) 1 * 2 ^ r + w) (xor_zero_r (j % 2 ^ r)) in
    omega arith
