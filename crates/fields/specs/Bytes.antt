-- Bytes as sums of monomials. Bit i stands for the product of those X_k whose bit k is set in i: 1, X0, X1, X0X1, X2, X0X2, X1X2, X0X1X2.
-- X0² = X0 + 1, X1² = X1 + X0, X2² = X2 + X0X1. A sum is an exclusive or.
use Rattle.std.specs.Prelude.{◌≡◌, ℕ, zero, suc, ◌+◌, ◌-◌, ◌%◌, ◌^◌, ◌<◌, ◌≤◌, Bool, cond, ◌&&◌, List, [], ◌∷◌, Some, None, Option, ◌==◌, bit_xor}
use Rattle.std.proofs.Common.{mod-lt, lit<}
use Rattle.std.specs.Option.{option_map}
use Rattle.fields.specs.declared.byte.Byte.{Byte}
use Rattle.fields.specs.Field.{Operations}
use Rattle.fields.specs.Tower.{Level, bit_set}

-- the sum of f i over the set bits i of n below k
abbrev pub sum_bits : ℕ → (ℕ → ℕ) → ℕ → ℕ
sum_bits zero f n = 0
sum_bits (suc k) f n = bit_xor (sum_bits k f n) (cond (bit_set n k) (f k) 0)

-- the additive map that takes monomial i to f i
abbrev pub linear : (ℕ → ℕ) → ℕ → ℕ
linear = sum_bits 8

-- X0, X1 and X2 times monomial i
abbrev pub x0 : ℕ → ℕ
x0 i = cond (bit_set i 0) (bit_xor (2 ^ i) (2 ^ (i - 1))) (2 ^ (i + 1))

abbrev pub x1 : ℕ → ℕ
x1 i = cond (bit_set i 1) (bit_xor (2 ^ i) (x0 (i - 2))) (2 ^ (i + 2))

abbrev pub x2 : ℕ → ℕ
x2 i = cond (bit_set i 2) (bit_xor (2 ^ i) (linear x0 (x1 (i - 4)))) (2 ^ (i + 4))

abbrev pub times_if : Bool → (ℕ → ℕ) → ℕ → ℕ
times_if b f n = cond b (linear f n) n

-- the product of monomials i and j
abbrev pub monomials : ℕ → ℕ → ℕ
monomials i j = times_if (bit_set i 0) x0 (times_if (bit_set i 1) x1 (times_if (bit_set i 2) x2 (2 ^ j)))

-- the product of bytes: the bilinear map that takes monomials to their product
unfoldable pub bilinear : ℕ → ℕ → ℕ
bilinear x y = linear (λ i. linear (monomials i) y) x

-- the number below n that passes a test
unfoldable pub passing : (ℕ → Bool) → ℕ → Option ℕ
passing p zero = None
passing p (suc n) = cond (p n) (Some n) (passing p n)

-- the y with x y = 1
abbrev pub inverts : ℕ → ℕ → Bool
inverts x y = bilinear x y == 1

-- the y with y² + y = t whose bit 0 is clear
abbrev pub solves_byte : ℕ → ℕ → Bool
solves_byte t y = y % 2 == 0 && bit_xor (bilinear y y) y == t

abbrev pub byte : ℕ → Byte
byte n = record { value = n % 256; ok = mod-lt n (lit< tt) }

abbrev pub byte_ops : Operations Byte
byte_ops = record {
  zero = byte 0;
  one = byte 1;
  sum = λ x y. byte (bit_xor x.value y.value);
  product = λ x y. byte (bilinear x.value y.value);
  inverse = λ x. option_map byte (passing (inverts x.value) 256);
  equals = λ x y. (x.value == y.value);
}

abbrev pub byte_level : Level Byte
byte_level = record {
  log_bits = 3;
  number = λ x. x.value;
  top = byte 128;
  solve = λ t. option_map byte (passing (solves_byte t.value) 256);
}

-- its Cantor basis
abbrev pub byte_basis : List ℕ
byte_basis = 0x01 ∷ 0x02 ∷ 0x04 ∷ 0x0A ∷ 0x14 ∷ 0x20 ∷ 0x4C ∷ 0xAE ∷ []

-- the powers of the least generator, hexadecimal 12
abbrev pub power : ℕ → ℕ
power zero = 1
power (suc i) = bilinear 18 (power i)

-- the exponent of x as a power, or 510 for zero
pub record Log (x i : ℕ) : Type 0 where
  pub at_most : i ≤ 510
  pub of_zero : x ≡ 0 → i ≡ 510
  pub of_power : 0 < x → (i < 255) × (power i ≡ x)
