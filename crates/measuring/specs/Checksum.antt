-- The checksum of elements: the sum so far turned by five bits, the number of the element laid over it, times a factor.
use Rattle.std.specs.Prelude.{ℕ, ◌*◌, ◌/◌, ◌%◌, ◌^◌, bit_or, bit_xor}
use Rattle.fields.specs.Tower.{Level}

abbrev pub rotated : ℕ → ℕ
rotated sum = bit_or (sum * 2 ^ 5 % 2 ^ 64) (sum / 2 ^ 59)

abbrev pub stirred_in : ℕ → ℕ → ℕ
stirred_in sum number = bit_xor (rotated sum) number * 0x517c_c1b7_2722_0a95 % 2 ^ 64

-- the low 64 bits of the element's number
abbrev pub element_in : {F : Type 0} → Level F → ℕ → F → ℕ
element_in l sum x = stirred_in sum (l.number x % 2 ^ 64)
