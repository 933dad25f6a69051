-- The text of an element: its number in hexadecimal digits.
use Rattle.std.specs.Prelude.{ℕ, zero, suc, ◌-◌, ◌*◌, ◌/◌, ◌%◌, ◌^◌, List, [], ◌∷◌, min, false}
use Rattle.std.specs.Fmt.{digit_glyph}
use Rattle.fields.specs.Tower.{Level}

-- the low k digits of n, of four bits each, the highest first
abbrev pub low_digits : ℕ → ℕ → List ℕ
low_digits zero n = []
low_digits (suc k) n = digit_glyph false (n / 2 ^ (4 * k) % 16) ∷ low_digits k n

-- a digit for four bits, one for fewer, and at most 32
abbrev pub digit_count : ℕ → ℕ
digit_count log_bits = 2 ^ min (log_bits - 2) 5

-- the low 128 bits of an element's number in as many digits
abbrev pub hexadecimal : {F : Type 0} → Level F → F → List ℕ
hexadecimal l x = low_digits (digit_count l.log_bits) (l.number x % 2 ^ 128)
