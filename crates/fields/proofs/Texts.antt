-- The digits of a number are ASCII.
use Rattle.std.proofs.Common.{ℕ, zero, suc, ◌<◌, false, arith}
use Rattle.std.specs.Str.{IsAscii}
use Rattle.std.specs.Fmt.{digit_glyph}
use Rattle.fields.specs.Text.{low_digits}

pub glyph_IsAscii : (d : ℕ) → d < 16 → digit_glyph false d < 128
glyph_IsAscii d h = grind arith

pub IsAscii-low_digits : (k n : ℕ) → IsAscii (low_digits k n)
IsAscii-low_digits zero n i = omega arith
IsAscii-low_digits (suc k) n zero = glyph_IsAscii _ (omega arith)
IsAscii-low_digits (suc k) n (suc i) = IsAscii-low_digits k n i
