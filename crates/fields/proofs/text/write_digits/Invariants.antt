use Rattle.std.proofs.Common.{◌≡◌, ℕ, ◌+◌, ◌*◌, ◌/◌, ◌^◌, length, drop}
use Rattle.fields.specs.Text.{low_digits}
use Rattle.fields.proofs.text.write_digits.Given as goal

-- k digits are written, and the rest of the number is left
abbrev pub invariant-loop-place : goal.invariant-loop-place
invariant-loop-place l = (k : ℕ) × (k + l.place ≡ length l.text) × (l.rest ≡ l.number / 2 ^ (4 * k)) × (drop l.place l.text ≡ low_digits k l.number)
