-- The bytes that hexadecimal digits write, two digits a byte, the high one first.
use Rattle.std.specs.Prelude.{ℕ, ◌+◌, ◌*◌, cond, ◌||◌, List, [], ◌∷◌, Some, None, Option, nat_le}
use Rattle.words.specs.Numerals.{worth}

abbrev pub byte_written : ℕ → ℕ → Option ℕ
byte_written h l = cond (nat_le 16 (worth h) || nat_le 16 (worth l)) None (Some (worth h * 16 + worth l))

abbrev pub before : Option ℕ → Option (List ℕ) → Option (List ℕ)
before None bs = None
before (Some b) None = None
before (Some b) (Some bs) = Some (b ∷ bs)

-- none for an odd number of digits or for another character
abbrev pub bytes_of : List ℕ → Option (List ℕ)
bytes_of [] = Some []
bytes_of (h ∷ []) = None
bytes_of (h ∷ l ∷ ds) = before (byte_written h l) (bytes_of ds)
