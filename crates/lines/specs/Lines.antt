-- The lines of an input, and what each of them is: passed over, unreadable or a text.
use Rattle.std.specs.Prelude.{◌≡◌, ℕ, ◌+◌, ◌-◌, Bool, true, cond, ◌&&◌, ◌||◌, List, [], ◌∷◌, ◌++◌, length, take, drop, Some, None, Option, ◌==◌, nat_le, slice_index}
use Rattle.std.specs.List.{position, before_first}
use Rattle.std.specs.Option.{option_map}
use Rattle.words.specs.Pieces.{every, some, other, pieces}

-- what a line is
pub data Class : Type 0 where
  passed_over : Class
  not_readable : Class
  text_of : List ℕ → Class

abbrev pub space : ℕ → Bool
space b = b == 32

abbrev pub printable : ℕ → Bool
printable b = nat_le 32 b && nat_le b 126

-- a comment, which begins with #, or nothing but spaces
abbrev pub idle : List ℕ → Bool
idle l = slice_index l 0 == 35 || every space l

abbrev pub is_readable : List ℕ → Bool
is_readable l = every printable l && nat_le (length l) 16384

abbrev pub classified : List ℕ → Class
classified l = cond (idle l) passed_over (cond (is_readable l) (text_of l) not_readable)

abbrev pub ends_in_cr : List ℕ → Bool
ends_in_cr l = slice_index l (length l - 1) == 13

-- l without the carriage return that it ends in, if it ends in one
abbrev pub without_cr : List ℕ → List ℕ
without_cr l = cond (ends_in_cr l) (take (length l - 1) l) l

-- what no line feed follows is a line if it is not empty
abbrev pub only_line : List ℕ → List (List ℕ)
only_line l = cond (some l) (l ∷ []) []

-- of the pieces between line feeds, each that a line feed follows is a line without its carriage return
abbrev pub lines_in : List (List ℕ) → List (List ℕ)
lines_in [] = []
lines_in (p ∷ []) = only_line p
lines_in (p ∷ q ∷ ps) = without_cr p ∷ lines_in (q ∷ ps)

abbrev pub lines_of : List ℕ → List (List ℕ)
lines_of l = lines_in (pieces 10 l)

abbrev pub is_lf : ℕ → Bool
is_lf b = b == 10

-- no byte of l is a line feed
abbrev pub lf_free : List ℕ → Bool
lf_free l = every (other 10) l

-- the bytes before the first line feed of l, or all of l where it has none
abbrev pub before_lf : List ℕ → List ℕ
before_lf l = before_first is_lf l

-- how many bytes l has up to its first line feed and with it, where it has one
abbrev pub through_lf : List ℕ → Option ℕ
through_lf l = option_map (λ i. i + 1) (position is_lf l)

-- what the input does to a line that began with the bytes l: its first n bytes end the line and the others are of later lines,
-- or it has no line feed, and the line goes on
abbrev pub EndsLine : List ℕ → Option ℕ → Type 0
EndsLine input None = (l : List ℕ) → lf_free l ≡ true → lines_of (l ++ input) ≡ only_line (l ++ input)
EndsLine input (Some n) = (l : List ℕ) → lf_free l ≡ true → lines_of (l ++ input) ≡ without_cr (l ++ before_lf input) ∷ lines_of (drop n input)
