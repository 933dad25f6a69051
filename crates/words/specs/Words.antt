-- The words of a text, which one or more spaces part, and the first of them with what follows it.
use Rattle.std.specs.Prelude.{ℕ, List, drop, filter, ◌==◌, Bool}
use Rattle.std.specs.List.{position_or_len, before_first}
use Rattle.words.specs.Pieces.{some, other, pieces}

-- the pieces between spaces that are not empty
abbrev pub words : List ℕ → List (List ℕ)
words l = filter some (pieces 32 l)

abbrev pub is_space : ℕ → Bool
is_space b = b == 32

abbrev pub after_spaces : List ℕ → List ℕ
after_spaces l = drop (position_or_len (other 32) l) l

-- empty where there is no word
abbrev pub first_word : List ℕ → List ℕ
first_word l = before_first is_space (after_spaces l)

-- empty, or from the space behind the first word on
abbrev pub after_word : List ℕ → List ℕ
after_word l = drop (position_or_len is_space (after_spaces l)) (after_spaces l)
