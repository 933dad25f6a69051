-- The shape that a line writes: its three words are decimals, the dimensions of the subspace, the
-- degree that sizes the domain, and the code of the rule.
use Rattle.std.specs.Prelude.{ℕ, List, [], ◌∷◌, Some, None, Option}
use Rattle.words.specs.Numerals.{decimal_of}
use Rattle.words.specs.Words.{words}
use Rattle.skip_plan.specs.declared.plan.Shape.{Shape}

abbrev pub shaped : Option ℕ → Option ℕ → Option ℕ → Option Shape
shaped None d c = None
shaped (Some s) None c = None
shaped (Some s) (Some d) None = None
shaped (Some s) (Some d) (Some c) = Some (record { log_size = s; degree = d; code = c })

-- three words, no fewer and no more
abbrev pub three : List (List ℕ) → Option Shape
three [] = None
three (s ∷ []) = None
three (s ∷ d ∷ []) = None
three (s ∷ d ∷ c ∷ []) = shaped (decimal_of s) (decimal_of d) (decimal_of c)
three (s ∷ d ∷ c ∷ x ∷ xs) = None

abbrev pub shape_of : List ℕ → Option Shape
shape_of t = three (words t)
