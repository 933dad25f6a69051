-- What an argument says of the number of repetitions.
use Rattle.std.specs.Prelude.{ℕ, ◌^◌, ◌<◌, List, Option, None, Some, Result, OkIff}
use Rattle.std.specs.Str.Parse.{IsNumeral, digits_value, without_leading_plus}

-- a number of repetitions: at least one, and a 32-bit number
abbrev pub Count : ℕ → Type 0
Count n = (0 < n) × (n < 2 ^ 32)

-- the number that the word writes in decimal, after a plus if one stands first, or the default where there is no word; an error where that is no such number
abbrev pub Asked : {E : Type 0} → Option (List ℕ) → ℕ → Result ℕ E → Type 0
Asked None default answer = OkIff answer (Count default) default
Asked (Some word) default answer =
    let digits = without_leading_plus word in
    OkIff answer (IsNumeral 10 digits × Count (digits_value 10 digits)) (digits_value 10 digits)
