-- The number that a word of digits writes, in a base of at most sixteen.
use Rattle.std.specs.Prelude.{ℕ, ◌+◌, ◌-◌, ◌*◌, ◌^◌, Bool, cond, ◌&&◌, List, [], ◌∷◌, length, Some, None, Option, nat_le, nat_lt}
use Rattle.words.specs.Pieces.{every, some}

-- what the digits 0 to 9, a to f and A to F are worth; 16 for any other byte, which is no digit
abbrev pub worth : ℕ → ℕ
worth b =
    cond (nat_le 48 b && nat_le b 57) (b - 48)
    (cond (nat_le 97 b && nat_le b 102) (b - 87)
    (cond (nat_le 65 b && nat_le b 70) (b - 55) 16))

abbrev pub digit : ℕ → ℕ → Bool
digit base b = nat_lt (worth b) base

abbrev pub digit_of : ℕ → ℕ → Option ℕ
digit_of base b = cond (digit base b) (Some (worth b)) None

-- each digit has the weight of its place
abbrev pub value : ℕ → List ℕ → ℕ
value base [] = 0
value base (b ∷ bs) = worth b * base ^ length bs + value base bs

-- there is a number where the word is not empty, has digits only and writes less than 2 ^ 64
abbrev pub numeral_of : ℕ → List ℕ → Option ℕ
numeral_of base w = cond (some w && (every (digit base) w && nat_lt (value base w) (2 ^ 64))) (Some (value base w)) None

abbrev pub decimal_of : List ℕ → Option ℕ
decimal_of w = numeral_of 10 w

abbrev pub hexadecimal_of : List ℕ → Option ℕ
hexadecimal_of w = numeral_of 16 w
