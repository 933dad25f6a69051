-- Packed rows of bits, and the polynomial that a row stands for. S is the first 2 ^ s points of the Cantor basis; the
-- transmitted points are those after it, up to the first 2 ^ e.
use Rattle.std.specs.Prelude.{ℕ, ◌+◌, ◌-◌, ◌*◌, ◌/◌, ◌%◌, ◌^◌, Bool, cond, List, take, drop, slice_index}
use Rattle.fields.specs.Field.{Operations}
use Rattle.fields.specs.Tower.{Level, bit_set}
use Rattle.algebra.specs.Interpolation.{interpolation}
use Rattle.algebra.specs.Points.{point}

-- how many points are transmitted
abbrev pub transmitted : ℕ → ℕ → ℕ
transmitted s e = 2 ^ e - 2 ^ s

-- how many bytes a packed row has, one bit for each point of S
abbrev pub bytes_of_row : ℕ → ℕ
bytes_of_row s = 2 ^ s / 8

-- the bit at point c of S: bit j of byte b is the one at point 8 b + j
abbrev pub row_bit : List ℕ → ℕ → Bool
row_bit row c = bit_set (slice_index row (c / 8)) (c % 8)

-- row r of rows of w bytes each, packed back to back
abbrev pub packed_row : ℕ → List ℕ → ℕ → List ℕ
packed_row w rows r = take w (drop (r * w) rows)

module _ {F : Type 0} (o : Operations F) (l : Level F) where
  -- the value at x of the polynomial of degree below 2 ^ s that has the row's bits as its values on S
  abbrev pub row_value : ℕ → List ℕ → F → F
  row_value s row = interpolation o (2 ^ s) (point o l) (λ c. cond (row_bit row c) o.one o.zero)

  -- its value at transmitted point i
  abbrev pub extension : ℕ → List ℕ → ℕ → F
  extension s row i = row_value s row (point o l (2 ^ s + i))
