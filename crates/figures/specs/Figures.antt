-- The figures that whoever rebuilds the round must get, as one list. A figure is what the definitions give, and what it
-- should be; both are lists of numbers. Bytes are written in decimal.
use Rattle.std.specs.Prelude.{◌≡◌, ℕ, ◌-◌, ◌^◌, cond, List, [], ◌∷◌, map, Some, None, Option}
use Rattle.fields.specs.Bytes.{byte, byte_ops, byte_level}
use Rattle.algebra.specs.Points.{point}
use Rattle.skip_dimensions.specs.Degrees.{extra, dimensions, admits}
use Rattle.skip_dimensions.specs.Refusals.{Report, construction_for}
use Rattle.skip_lde.specs.Rows.{extension}

abbrev pub Figure : Type 0
Figure = List ℕ × List ℕ

-- a number or none; a refusal's number and values, or none
abbrev pub some_number : Option ℕ → List ℕ
some_number None = []
some_number (Some n) = n ∷ []

abbrev pub some_report : Option Report → List ℕ
some_report None = []
some_report (Some r) = r.0 ∷ r.1

abbrev pub extra_number : ℕ → ℕ
extra_number d = elim (extra d) [ None ↦ 0 | Some e ↦ e ]

-- how many values a round for this log_size and degree transmits
abbrev pub transmits : ℕ → ℕ → List ℕ
transmits s d = elim (dimensions s d) [ None ↦ [] | Some e ↦ (2 ^ e - 2 ^ s) ∷ [] ]

abbrev pub admitted : ℕ → ℕ → ℕ → ℕ
admitted s e d = cond (admits s e d) 1 0

abbrev pub figures : List Figure
figures =
    -- degrees 1, 2, 3, 5, 8, 9 need 1, 1, 2, 3, 3, 4 extra dimensions
    (map extra_number (1 ∷ 2 ∷ 3 ∷ 5 ∷ 8 ∷ 9 ∷ []), 1 ∷ 1 ∷ 2 ∷ 3 ∷ 3 ∷ 4 ∷ [])
    -- over Byte, a round for (6, 4) transmits 192 values; (6, 5) is refused with 2 and limit 8; (2, 2) with 4
    ∷ (some_report (construction_for 3 6 4), [])
    ∷ (transmits 6 4, 192 ∷ [])
    ∷ (some_report (construction_for 3 6 5), 2 ∷ 9 ∷ 8 ∷ [])
    ∷ (some_report (construction_for 3 2 2), 4 ∷ 2 ∷ [])
    -- domain (3, 6) admits degree 8 and not degree 9
    ∷ (map (admitted 3 6) (8 ∷ 9 ∷ []), 1 ∷ 0 ∷ [])
    -- point(9) = 0B; 04 times 04 is 06; 10 times 10 is 18, in hexadecimal
    ∷ ((point byte_ops byte_level 9).value ∷ [], 11 ∷ [])
    ∷ ((byte_ops.product (byte 4) (byte 4)).value ∷ [], 6 ∷ [])
    ∷ ((byte_ops.product (byte 16) (byte 16)).value ∷ [], 24 ∷ [])
    -- in (3, 4), row FF extends to eight times 01
    ∷ (map (λ i. (extension byte_ops byte_level 3 (255 ∷ []) i).value) (0 ∷ 1 ∷ 2 ∷ 3 ∷ 4 ∷ 5 ∷ 6 ∷ 7 ∷ []), 1 ∷ 1 ∷ 1 ∷ 1 ∷ 1 ∷ 1 ∷ 1 ∷ 1 ∷ [])
    ∷ []

-- every figure is what it should be
abbrev pub Hold : List Figure → Type 0
Hold [] = Unit {0}
Hold (f ∷ fs) = (f.0 ≡ f.1) × Hold fs
