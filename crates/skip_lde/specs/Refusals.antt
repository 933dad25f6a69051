-- The causes for which an extension is not built and rows are not extended, as the table of refusals lists them.
-- A refusal is reported by its number and its values; a fault of the domain keeps its own. The first cause that applies
-- is the one reported.
use Rattle.std.specs.Prelude.{ℕ, ◌*◌, ◌/◌, ◌%◌, ◌^◌, cond, List, [], ◌∷◌, ◌++◌, codes, decimal, Some, None, Option, Result, ◌==◌, nat_lt}
use Rattle.skip_dimensions.specs.Refusals as domain
use Rattle.skip_dimensions.specs.Refusals.{Report, wrong_length, first_of}
use Rattle.skip_lde.specs.Rows.{transmitted, bytes_of_row}
use Rattle.skip_lde.specs.declared.fault.CompressedLdeError.{CompressedLdeError}
use Rattle.skip_lde.specs.declared.fault.CompressedLdeError.TheVariants.{Domain, NotWholeRows, TooManyRows, BufferLenMismatch}

-- the number of each cause in the table
abbrev pub number_of : CompressedLdeError → ℕ
number_of (Domain f) = domain.number_of f
number_of (NotWholeRows b) = 9
number_of (TooManyRows r) = 10
number_of (BufferLenMismatch p x a) = 5

-- the values that it returns, in the table's order
abbrev pub values_of : CompressedLdeError → List ℕ
values_of (Domain f) = domain.values_of f
values_of (NotWholeRows b) = b ∷ []
values_of (TooManyRows r) = r ∷ []
values_of (BufferLenMismatch p x a) = p ∷ x ∷ a ∷ []

-- how a cause is written: its name, and each value after its own
abbrev pub text_of : CompressedLdeError → List ℕ
text_of (Domain f) = domain.text_of f
text_of (NotWholeRows b) = codes "NotWholeRows: len " ++ decimal b
text_of (TooManyRows r) = codes "TooManyRows: rows " ++ decimal r
text_of (BufferLenMismatch p x a) = codes "BufferLenMismatch: place " ++ (decimal p ++ (codes ", expected " ++ (decimal x ++ (codes ", actual " ++ decimal a))))

-- what a call that may refuse reports
abbrev pub reported : {X : Type 0} → Result X CompressedLdeError → Option Report
reported = domain.reported_by number_of values_of

-- the causes of construction over a field of 2 ^ b bits, at dimensions s and e and a table of t elements
abbrev pub construction : ℕ → ℕ → ℕ → ℕ → Option Report
construction b s e t = first_of (domain.construction b s e) (wrong_length 2 (256 * transmitted s e) t)

-- over 2 ^ 32 whole rows of w bytes among b bytes
abbrev pub too_many : ℕ → ℕ → Option Report
too_many w b = cond (nat_lt (2 ^ 32) (b / w)) (Some (10, b / w ∷ [])) None

-- the causes of extending one packed row of b bytes, from a table of t elements into x outputs
abbrev pub of_one_row : ℕ → ℕ → ℕ → ℕ → ℕ → Option Report
of_one_row s e t b x =
    first_of (too_many (bytes_of_row s) b)
    (first_of (cond (b == bytes_of_row s) None (Some (9, b ∷ [])))
    (first_of (wrong_length 2 (256 * transmitted s e) t) (wrong_length 4 (transmitted s e) x)))

-- the causes of extending whole packed rows
abbrev pub of_rows : ℕ → ℕ → ℕ → ℕ → ℕ → Option Report
of_rows s e t b x =
    first_of (too_many (bytes_of_row s) b)
    (first_of (cond (b % bytes_of_row s == 0) None (Some (9, b ∷ [])))
    (first_of (wrong_length 2 (256 * transmitted s e) t) (wrong_length 4 (b / bytes_of_row s * transmitted s e) x)))
