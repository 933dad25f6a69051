-- The extension table, and what extending a row gives from it.
use Rattle.std.specs.Prelude.{◌≡◌, ℕ, ◌+◌, ◌-◌, ◌*◌, ◌%◌, ◌<◌, ◌≤◌, List, ◌∷◌, length, replicate, bit_xor, slice_index, slice_index_or}
use Rattle.fields.specs.Field.{Operations}
use Rattle.fields.specs.Tower.{Level, width}
use Rattle.algebra.specs.Sums.{sum_below}
use Rattle.skip_lde.specs.Rows.{bytes_of_row, transmitted, packed_row, extension}

-- the row whose byte 0 is v and whose other bytes are 0
abbrev pub first_byte : ℕ → ℕ → List ℕ
first_byte s v = v ∷ replicate (bytes_of_row s - 1) 0

module _ {F : Type 0} (o : Operations F) (l : Level F) where
  -- entry (v, i): the value at transmitted point i for that row
  abbrev pub entry : ℕ → ℕ → ℕ → F
  entry s v i = extension o l s (first_byte s v) i

-- the table is the one built for dimensions s and e: the points differ, and entry (v, i) stands at v N + i
pub record Built {F : Type 0} (o : Operations F) (l : Level F) (s e : ℕ) (table : List F) : Type 0 where
  pub fits : e ≤ width l
  pub entries : (v i : ℕ) → v < 256 → i < transmitted s e → slice_index_or table (v * transmitted s e + i) o.zero ≡ entry o l s v i

module _ {F : Type 0} (o : Operations F) where
  -- output i of a row, from a table of rows of n entries, whatever it holds: the sum over bytes b of entry (byte b, i xor 8 b)
  abbrev pub entries_sum : ℕ → List F → List ℕ → ℕ → F
  entries_sum n table row i = sum_below o (length row) (λ b. slice_index_or table (slice_index row b % 256 * n + bit_xor i (8 * b)) o.zero)

  -- the outputs of one row, at the first n places
  abbrev pub SumsEntries : ℕ → List F → List ℕ → List F → Type 0
  SumsEntries n table row out = (i : ℕ) → i < n → slice_index_or out i o.zero ≡ entries_sum n table row i

  -- the outputs of all rows of w bytes, row r at the n places from r n on
  abbrev pub SumsEntriesOfRows : ℕ → ℕ → List F → List ℕ → ℕ → List F → Type 0
  SumsEntriesOfRows n w table rows count out =
      (r i : ℕ) → r < count → i < n → slice_index_or out (r * n + i) o.zero ≡ entries_sum n table (packed_row w rows r) i

module _ {F : Type 0} (o : Operations F) (l : Level F) where
  -- output i is the value at transmitted point i of the polynomial of degree below 2 ^ s with the row's bits on S
  abbrev pub Extends : ℕ → ℕ → List ℕ → List F → Type 0
  Extends s e row out = (i : ℕ) → i < transmitted s e → slice_index_or out i o.zero ≡ extension o l s row i

  abbrev pub ExtendsRows : ℕ → ℕ → List ℕ → ℕ → List F → Type 0
  ExtendsRows s e rows count out =
      (r i : ℕ) → r < count → i < transmitted s e
      → slice_index_or out (r * transmitted s e + i) o.zero ≡ extension o l s (packed_row (bytes_of_row s) rows r) i
