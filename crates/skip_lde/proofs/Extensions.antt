-- The value of a row's polynomial at a transmitted point, byte by byte: the table's entries are sums over the bits of a
-- byte, and from the built table extending gives that value.
use Rattle.std.proofs.Common.{◌≡◌, ℕ, zero, suc, ◌+◌, ◌-◌, ◌*◌, ◌/◌, ◌%◌, ◌^◌, ◌<◌, ◌≤◌, cond, eqb, ◌≢◌, List, length, get_or, replicate, sym, refl, ap, ◌∙◌, arith, pow_pos}
use lib.Bits.{bit_xor, xor_zero_r}
use Rattle.fields.specs.Field.{Operations, FieldLaws}
use Rattle.fields.specs.Tower.{Level, LevelLaws, width, bit_set}
use Rattle.algebra.specs.Sums.{sum_below, bit_sum}
use Rattle.algebra.specs.Interpolation.{lagrange}
use Rattle.algebra.specs.Points.{point}
use Rattle.algebra.proofs.Sums.{sum_same, sum_only}
use Rattle.algebra.proofs.BitSums.{bit_sum_zero}
use Rattle.algebra.proofs.Spans.{points_spanned}
use Rattle.algebra.proofs.Tables.{bits_by_bytes}
use Rattle.skip_lde.specs.Rows.{transmitted, bytes_of_row, row_bit, extension}
use Rattle.skip_lde.specs.Tables.{first_byte, entry, Built, entries_sum}
use Rattle.skip_lde.proofs.Sizes.{whole_bytes, bytes_of, shifted_within}

bit_of_byte : (row : List ℕ) (b j : ℕ) → j < 8 → row_bit row (8 * b + j) ≡ bit_set (get_or row b 0) j
bit_of_byte row b j h =
    let q : (8 * b + j) / 8 ≡ b = omega arith in
    let r : (8 * b + j) % 8 ≡ j = omega arith in
    ap (λ x. bit_set (get_or row x 0) ((8 * b + j) % 8)) q ∙ ap (λ x. bit_set (get_or row b 0) x) r

-- the bits below 8 are those of the last 256
low_bit : (x r : ℕ) → r < 8 → x % 256 / 2 ^ r % 2 ≡ x / 2 ^ r % 2
low_bit x zero h = omega arith
low_bit x (suc zero) h = omega arith
low_bit x (suc (suc zero)) h = omega arith
low_bit x (suc (suc (suc zero))) h = omega arith
low_bit x (suc (suc (suc (suc zero)))) h = omega arith
low_bit x (suc (suc (suc (suc (suc zero))))) h = omega arith
low_bit x (suc (suc (suc (suc (suc (suc zero)))))) h = omega arith
low_bit x (suc (suc (suc (suc (suc (suc (suc zero))))))) h = omega arith
low_bit x (suc (suc (suc (suc (suc (suc (suc (suc r)))))))) h = absurd (omega arith)

zeros_at : (k b : ℕ) → ◌≡◌ {A = ℕ} (get_or (replicate k 0) b 0) 0
zeros_at zero b = refl
zeros_at (suc k) zero = refl
zeros_at (suc k) (suc b) = zeros_at k b

other_bytes : (s v b : ℕ) → b ≢ 0 → get_or (first_byte s v) b 0 ≡ 0
other_bytes s v zero d = absurd (d refl)
other_bytes s v (suc b) d = zeros_at (bytes_of_row s - 1) b

module _ {F : Type 0} {o : Operations F} {l : Level F} (L : FieldLaws o) (V : LevelLaws o l) (s : ℕ) (three : 3 ≤ s) (fits : s ≤ width l) where
  open o use {zero as 𝟘}

  -- the Lagrange polynomial of point j of S at transmitted point i
  abbrev pub column : ℕ → ℕ → F
  column j i = lagrange o (2 ^ s) (point o l) j (point o l (2 ^ s + i))

  extension_by_bytes : (row : List ℕ) (i : ℕ) → extension o l s row i ≡ sum_below o (bytes_of_row s) (λ b. bit_sum o 8 (λ j. column j (bit_xor i (8 * b))) (get_or row b 0))
  extension_by_bytes row i =
      bits_by_bytes L (points_spanned L V) s fits (bytes_of_row s) (row_bit row) i (whole_bytes s three)
      ∙ sum_same L (bytes_of_row s) _ _ (λ b h. sum_same L 8 _ _ (λ j k. ap (λ t. cond t (column j (bit_xor i (8 * b))) 𝟘) (bit_of_byte row b j k)))

  -- an entry of the table is a sum over the bits of its byte
  pub entry_bits : (v i : ℕ) → entry o l s v i ≡ bit_sum o 8 (λ j. column j i) v
  entry_bits v i =
      extension_by_bytes (first_byte s v) i
      ∙ sum_only L (bytes_of_row s) 0 f (let e = bytes_of s three in omega (arith, pow_pos (s - 3))) (λ b h d. ap (bit_sum o 8 (λ j. column j (bit_xor i (8 * b)))) (other_bytes s v b d) ∙ bit_sum_zero L 8 (λ j. column j (bit_xor i (8 * b))))
      ∙ ap (λ x. bit_sum o 8 (λ j. column j x) v) (xor_zero_r i)
    where
      f : ℕ → F
      f b = bit_sum o 8 (λ j. column j (bit_xor i (8 * b))) (get_or (first_byte s v) b 0)

  low_byte : (f : ℕ → F) (x : ℕ) → bit_sum o 8 f (x % 256) ≡ bit_sum o 8 f x
  low_byte f x = sum_same L 8 _ _ (λ r h. ap (λ w. cond (eqb w 1) (f r) 𝟘) (low_bit x r h))

  -- from the built table, the sum over bytes is the value of the row's polynomial
  pub entries_extend : (e : ℕ) (table : List F) (row : List ℕ) (i : ℕ) → s < e → Built o l s e table → length row ≡ bytes_of_row s → i < transmitted s e → entries_sum o (transmitted s e) table row i ≡ extension o l s row i
  entries_extend e table row i h B n k =
      ap (λ w. sum_below o w f) n ∙ sum_same L (bytes_of_row s) f _ each ∙ sym (extension_by_bytes row i)
    where
      f : ℕ → F
      f b = get_or table (get_or row b 0 % 256 * transmitted s e + bit_xor i (8 * b)) 𝟘

      each : (b : ℕ) → b < bytes_of_row s → f b ≡ bit_sum o 8 (λ j. column j (bit_xor i (8 * b))) (get_or row b 0)
      each b m =
          B.entries (get_or row b 0 % 256) (bit_xor i (8 * b)) (omega arith) (shifted_within s e i b three h k m)
          ∙ entry_bits (get_or row b 0 % 256) (bit_xor i (8 * b)) ∙ low_byte (λ j. column j (bit_xor i (8 * b))) (get_or row b 0)
