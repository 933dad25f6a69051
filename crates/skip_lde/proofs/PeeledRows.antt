-- The rows of the table by peeling: row v is the row without its lowest set bit plus the row of that bit.
use Rattle.std.proofs.Common.{◌≡◌, ℕ, ◌+◌, ◌-◌, ◌*◌, ◌/◌, ◌%◌, ◌^◌, ◌<◌, ◌≤◌, List, get_or, sym, ap, ◌∙◌, ap₂, inl, inr, arith, pow_pos, pow_mono}
use mir.Syntax.{w64}
use native.Mathlib.Nat.{div-eq_of_lt}
use Rattle.std.specs.Int.{trailing_zeros}
use Rattle.std.proofs.lemmas.Nat.{mul-add-lt}
use Rattle.std.proofs.lemmas.Nat.Bits.{bit_at-trailing_zeros}
use Rattle.std.proofs.lemmas.Bool.{cases_lt, eq-eqb}
use Rattle.fields.specs.Field.{Operations, FieldLaws}
use Rattle.algebra.specs.Sums.{bit_sum}
use Rattle.algebra.proofs.BitSums.{bit_sum_power, bit_sum_peel}

-- bit r of a byte v is set
abbrev pub SetBit : ℕ → ℕ → Type 0
SetBit v r = (r < 8) × (v / 2 ^ r % 2 ≡ 1) × (2 ^ r ≤ v)

set_within : (v r : ℕ) → v < 256 → v / 2 ^ r % 2 ≡ 1 → SetBit v r
set_within v r h e =
    let l : 2 ^ r ≤ v = elim (cases_lt v (2 ^ r)) [
      | inl d ↦ let q = div-eq_of_lt d in absurd (omega arith)
      | inr d ↦ d
    ] in
    let k : r < 8 = elim (cases_lt r 8) [
      | inl d ↦ d
      | inr d ↦ let p : 2 ^ 8 ≤ 2 ^ r = pow_mono d in absurd (omega arith)
    ] in
    (k, e, l)

pub lowest : (v : ℕ) → 0 < v → v < 256 → SetBit v (trailing_zeros w64 v)
lowest v h l = set_within v (trailing_zeros w64 v) l (bit_at-trailing_zeros w64 v h (omega arith)).1

-- old is the table at the start, xs before row v is written; bit r of v is set
module _ {F : Type 0} {o : Operations F} (L : FieldLaws o) (old xs : List F) (n v r : ℕ) (bit : SetBit v r)
    (done : (u i : ℕ) → u < v → i < n → get_or xs (u * n + i) o.zero ≡ bit_sum o 8 (λ j. get_or old (2 ^ j * n + i) o.zero) u)
    (rest : (p : ℕ) → v * n ≤ p → get_or xs p o.zero ≡ get_or old p o.zero) where
  -- a row of one bit stays
  pub one_bit : v ≡ 2 ^ r → (u i : ℕ) → u < v + 1 → i < n → get_or xs (u * n + i) o.zero ≡ bit_sum o 8 (λ j. get_or old (2 ^ j * n + i) o.zero) u
  one_bit e u i h k = elim (cases_lt u v) [
    | inl d ↦ done u i d k
    | inr d ↦
        let s : u ≡ v = omega arith in
        let f : ℕ → F = λ j. get_or old (2 ^ j * n + i) o.zero in
        rest (u * n + i) (omega (arith, ap (λ x. x * n) s)) ∙ ap (λ x. get_or old (x * n + i) o.zero) (s ∙ e)
        ∙ sym (ap (bit_sum o 8 f) (s ∙ e) ∙ bit_sum_power L 8 f r bit.0)
  ]

  -- ys after row v is written as the row without bit r plus the row of bit r
  module _ (ys : List F) (b : ℕ) (e : b ≡ 2 ^ r) (less : b < v)
      (sums : (i : ℕ) → i < n → get_or ys (v * n + i) o.zero ≡ o.sum (get_or xs ((v - b) * n + i) o.zero) (get_or xs (b * n + i) o.zero))
      (before : (p : ℕ) → p < v * n → get_or ys p o.zero ≡ get_or xs p o.zero) where
    here : (i : ℕ) → i < n → get_or ys (v * n + i) o.zero ≡ bit_sum o 8 (λ j. get_or old (2 ^ j * n + i) o.zero) v
    here i h =
        let f : ℕ → F = λ j. get_or old (2 ^ j * n + i) o.zero in
        let p = pow_pos r in
        sums i h ∙ ap₂ o.sum (done (v - b) i (omega arith) h ∙ ap (λ x. bit_sum o 8 f (v - x)) e) (done b i less h ∙ ap (bit_sum o 8 f) e ∙ bit_sum_power L 8 f r bit.0)
        ∙ sym (bit_sum_peel L 8 f v r bit.0 (eq-eqb _ _ bit.1))

    pub peeled : (u i : ℕ) → u < v + 1 → i < n → get_or ys (u * n + i) o.zero ≡ bit_sum o 8 (λ j. get_or old (2 ^ j * n + i) o.zero) u
    peeled u i h k = elim (cases_lt u v) [
      | inl d ↦ before (u * n + i) (omega (arith, mul-add-lt u n i v d k)) ∙ done u i d k
      | inr d ↦
          let s : u ≡ v = omega arith in
          ap (λ x. get_or ys (x * n + i) o.zero) s ∙ here i k ∙ ap (bit_sum o 8 (λ j. get_or old (2 ^ j * n + i) o.zero)) (sym s)
    ]
