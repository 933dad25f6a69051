-- The extension table's rule: place j of byte b is place j of byte 0, at the point whose number is shifted by 8 b.
use Rattle.std.proofs.Common.{◌≡◌, ℕ, ◌+◌, ◌*◌, ◌^◌, ◌<◌, ◌≤◌, Bool, cond, sym, ap, ◌∙◌, arith}
use lib.Bits.{bit_xor}
use Rattle.fields.specs.Field.{Operations, FieldLaws}
use Rattle.algebra.specs.Sums.{sum_below}
use Rattle.algebra.specs.Interpolation.{lagrange, interpolation}
use Rattle.algebra.proofs.Sums.{sum_same, sum_blocks}
use Rattle.algebra.proofs.Interpolations.{bit_product}
use Rattle.algebra.proofs.Xors.{xor_byte}
use Rattle.algebra.proofs.Spans.{Spanned}
use Rattle.algebra.proofs.Subspaces.{lagrange_after}

module _ {F : Type 0} {o : Operations F} (L : FieldLaws o) {m : ℕ} {t : ℕ → F} (T : Spanned o m t) (k : ℕ) (fits : k ≤ m) where
  open o use {zero as 𝟘, one as 𝟙, product as ◌⊗◌}

  infixl 40 ◌⊗◌
  pub lagrange_of_byte : (b j i : ℕ) → 8 * b + 8 ≤ 2 ^ k → j < 8 → lagrange o (2 ^ k) t (8 * b + j) (t (2 ^ k + i)) ≡ lagrange o (2 ^ k) t j (t (2 ^ k + bit_xor i (8 * b)))
  lagrange_of_byte b j i l h =
      ap (λ c. lagrange o (2 ^ k) t c (t (2 ^ k + i))) (sym (xor_byte b j h)) ∙ lagrange_after L T k fits j (8 * b) i (omega arith) (omega arith)

  -- an interpolation at a point after the first 2 ^ k, over n bytes
  pub interpolation_by_bytes : (n : ℕ) (y : ℕ → F) (i : ℕ) → 2 ^ k ≡ n * 8 → interpolation o (2 ^ k) t y (t (2 ^ k + i)) ≡ sum_below o n (λ b. sum_below o 8 (λ j. y (8 * b + j) ⊗ lagrange o (2 ^ k) t j (t (2 ^ k + bit_xor i (8 * b)))))
  interpolation_by_bytes n y i size = ap (λ w. sum_below o w f) size ∙ sum_blocks L n 8 f ∙ sum_same L n _ _ (λ b l. sum_same L 8 _ _ (λ j h. each b j l h))
    where
      f : ℕ → F
      f c = y c ⊗ lagrange o (2 ^ k) t c (t (2 ^ k + i))

      each : (b j : ℕ) → b < n → j < 8 → f (b * 8 + j) ≡ y (8 * b + j) ⊗ lagrange o (2 ^ k) t j (t (2 ^ k + bit_xor i (8 * b)))
      each b j l h = let e : b * 8 + j ≡ 8 * b + j = omega arith in ap f e ∙ ap (λ w. y (8 * b + j) ⊗ w) (lagrange_of_byte b j i (omega arith) h)

  -- of bits, by the table of the first byte alone
  pub bits_by_bytes : (n : ℕ) (set : ℕ → Bool) (i : ℕ) → 2 ^ k ≡ n * 8 → interpolation o (2 ^ k) t (λ c. cond (set c) 𝟙 𝟘) (t (2 ^ k + i)) ≡ sum_below o n (λ b. sum_below o 8 (λ j. cond (set (8 * b + j)) (lagrange o (2 ^ k) t j (t (2 ^ k + bit_xor i (8 * b)))) 𝟘))
  bits_by_bytes n set i size = interpolation_by_bytes n (λ c. cond (set c) 𝟙 𝟘) i size ∙ sum_same L n _ _ (λ b l. sum_same L 8 _ _ (λ j h. bit_product L (set (8 * b + j)) (lagrange o (2 ^ k) t j (t (2 ^ k + bit_xor i (8 * b))))))
