-- Sums over the set bits of a number: an exclusive or of numbers is a sum of sums.
use Rattle.std.proofs.Common.{◌≡◌, ℕ, zero, suc, ◌+◌, ◌-◌, ◌/◌, ◌%◌, ◌^◌, ◌<◌, ◌≤◌, Bool, true, false, cond, eqb, [], ◌∷◌, ◌++◌, filter, fold, ◌≢◌, sym, refl, ap, ◌∙◌, ap₂, lt_of_lt_of_le, add-one, arith, pow_mono}
use Rattle.std.specs.List.{range_with_len}
use Rattle.std.proofs.lemmas.List.{map-id}
use Rattle.std.proofs.lemmas.List.FromFn.{map-range_with_len_more, filter_of_map_range_with_len_more}
use Rattle.std.proofs.lemmas.List.Sums.{fold-append}
use native.Mathlib.Nat.{zero-div, div-eq_of_lt}
use lib.Bits.{bit_and, bit_xor, differ, and_mask}
use Rattle.std.proofs.lemmas.Bool.{eqb-true, eq-eqb, ne_eqb, cond-true, cond-false}
use Rattle.fields.specs.Field.{Operations, FieldLaws}
use Rattle.fields.specs.Rings.{zero_sum}
use Rattle.fields.specs.Tower.{bit_set}
use Rattle.algebra.specs.Sums.{bit_sum}
use Rattle.algebra.proofs.Sums.{sum_same, sum_none, sum_add, sum_split, sum_more, sum_from_first}
use Rattle.algebra.proofs.Xors.{bit_of_xor, bit_of_half, xor_back, xor_set_bit}

-- a number below 2 ^ r has no bit r
pub bit_clear : (j r : ℕ) → j < 2 ^ r → bit_set j r ≡ false
bit_clear j r l = ap (λ w. eqb (w % 2) 1) (div-eq_of_lt l)

module _ {F : Type 0} {o : Operations F} (L : FieldLaws o) where
  open o use {zero as 𝟘, sum as ◌⊕◌}

  infixl 30 ◌⊕◌
  bit_differ : (a b : ℕ) (x : F) → a < 2 → b < 2 → cond (eqb (differ a b) 1) x 𝟘 ≡ cond (eqb a 1) x 𝟘 ⊕ cond (eqb b 1) x 𝟘
  bit_differ zero zero x k l = sym (L.ring.sum_zero 𝟘)
  bit_differ zero (suc zero) x k l = sym (zero_sum L.ring x)
  bit_differ zero (suc (suc b)) x k l = absurd (omega arith)
  bit_differ (suc zero) zero x k l = sym (L.ring.sum_zero x)
  bit_differ (suc zero) (suc zero) x k l = sym (L.ring.sum_self x)
  bit_differ (suc zero) (suc (suc b)) x k l = absurd (omega arith)
  bit_differ (suc (suc a)) b x k l = absurd (omega arith)

  pub bit_sum_xor : (n : ℕ) (v : ℕ → F) (i j : ℕ) → bit_sum o n v (bit_xor i j) ≡ bit_sum o n v i ⊕ bit_sum o n v j
  bit_sum_xor n v i j = sum_same L n _ _ (λ r l. ap (λ w. cond (eqb w 1) (v r) 𝟘) (bit_of_xor i j r) ∙ bit_differ (i / 2 ^ r % 2) (j / 2 ^ r % 2) (v r) (omega arith) (omega arith)) ∙ sum_add L n _ _

  pub bit_sum_same : (n : ℕ) (v w : ℕ → F) (j : ℕ) → ((r : ℕ) → r < n → v r ≡ w r) → bit_sum o n v j ≡ bit_sum o n w j
  bit_sum_same n v w j h = sum_same L n _ _ (λ r l. ap (λ x. cond (bit_set j r) x 𝟘) (h r l))

  pub bit_sum_zero : (n : ℕ) (v : ℕ → F) → bit_sum o n v 0 ≡ 𝟘
  bit_sum_zero n v = sum_none L n _ (λ r l. ap (λ w. cond (eqb (w % 2) 1) (v r) 𝟘) (zero-div (2 ^ r)))

  -- bit 0, and the others
  pub bit_sum_from_first : (n : ℕ) (v : ℕ → F) (j : ℕ) → bit_sum o (suc n) v j ≡ cond (eqb (j % 2) 1) (v 0) 𝟘 ⊕ bit_sum o n (λ r. v (suc r)) (j / 2)
  bit_sum_from_first n v j =
      sum_from_first L n (λ r. cond (bit_set j r) (v r) 𝟘)
      ∙ ap₂ ◌⊕◌ (let e : j / 2 ^ 0 % 2 ≡ j % 2 = omega arith in ap (λ w. cond (eqb w 1) (v 0) 𝟘) e) (sum_same L n _ _ (λ r l. ap (λ w. cond (eqb w 1) (v (suc r)) 𝟘) (bit_of_half j r)))

  -- a fold over the set bits, as a chain of iterators tests and adds them
  one_bit : (b : Bool) (r : ℕ) (v : ℕ → F) (x : F) → fold (λ s i. s ⊕ v i) x (cond b (r ∷ []) []) ≡ x ⊕ cond b (v r) 𝟘
  one_bit true r v x = refl
  one_bit false r v x = sym (L.ring.sum_zero x)

  pub bit_sum_fold : (n : ℕ) (v : ℕ → F) (j : ℕ) (z : F) → z ≡ 𝟘 → fold (λ s r. s ⊕ v r) z (filter (λ r. eqb (bit_and (j / 2 ^ r) 1) 1) (range_with_len 0 n)) ≡ bit_sum o n v j
  bit_sum_fold zero v j z e = e
  bit_sum_fold (suc n) v j z e =
      let tested = λ (r : ℕ). eqb (bit_and (j / 2 ^ r) 1) 1 in
      let below = filter tested (range_with_len 0 n) in
      let last : filter tested (range_with_len 0 (n + 1)) ≡ below ++ cond (tested n) (n ∷ []) [] =
      simp map-id at (filter_of_map_range_with_len_more tested (λ r. r) 0 n n (omega arith)) in
      ap (λ m. fold (λ s r. s ⊕ v r) z (filter tested (range_with_len 0 m))) (sym (add-one n)) ∙ ap (fold (λ s r. s ⊕ v r) z) last
      ∙ fold-append (λ s r. s ⊕ v r) z below (cond (tested n) (n ∷ []) []) ∙ one_bit (tested n) n v _
      ∙ ap₂ (λ x w. x ⊕ cond (eqb w 1) (v n) 𝟘) (bit_sum_fold n v j z e) (and_mask (j / 2 ^ n) 1)

  -- where zero is added for a clear bit
  pub bit_sum_added : (n : ℕ) (v : ℕ → F) (j : ℕ) (z : F) → z ≡ 𝟘 → fold (λ s r. s ⊕ cond (bit_set j r) (v r) 𝟘) z (range_with_len 0 n) ≡ bit_sum o n v j
  bit_sum_added zero v j z e = e
  bit_sum_added (suc n) v j z e =
      let add = λ (s : F) (r : ℕ). s ⊕ cond (bit_set j r) (v r) 𝟘 in
      let last : range_with_len 0 (n + 1) ≡ range_with_len 0 n ++ n ∷ [] = simp map-id at (map-range_with_len_more (λ r. r) 0 n n (omega arith)) in
      ap (λ m. fold add z (range_with_len 0 m)) (sym (add-one n)) ∙ ap (fold add z) last ∙ fold-append add z (range_with_len 0 n) (n ∷ [])
      ∙ ap (λ s. s ⊕ cond (bit_set j n) (v n) 𝟘) (bit_sum_added n v j z e)

  -- one more place, as a loop over the bits adds it: after the test of a set bit, and of a clear one
  pub bit_sum_set : (r : ℕ) (v : ℕ → F) (j : ℕ) → bit_and (j / 2 ^ r) 1 ≡ 1 → bit_sum o (r + 1) v j ≡ bit_sum o r v j ⊕ v r
  bit_sum_set r v j h = sum_more o r _ ∙ ap (λ w. bit_sum o r v j ⊕ w) (cond-true _ _ _ (eq-eqb (j / 2 ^ r % 2) 1 (sym (and_mask (j / 2 ^ r) 1) ∙ h)))

  pub bit_sum_clear : (r : ℕ) (v : ℕ → F) (j : ℕ) → bit_and (j / 2 ^ r) 1 ≢ 1 → bit_sum o (r + 1) v j ≡ bit_sum o r v j
  bit_sum_clear r v j h = sum_more o r _ ∙ ap (λ w. bit_sum o r v j ⊕ w) (cond-false _ _ _ (ne_eqb (j / 2 ^ r % 2) 1 (λ e. h (and_mask (j / 2 ^ r) 1 ∙ e)))) ∙ L.ring.sum_zero _

  -- more places, where the bits are clear or the summands zero
  pub bit_sum_more : (n m : ℕ) (v : ℕ → F) (j : ℕ) → n ≤ m → ((r : ℕ) → n ≤ r → r < m → cond (bit_set j r) (v r) 𝟘 ≡ 𝟘) → bit_sum o n v j ≡ bit_sum o m v j
  bit_sum_more n m v j l h =
      let e : n + (m - n) ≡ m = omega arith in
      sym (ap (λ w. bit_sum o w v j) (sym e) ∙ sum_split L n (m - n) _ ∙ ap (λ w. bit_sum o n v j ⊕ w) (sum_none L (m - n) _ (λ i k. h (n + i) (omega arith) (omega arith))) ∙ L.ring.sum_zero _)

  pub bit_sum_short : (n m : ℕ) (v : ℕ → F) (j : ℕ) → n ≤ m → j < 2 ^ n → bit_sum o n v j ≡ bit_sum o m v j
  bit_sum_short n m v j l h = bit_sum_more n m v j l (λ r k i. ap (λ b. cond b (v r) 𝟘) (bit_clear j r (lt_of_lt_of_le h (pow_mono k))))

  -- a number with one bit
  pub bit_sum_power : (n : ℕ) (v : ℕ → F) (r : ℕ) → r < n → bit_sum o n v (2 ^ r) ≡ v r
  bit_sum_power zero v r l = absurd (omega arith)
  bit_sum_power (suc n) v zero l = bit_sum_from_first n v 1 ∙ ap (λ w. v 0 ⊕ w) (bit_sum_zero n (λ r. v (suc r))) ∙ L.ring.sum_zero (v 0)
  bit_sum_power (suc n) v (suc r) l =
      let e : 2 ^ suc r % 2 ≡ 0 = omega arith in
      let d : 2 ^ suc r / 2 ≡ 2 ^ r = omega arith in
      bit_sum_from_first n v (2 ^ suc r) ∙ ap₂ (λ x y. cond (eqb x 1) (v 0) 𝟘 ⊕ bit_sum o n (λ s. v (suc s)) y) e d ∙ zero_sum L.ring _ ∙ bit_sum_power n (λ s. v (suc s)) r (omega arith)

  -- one set bit, and the others
  pub bit_sum_peel : (n : ℕ) (v : ℕ → F) (j r : ℕ) → r < n → bit_set j r ≡ true → bit_sum o n v j ≡ bit_sum o n v (j - 2 ^ r) ⊕ v r
  bit_sum_peel n v j r l h =
      let taken : bit_xor j (2 ^ r) + 2 ^ r ≡ j = xor_set_bit j r (eqb-true (j / 2 ^ r % 2) 1 h) in
      let rest : bit_xor j (2 ^ r) ≡ j - 2 ^ r = omega arith in
      ap (bit_sum o n v) (sym (xor_back j (2 ^ r))) ∙ bit_sum_xor n v (bit_xor j (2 ^ r)) (2 ^ r) ∙ ap₂ (λ x y. bit_sum o n v x ⊕ y) rest (bit_sum_power n v r l)
