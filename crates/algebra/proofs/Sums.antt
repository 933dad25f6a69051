-- Sums over the numbers below n: equal, zero, additive, scaled, swapped, split, and in another order.
use Rattle.std.proofs.Common.{◌≡◌, ℕ, zero, suc, ◌+◌, ◌*◌, ◌^◌, ◌<◌, ◌≢◌, sym, ap, ◌∙◌, add-one}
use lib.Bits.{bit_xor, xor_lt}
use Rattle.fields.specs.Field.{Operations, FieldLaws}
use Rattle.fields.specs.Rings.{product_zero}
use Rattle.algebra.specs.Sums.{sum_below}
use Rattle.algebra.proofs.Folds.{sums, fold_same, fold_units, fold_only, fold_join, fold_swap, fold_split, fold_from_first, fold_blocks, fold_reindex}
use Rattle.algebra.proofs.Xors.{xor_back}

-- one more, as a loop adds it
pub sum_more : {F : Type 0} (o : Operations F) (n : ℕ) (f : ℕ → F) → sum_below o (n + 1) f ≡ o.sum (sum_below o n f) (f n)
sum_more o n f = rw (add-one n)

module _ {F : Type 0} {o : Operations F} (L : FieldLaws o) where
  open o use {zero as 𝟘, sum as ◌⊕◌, product as ◌⊗◌}

  infixl 30 ◌⊕◌
  infixl 40 ◌⊗◌
  pub sum_same : (n : ℕ) (f g : ℕ → F) → ((i : ℕ) → i < n → f i ≡ g i) → sum_below o n f ≡ sum_below o n g
  sum_same = fold_same (sums L)

  pub sum_none : (n : ℕ) (f : ℕ → F) → ((i : ℕ) → i < n → f i ≡ 𝟘) → sum_below o n f ≡ 𝟘
  sum_none = fold_units (sums L)

  -- all but one are zero
  pub sum_only : (n c : ℕ) (f : ℕ → F) → c < n → ((i : ℕ) → i < n → i ≢ c → f i ≡ 𝟘) → sum_below o n f ≡ f c
  sum_only = fold_only (sums L)

  pub sum_add : (n : ℕ) (f g : ℕ → F) → sum_below o n (λ i. f i ⊕ g i) ≡ sum_below o n f ⊕ sum_below o n g
  sum_add = fold_join (sums L)

  pub sum_scale : (n : ℕ) (c : F) (f : ℕ → F) → sum_below o n (λ i. c ⊗ f i) ≡ c ⊗ sum_below o n f
  sum_scale zero c f = sym (product_zero L.ring c)
  sum_scale (suc n) c f = ap (λ w. w ⊕ c ⊗ f n) (sum_scale n c f) ∙ sym (L.ring.product_sum _ _ _)

  pub sum_swap : (n m : ℕ) (f : ℕ → ℕ → F) → sum_below o n (λ i. sum_below o m (λ j. f i j)) ≡ sum_below o m (λ j. sum_below o n (λ i. f i j))
  sum_swap = fold_swap (sums L)

  -- the first m, and the next n
  pub sum_split : (m n : ℕ) (f : ℕ → F) → sum_below o (m + n) f ≡ sum_below o m f ⊕ sum_below o n (λ i. f (m + i))
  sum_split = fold_split (sums L)

  pub sum_from_first : (n : ℕ) (f : ℕ → F) → sum_below o (suc n) f ≡ f 0 ⊕ sum_below o n (λ i. f (suc i))
  sum_from_first = fold_from_first (sums L)

  -- n blocks of w
  pub sum_blocks : (n w : ℕ) (f : ℕ → F) → sum_below o (n * w) f ≡ sum_below o n (λ b. sum_below o w (λ j. f (b * w + j)))
  sum_blocks = fold_blocks (sums L)

  -- in another order: s is one-to-one on the numbers below n, and r takes back
  pub sum_reindex : (n : ℕ) (s r : ℕ → ℕ) (f : ℕ → F) → ((i : ℕ) → i < n → (s i < n) × (r (s i) ≡ i)) → ((j : ℕ) → j < n → (r j < n) × (s (r j) ≡ j)) → sum_below o n (λ i. f (s i)) ≡ sum_below o n f
  sum_reindex = fold_reindex (sums L)

  pub sum_xor : (k c : ℕ) (f : ℕ → F) → c < 2 ^ k → sum_below o (2 ^ k) (λ j. f (bit_xor j c)) ≡ sum_below o (2 ^ k) f
  sum_xor k c f l = sum_reindex (2 ^ k) (λ j. bit_xor j c) (λ j. bit_xor j c) f (λ i h. (xor_lt k i c h l, xor_back i c)) (λ i h. (xor_lt k i c h l, xor_back i c))
