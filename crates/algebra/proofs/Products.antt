-- Products over the numbers below n: equal, one, zero, split, without one factor, and in another order.
use Rattle.std.proofs.Common.{◌≡◌, ℕ, zero, suc, ◌+◌, ◌^◌, ◌<◌, cond, eqb, ◌≢◌, sym, ap, ◌∙◌, inl, inr, add-one, arith}
use native.Mathlib.Nat.{two-pow-succ}
use lib.Bits.{bit_xor, xor_lt}
use Rattle.fields.specs.Field.{Operations, FieldLaws}
use Rattle.fields.specs.Rings.{zero_product}
use Rattle.fields.specs.Fields.{same_or_not, zero_factor}
use Rattle.algebra.specs.Sums.{product_below}
use Rattle.algebra.proofs.Divisions.{product_nonzero}
use Rattle.algebra.proofs.Folds.{products, fold_same, fold_units, fold_skip, fold_join, fold_split, fold_from_first, fold_reindex}
use Rattle.algebra.proofs.Xors.{xor_back}

-- one more, as a loop multiplies it in
pub product_more : {F : Type 0} (o : Operations F) (n : ℕ) (f : ℕ → F) → product_below o (n + 1) f ≡ o.product (product_below o n f) (f n)
product_more o n f = rw (add-one n)

module _ {F : Type 0} {o : Operations F} (L : FieldLaws o) where
  open o use {zero as 𝟘, one as 𝟙, product as ◌⊗◌}

  infixl 40 ◌⊗◌
  pub product_same : (n : ℕ) (f g : ℕ → F) → ((i : ℕ) → i < n → f i ≡ g i) → product_below o n f ≡ product_below o n g
  product_same = fold_same (products L)

  pub product_ones : (n : ℕ) (f : ℕ → F) → ((i : ℕ) → i < n → f i ≡ 𝟙) → product_below o n f ≡ 𝟙
  product_ones = fold_units (products L)

  -- one factor, and all the others
  pub product_skip : (n c : ℕ) (f : ℕ → F) → c < n → f c ⊗ product_below o n (λ j. cond (eqb j c) 𝟙 (f j)) ≡ product_below o n f
  product_skip = fold_skip (products L)

  pub product_of_products : (n : ℕ) (f g : ℕ → F) → product_below o n (λ i. f i ⊗ g i) ≡ product_below o n f ⊗ product_below o n g
  product_of_products = fold_join (products L)

  -- the first m, and the next n
  pub product_split : (m n : ℕ) (f : ℕ → F) → product_below o (m + n) f ≡ product_below o m f ⊗ product_below o n (λ i. f (m + i))
  product_split = fold_split (products L)

  pub product_halves : (k : ℕ) (f : ℕ → F) → product_below o (2 ^ suc k) f ≡ product_below o (2 ^ k) f ⊗ product_below o (2 ^ k) (λ j. f (2 ^ k + j))
  product_halves k f = ap (λ n. product_below o n f) (two-pow-succ k) ∙ product_split (2 ^ k) (2 ^ k) f

  pub product_from_first : (n : ℕ) (f : ℕ → F) → product_below o (suc n) f ≡ f 0 ⊗ product_below o n (λ i. f (suc i))
  product_from_first = fold_from_first (products L)

  -- an exclusive or with c puts the numbers below 2 ^ k in another order
  pub product_xor : (k c : ℕ) (f : ℕ → F) → c < 2 ^ k → product_below o (2 ^ k) (λ j. f (bit_xor j c)) ≡ product_below o (2 ^ k) f
  product_xor k c f l = fold_reindex (products L) (2 ^ k) (λ j. bit_xor j c) (λ j. bit_xor j c) f (λ i h. (xor_lt k i c h l, xor_back i c)) (λ i h. (xor_lt k i c h l, xor_back i c))

  pub product_with_zero : (n c : ℕ) (f : ℕ → F) → c < n → f c ≡ 𝟘 → product_below o n f ≡ 𝟘
  product_with_zero n c f l h = sym (product_skip n c f l) ∙ ap (λ w. w ⊗ product_below o n (λ j. cond (eqb j c) 𝟙 (f j))) h ∙ zero_product L.ring _

  pub product_without_zero : (n : ℕ) (f : ℕ → F) → ((i : ℕ) → i < n → f i ≢ 𝟘) → product_below o n f ≢ 𝟘
  product_without_zero zero f h = L.one_not_zero
  product_without_zero (suc n) f h = product_nonzero L _ _ (product_without_zero n f (λ i l. h i (omega arith))) (h n (omega arith))

  -- a product is zero only if a factor is
  pub zero_among : (n : ℕ) (f : ℕ → F) → product_below o n f ≡ 𝟘 → (i : ℕ) × (i < n) × (f i ≡ 𝟘)
  zero_among zero f h = absurd (L.one_not_zero h)
  zero_among (suc n) f h = elim (same_or_not L (product_below o n f) 𝟘) [
    | inl e ↦ let r = zero_among n f e in let l : r.0 < n = r.1 in (r.0, omega arith, r.2)
    | inr d ↦ (n, omega arith, zero_factor L _ _ d h)
  ]
