-- Sums and products over the numbers below n, sums over a list, and sums over the set bits of a number.
use Rattle.std.specs.Prelude.{ℕ, zero, suc, cond, List, [], ◌∷◌}
use Rattle.fields.specs.Field.{Operations}
use Rattle.fields.specs.Tower.{bit_set}

-- f 0 to f (n - 1), joined by an operation; the unit if there are none
abbrev pub fold_below : {F : Type 0} → (F → F → F) → F → ℕ → (ℕ → F) → F
fold_below op unit zero f = unit
fold_below op unit (suc n) f = op (fold_below op unit n f) (f n)

module _ {F : Type 0} (o : Operations F) where
  -- f 0 + .. + f (n - 1)
  abbrev pub sum_below : ℕ → (ℕ → F) → F
  sum_below = fold_below o.sum o.zero

  -- f 0 · .. · f (n - 1)
  abbrev pub product_below : ℕ → (ℕ → F) → F
  product_below = fold_below o.product o.one

  -- the sum of f x over the elements x of a list
  abbrev pub sum_over : {X : Type 0} → (X → F) → List X → F
  sum_over f [] = o.zero
  sum_over f (x ∷ xs) = o.sum (f x) (sum_over f xs)

  -- the sum of v r over the set bits r of j, those below n
  abbrev pub bit_sum : ℕ → (ℕ → F) → ℕ → F
  bit_sum n v j = sum_below n (λ r. cond (bit_set j r) (v r) o.zero)
