-- The domain over a field. Its points stand in index order: those of the subspace S first, then the
-- transmitted ones. The vanishing polynomial of S is the product of x + s over the points s of S.
use Rattle.std.specs.Prelude.{◌≡◌, ℕ, ◌+◌, ◌-◌, ◌^◌, ◌<◌, List, map}
use Rattle.std.specs.List.{range_with_len}
use Rattle.fields.specs.Field.{Operations}
use Rattle.fields.specs.Tower.{Level}
use Rattle.algebra.specs.Interpolation.{Apart}
use Rattle.algebra.specs.Points.{point, vanishing}

-- F has n different elements
abbrev pub Room : Type 0 → ℕ → Type 0
Room F n = ∥ ((t : ℕ → F) × Apart n t) ∥₁

-- f 0 to f (n - 1), in this order
abbrev pub listed : {F : Type 0} → ℕ → (ℕ → F) → List F
listed n f = map f (range_with_len 0 n)

module _ {F : Type 0} (o : Operations F) (l : Level F) where
  -- the points of e dimensions
  abbrev pub points_of : ℕ → List F
  points_of e = listed (2 ^ e) (point o l)

  -- the vanishing polynomial of the points of s dimensions
  abbrev pub vanishing_of : ℕ → F → F
  vanishing_of s = vanishing o (2 ^ s) (point o l)

  -- its values at the transmitted points of an extension of e dimensions
  abbrev pub transmitted_vanishing : ℕ → ℕ → List F
  transmitted_vanishing s e = listed (2 ^ e - 2 ^ s) (λ i. vanishing_of s (point o l (2 ^ s + i)))

-- r is zero exactly if x is one of the points t 0 to t (n - 1)
pub record ZeroExactlyOn {F : Type 0} (o : Operations F) (n : ℕ) (t : ℕ → F) (x r : F) : Type 0 where
  pub there : (j : ℕ) → j < n → x ≡ t j → r ≡ o.zero
  pub only_there : r ≡ o.zero → (j : ℕ) × (j < n) × (x ≡ t j)
