-- Lists that hold each element as often, in whatever order.
use Rattle.std.specs.Prelude.{◌≡◌, ℕ, ◌+◌, Bool, cond, List, [], ◌∷◌, Decides}

module _ {X : Type 0} (same : X → X → Bool) where
  -- same is true exactly for the same element
  abbrev pub TellsSame : Type 0
  TellsSame = (x y : X) → Decides (same x y) (x ≡ y)

  -- how often x stands in a list
  abbrev pub occurrences : X → List X → ℕ
  occurrences x [] = 0
  occurrences x (y ∷ ys) = cond (same x y) 1 0 + occurrences x ys

  -- each element stands in both as often
  abbrev pub AsOften : List X → List X → Type 0
  AsOften xs ys = (x : X) → occurrences x xs ≡ occurrences x ys
