-- Passes over an array of values with an array of operands.
use Rattle.std.specs.Prelude.{ℕ, zero, suc, List, [], ◌∷◌}

-- the answers place by place; a value with no operand stays
abbrev pub zipped : {F X : Type 0} → (F → X → F) → List F → List X → List F
zipped f [] ys = []
zipped f (x ∷ xs) [] = x ∷ xs
zipped f (x ∷ xs) (y ∷ ys) = f x y ∷ zipped f xs ys

-- so many passes, each over what the one before left
abbrev pub passes : {A : Type 0} → (A → A) → ℕ → A → A
passes f zero xs = xs
passes f (suc n) xs = f (passes f n xs)
