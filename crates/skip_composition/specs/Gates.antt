-- A gate over a polynomial: its product with a new first operand.
use Rattle.std.specs.Prelude.{ℕ, suc, ◌+◌, min, List, [], ◌∷◌, map}
use Rattle.skip_composition.specs.Polynomials.{Polynomial}
use Rattle.skip_composition.specs.Declarations.{Declared, no_bound}

-- a monomial's operands move up by one, and the new first operand is one more factor
abbrev pub gated_factors : List ℕ → List ℕ
gated_factors is = 0 ∷ map suc is

abbrev pub gated : {F : Type 0} → Polynomial F → Polynomial F
gated [] = []
gated (m ∷ p) = record { coefficient = m.coefficient; factors = gated_factors m.factors } ∷ gated p

-- one more, stopping at the number that declares no bound
abbrev pub gated_number : ℕ → ℕ
gated_number n = min (n + 1) no_bound

abbrev pub gated_declared : Declared → Declared
gated_declared d = record { arity = gated_number d.arity; degree = gated_number d.degree }
