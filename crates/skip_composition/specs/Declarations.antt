-- What a composition declares of its polynomial: arity and degree, 16-bit numbers. 65,535 declares no bound.
use Rattle.std.specs.Prelude.{◌≡◌, ℕ, ◌<◌, ◌≤◌, min, [], ◌∷◌}
use Rattle.skip_composition.specs.Polynomials.{Polynomial, Monomials, factor_lists, most_factors, operand_count}

pub record Declared : Type 0 where
  pub arity : ℕ
  pub degree : ℕ

abbrev pub no_bound : ℕ
no_bound = 65535

-- n is exactly the number of operands: they are operands 0 to n - 1, of which the last one is a factor of some monomial.
-- A sum of no monomials is zero, which is a polynomial in any number of operands.
abbrev pub Exact : {F : Type 0} → ℕ → Polynomial F → Type 0
Exact n [] = Unit {0}
Exact n (m ∷ p) = operand_count (factor_lists (m ∷ p)) ≡ n

-- the declared arity is exact, and no monomial has more factors than the declared degree
pub record Declares {F : Type 0} (p : Polynomial F) (d : Declared) : Type 0 where
  pub sixteen_bits : (d.arity ≤ no_bound) × (d.degree ≤ no_bound)
  pub exact : d.arity < no_bound → Exact d.arity p
  pub bounds : d.degree < no_bound → most_factors (factor_lists p) ≤ d.degree

-- what a sum of monomials declares: the number of its operands and the most factors of a monomial, each stopping at the
-- number that declares no bound
abbrev pub declared_by : Monomials → Declared
declared_by ms = record { arity = min (operand_count ms) no_bound; degree = min (most_factors ms) no_bound }
