-- Polynomials in several operands: a list of monomials, each a coefficient with the indices of its factors, an index as
-- often as that operand is a factor. Their values, how many operands they have, and how many factors a monomial has.
use Rattle.std.specs.Prelude.{ℕ, suc, max, List, [], ◌∷◌, length, slice_index_or}
use Rattle.fields.specs.Field.{Operations}

pub record Monomial (F : Type 0) : Type 0 where
  pub coefficient : F
  pub factors : List ℕ

abbrev pub Polynomial : Type 0 → Type 0
Polynomial F = List (Monomial F)

-- the factors of each monomial
abbrev pub Monomials : Type 0
Monomials = List (List ℕ)

module _ {E : Type 0} (o : Operations E) where
  -- the operands that a list of values gives: a missing one is zero
  abbrev pub operands : List E → ℕ → E
  operands xs i = slice_index_or xs i o.zero

  -- the product of the operands with these indices
  abbrev pub operand_product : List ℕ → (ℕ → E) → E
  operand_product [] at = o.one
  operand_product (i ∷ is) at = o.product (at i) (operand_product is at)

  -- the value in E of a polynomial over F, its coefficients taken into E by e, where operand i is at i
  abbrev pub value_through : {F : Type 0} → (F → E) → Polynomial F → (ℕ → E) → E
  value_through e [] at = o.zero
  value_through e (m ∷ p) at = o.sum (o.product (e m.coefficient) (operand_product m.factors at)) (value_through e p at)

  -- the value of a polynomial over E
  abbrev pub value : Polynomial E → (ℕ → E) → E
  value = value_through (λ c. c)

  -- the polynomial whose monomials have these factors, and the coefficient one
  abbrev pub with_ones : Monomials → Polynomial E
  with_ones [] = []
  with_ones (is ∷ ms) = record { coefficient = o.one; factors = is } ∷ with_ones ms

-- the factors of each monomial
abbrev pub factor_lists : {F : Type 0} → Polynomial F → List (List ℕ)
factor_lists [] = []
factor_lists (m ∷ p) = m.factors ∷ factor_lists p

-- the largest number of factors of a monomial
abbrev pub most_factors : List (List ℕ) → ℕ
most_factors [] = 0
most_factors (is ∷ ms) = max (length is) (most_factors ms)

-- one more than the largest index, 0 if there is none
abbrev pub past_largest : List ℕ → ℕ
past_largest [] = 0
past_largest (i ∷ is) = max (suc i) (past_largest is)

-- the number of operands: they are operand 0 up to the last one that is a factor of a monomial
abbrev pub operand_count : List (List ℕ) → ℕ
operand_count [] = 0
operand_count (is ∷ ms) = max (past_largest is) (operand_count ms)
