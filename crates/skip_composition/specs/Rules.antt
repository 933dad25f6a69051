-- The rules as polynomials in their operands: those of codes 0 to 3, and the cubic constraint.
-- Every coefficient is one, so a rule is given by the factors of its monomials, each an operand by its index. Arity and
-- degree are read off the monomials.
use Rattle.std.specs.Prelude.{ℕ, suc, Bool, false, cond, ◌||◌, List, [], ◌∷◌, ◌++◌, map, Some, None, codes, Option, ◌==◌}
use Rattle.std.specs.Fmt.{decimal}
use Rattle.fields.specs.Field.{Operations}
use Rattle.skip_composition.specs.Gates.{gated_factors}
use Rattle.skip_composition.specs.Polynomials.{Polynomial, Monomials, with_ones, most_factors}
use Rattle.skip_composition.specs.declared.rule.Rule.{Rule}
use Rattle.skip_composition.specs.declared.rule.Rule.TheVariants.{Zero, Boolean, Conjunction, StopChain}

-- a*b + c
abbrev pub conjunction : Monomials
conjunction = (0 ∷ 1 ∷ []) ∷ (2 ∷ []) ∷ []

-- a*a*b + c
abbrev pub square_product : Monomials
square_product = (0 ∷ 0 ∷ 1 ∷ []) ∷ (2 ∷ []) ∷ []

-- a, a*a + a, a*b + c and g*(a*b + c)
abbrev pub monomials : Rule → Monomials
monomials Zero = (0 ∷ []) ∷ []
monomials Boolean = (0 ∷ 0 ∷ []) ∷ (0 ∷ []) ∷ []
monomials Conjunction = conjunction
monomials StopChain = map gated_factors conjunction

-- the polynomial of a rule over a field
abbrev pub polynomial_of : {F : Type 0} → Operations F → Rule → Polynomial F
polynomial_of o r = with_ones o (monomials r)

abbrev pub member : ℕ → List ℕ → Bool
member x [] = false
member x (y ∷ ys) = x == y || member x ys

-- how many different numbers a list holds
abbrev pub different : List ℕ → ℕ
different [] = 0
different (x ∷ xs) = cond (member x xs) (different xs) (suc (different xs))

-- all factors of all monomials
abbrev pub factors : Monomials → List ℕ
factors [] = []
factors (m ∷ ms) = m ++ factors ms

-- the number of operands that a rule reads
abbrev pub arity_of : Rule → ℕ
arity_of r = different (factors (monomials r))

-- the degree of a rule in its operands
abbrev pub degree_of : Rule → ℕ
degree_of r = most_factors (monomials r)

-- the rule of a code
abbrev pub coded : ℕ → Option Rule
coded n =
    cond (n == 0) (Some Zero)
    (cond (n == 1) (Some Boolean)
    (cond (n == 2) (Some Conjunction)
    (cond (n == 3) (Some StopChain) None)))

-- the rule as a planner writes it
abbrev pub text_of : Rule → List ℕ
text_of Zero = codes "a"
text_of Boolean = codes "a*a + a"
text_of Conjunction = codes "a*b + c"
text_of StopChain = codes "g*(a*b + c)"

-- what is said of a code that no rule has
abbrev pub unknown_text : ℕ → List ℕ
unknown_text n = codes "no rule has code " ++ decimal n
