-- A sum of monomials with the coefficient one: what it declares is so.
use Rattle.std.specs.Prelude.{◌≡◌, ℕ, [], ◌∷◌, refl}
use Rattle.std.proofs.Common.{ap, ◌∙◌, arith}
use Rattle.fields.specs.Field.{Operations}
use Rattle.skip_composition.specs.Polynomials.{Monomials, with_ones, factor_lists, operand_count}
use Rattle.skip_composition.specs.Declarations.{Exact, Declares, declared_by}

module _ {F : Type 0} (o : Operations F) where
  pub ones_factors : (ms : Monomials) → factor_lists (with_ones o ms) ≡ ms
  ones_factors [] = refl
  ones_factors (is ∷ ms) = ap (λ x. is ∷ x) (ones_factors ms)

  ones_exact : (n : ℕ) (ms : Monomials) → operand_count ms ≡ n → Exact n (with_ones o ms)
  ones_exact n [] h = tt
  ones_exact n (is ∷ ms) h = ap operand_count (ones_factors (is ∷ ms)) ∙ h

  pub declares_ones : (ms : Monomials) → Declares (with_ones o ms) (declared_by ms)
  declares_ones ms = record {
    sixteen_bits = (omega arith, omega arith);
    exact = λ l. ones_exact (declared_by ms).arity ms (omega arith);
    bounds = λ l. rw (ones_factors ms) (omega arith);
  }
