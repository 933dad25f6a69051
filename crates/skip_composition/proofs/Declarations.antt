-- What follows from a declared arity and degree.
use Rattle.std.proofs.Common.{ℕ, suc, ◌-◌, ◌*◌, ◌<◌, ◌≤◌, [], ◌∷◌, arith}
use Rattle.std.proofs.lemmas.List.{get_or_append_left}
use Rattle.fields.specs.Field.{Operations, FieldLaws}
use Rattle.algebra.specs.Polynomials.{Below}
use Rattle.skip_composition.specs.Declarations.{Declared, Exact, Declares, no_bound}
use Rattle.skip_composition.specs.Polynomials.{Polynomial, value_through, factor_lists, operand_count}
use Rattle.skip_composition.specs.Theorems.{ReadsOperands}
use Rattle.skip_composition.proofs.Values.{value_within, value_degree, operands_missing}

exact_bounds : {F : Type 0} (n : ℕ) (p : Polynomial F) → Exact n p → operand_count (factor_lists p) ≤ n
exact_bounds n [] h = omega arith
exact_bounds n (m ∷ p) h = omega arith

pub reads_operands : {F E : Type 0} (o : Operations E) (e : F → E) (q : Polynomial F) (d : Declared) → Declares q d → ReadsOperands o e q d
reads_operands o e q d D = record {
  missing = λ xs n. value_within o e q _ _ (λ i l. operands_missing o xs n i);
  surplus = λ xs ys a b.
      let k = exact_bounds d.arity q (D.exact a) in
      value_within o e q _ _ (λ i l. get_or_append_left xs ys o.zero i (omega arith));
}

-- at operands that are polynomials of degree below n in one variable, the value is one of degree at most the declared
-- degree times n - 1
pub declared_degree : {F E : Type 0} {o : Operations E} (L : FieldLaws o) (e : F → E) (n : ℕ) (f : E → ℕ → E) →
    ((i : ℕ) → Below o n (λ x. f x i)) → (q : Polynomial F) (d : Declared) → Declares q d → d.degree < no_bound →
    Below o (suc (d.degree * (n - 1))) (λ x. value_through o e q (f x))
declared_degree L e n f h q d D l = value_degree L e n f h d.degree q (D.bounds l)
