-- A gate: what its polynomial's value is, how many operands and factors it has.
use Rattle.std.specs.Prelude.{◌≡◌, ℕ, suc, ◌<◌, ◌≤◌, List, [], ◌∷◌, map, drop, refl}
use Rattle.std.proofs.Common.{sym, ap, ap₂, ◌∙◌, arith}
use Rattle.std.proofs.lemmas.List.{length-map}
use Rattle.fields.specs.Field.{Operations, FieldLaws}
use Rattle.fields.specs.Rings.{product_zero}
use Rattle.algebra.proofs.Identities.{ring}
use Rattle.skip_composition.specs.Polynomials.{Monomial, Polynomial, operands, operand_product, value_through, factor_lists, past_largest, operand_count, most_factors}
use Rattle.skip_composition.specs.Declarations.{Declared, Exact, Declares, no_bound}
use Rattle.skip_composition.specs.Gates.{gated_factors, gated, gated_number, gated_declared}

moved_largest : (is : List ℕ) → past_largest (gated_factors is) ≡ suc (past_largest is)
moved_largest [] = refl
moved_largest (i ∷ is) = let h = moved_largest is in omega arith

pub gated_operands : {F : Type 0} (m : Monomial F) (p : Polynomial F) → operand_count (factor_lists (gated (m ∷ p))) ≡ suc (operand_count (factor_lists (m ∷ p)))
gated_operands m [] = let h = moved_largest m.factors in omega arith
gated_operands m (k ∷ p) = let h = moved_largest m.factors in let i = gated_operands k p in omega arith

pub gated_most : {F : Type 0} (p : Polynomial F) → most_factors (factor_lists (gated p)) ≤ suc (most_factors (factor_lists p))
gated_most [] = omega arith
gated_most (m ∷ p) = let h = length-map m.factors suc in let i = gated_most p in omega arith

gated_exact : {F : Type 0} (n : ℕ) (p : Polynomial F) → Exact n p → Exact (suc n) (gated p)
gated_exact n [] h = tt
gated_exact n (m ∷ p) h = gated_operands m p ∙ ap suc h

-- what is declared of a polynomial is declared, one more, of the gate over it
pub gated_declares : {F : Type 0} (p : Polynomial F) (d : Declared) → Declares p d → Declares (gated p) (gated_declared d)
gated_declares p d D = record {
  sixteen_bits = (omega arith, omega arith);
  exact = λ l.
      let k : d.arity < no_bound = omega arith in
      let s : gated_number d.arity ≡ suc d.arity = omega arith in
      rw s (gated_exact d.arity p (D.exact k));
  bounds = λ l.
      let k : d.degree < no_bound = omega arith in
      let b = D.bounds k in
      let f = gated_most p in
      omega arith;
}

module _ {E : Type 0} {o : Operations E} (L : FieldLaws o) where
  open o use {zero as 𝟘, one as 𝟙, sum as ◌⊕◌, product as ◌⊗◌}

  infixl 30 ◌⊕◌
  infixl 40 ◌⊗◌
  moved_product : (is : List ℕ) (f g : ℕ → E) → ((i : ℕ) → g i ≡ f (suc i)) → operand_product o (map suc is) f ≡ operand_product o is g
  moved_product [] f g h = refl
  moved_product (i ∷ is) f g h = ap₂ ◌⊗◌ (sym (h i)) (moved_product is f g h)

  factored : (a c x y : E) → c ⊗ (a ⊗ x) ⊕ a ⊗ y ≡ a ⊗ (c ⊗ x ⊕ y)
  factored a c x y = simp (ring, L.ring)

  pub gated_value : {F : Type 0} (e : F → E) (p : Polynomial F) (f g : ℕ → E) → ((i : ℕ) → g i ≡ f (suc i)) → value_through o e (gated p) f ≡ f 0 ⊗ value_through o e p g
  gated_value e [] f g h = sym (product_zero L.ring _)
  gated_value e (m ∷ p) f g h =
      ap₂ (λ x y. e m.coefficient ⊗ (f 0 ⊗ x) ⊕ y) (moved_product m.factors f g h) (gated_value e p f g h) ∙ factored _ _ _ _

  dropped : (xs : List E) (i : ℕ) → operands o (drop 1 xs) i ≡ operands o xs (suc i)
  dropped [] i = refl
  dropped (x ∷ xs) i = refl

  -- the operands after the first
  pub operands_after : (xs ys : List E) → ys ≡ drop 1 xs → (i : ℕ) → operands o ys i ≡ operands o xs (suc i)
  operands_after xs ys h i = ap (λ zs. operands o zs i) h ∙ dropped xs i

  -- at a list of operands: the first one times the inner polynomial's value at the others
  pub gate_value : {F : Type 0} (e : F → E) (p : Polynomial F) (xs : List E) → value_through o e (gated p) (operands o xs) ≡ operands o xs 0 ⊗ value_through o e p (operands o (drop 1 xs))
  gate_value e p xs = gated_value e p _ _ (dropped xs)
