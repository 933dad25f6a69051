-- Values of polynomials in several operands: which operands they depend on, their degree where each operand is a
-- polynomial in one variable, and their images in an extension.
use Rattle.std.proofs.Common.{◌≡◌, ℕ, zero, suc, ◌-◌, ◌*◌, ◌<◌, ◌≤◌, List, [], ◌∷◌, ◌++◌, map, length, replicate, get_or, sym, refl, ap, ◌∙◌, ap₂, mul-le-mul_right, arith}
use Rattle.std.proofs.Math.ListN.{get_or-map}
use Rattle.fields.specs.Field.{Operations, FieldLaws}
use Rattle.fields.specs.Extension.{Keeps}
use Rattle.algebra.specs.Polynomials.{Below}
use Rattle.algebra.proofs.Degrees.{degree_more, degree_zero, degree_constant, degree_add, degree_scale, degree_product}
use Rattle.algebra.proofs.Embeddings.{embed_zero}
use Rattle.skip_composition.specs.Theorems.{EvaluationsAgree}
use Rattle.skip_composition.specs.Polynomials.{Polynomial, Monomials, operands, operand_product, value_through, value, with_ones, factor_lists, most_factors, past_largest, operand_count}

module _ {E : Type 0} (o : Operations E) where
  product_within : (is : List ℕ) (f g : ℕ → E) → ((i : ℕ) → i < past_largest is → f i ≡ g i) → operand_product o is f ≡ operand_product o is g
  product_within [] f g h = refl
  product_within (i ∷ is) f g h = ap₂ o.product (h i (omega arith)) (product_within is f g (λ k l. h k (omega arith)))

  -- a value depends on the polynomial's operands alone
  pub value_within : {F : Type 0} (e : F → E) (p : Polynomial F) (f g : ℕ → E) → ((i : ℕ) → i < operand_count (factor_lists p) → f i ≡ g i) → value_through o e p f ≡ value_through o e p g
  value_within e [] f g h = refl
  value_within e (m ∷ p) f g h =
      ap₂ o.sum
      (ap (o.product (e m.coefficient)) (product_within m.factors f g (λ i l. h i (omega arith))))
      (value_within e p f g (λ i l. h i (omega arith)))

  pub operands_missing : (xs : List E) (n i : ℕ) → operands o (xs ++ replicate n o.zero) i ≡ operands o xs i
  operands_missing [] zero i = refl
  operands_missing [] (suc n) zero = refl
  operands_missing [] (suc n) (suc i) = operands_missing [] n i
  operands_missing (x ∷ xs) n zero = refl
  operands_missing (x ∷ xs) n (suc i) = operands_missing xs n i

-- the value of a polynomial whose monomials have at most d factors, at operands that are polynomials of degree below n in
-- one variable, is such a polynomial of degree at most d * (n - 1)
module _ {F E : Type 0} {o : Operations E} (L : FieldLaws o) (e : F → E) (n : ℕ) (f : E → ℕ → E) (h : (i : ℕ) → Below o n (λ x. f x i)) where
  product_degree : (is : List ℕ) → Below o (suc (length is * (n - 1))) (λ x. operand_product o is (f x))
  product_degree [] = degree_more L (omega arith) (degree_constant L 0 o.one)
  product_degree (i ∷ is) = degree_more L (omega arith) (degree_product L (degree_more L {m = suc (n - 1)} (omega arith) (h i)) (product_degree is))

  pub value_degree : (d : ℕ) (p : Polynomial F) → most_factors (factor_lists p) ≤ d → Below o (suc (d * (n - 1))) (λ x. value_through o e p (f x))
  value_degree d [] l = degree_zero L
  value_degree d (m ∷ p) l =
      let k : length m.factors ≤ d = omega arith in
      degree_add L
      (degree_scale L (e m.coefficient) (degree_more L (omega (arith, mul-le-mul_right (n - 1) k)) (product_degree m.factors)))
      (value_degree d p (omega arith))

module _ {F E : Type 0} {o : Operations F} {p : Operations E} {e : F → E} (L : FieldLaws o) (M : FieldLaws p) (H : Keeps o p e) where
  product_embeds : (is : List ℕ) (f : ℕ → F) (g : ℕ → E) → ((i : ℕ) → g i ≡ e (f i)) → operand_product p is g ≡ e (operand_product o is f)
  product_embeds [] f g h = sym H.one
  product_embeds (i ∷ is) f g h = ap₂ p.product (h i) (product_embeds is f g h) ∙ sym (H.product _ _)

  -- at the images of operands, a polynomial has its value's image
  pub value_embeds : (q : Polynomial F) (f : ℕ → F) (g : ℕ → E) → ((i : ℕ) → g i ≡ e (f i)) → value_through p e q g ≡ e (value o q f)
  value_embeds [] f g h = sym (embed_zero L M H)
  value_embeds (m ∷ q) f g h =
      ap₂ p.sum (ap (p.product (e m.coefficient)) (product_embeds m.factors f g h) ∙ sym (H.product _ _)) (value_embeds q f g h)
      ∙ sym (H.sum _ _)

  pub operands_embed : (xs : List F) (i : ℕ) → operands p (map e xs) i ≡ e (operands o xs i)
  operands_embed xs i = ap (get_or (map e xs) i) (sym (embed_zero L M H)) ∙ get_or-map e xs i o.zero

-- coefficients one stay one
pub ones_embed : {F E : Type 0} {o : Operations F} {p : Operations E} {e : F → E} → Keeps o p e → (ms : Monomials) (at : ℕ → E) → value_through p e (with_ones o ms) at ≡ value p (with_ones p ms) at
ones_embed H [] at = refl
ones_embed {p} H (is ∷ ms) at = ap₂ (λ u w. p.sum (p.product u (operand_product p is at)) w) H.one (ones_embed H ms at)

-- at the images of a list of operands, a polynomial has its value's image
pub agrees_embedded : {F E : Type 0} {o : Operations F} {p : Operations E} {e : F → E} → FieldLaws o → FieldLaws p → Keeps o p e → (q : Polynomial F) → EvaluationsAgree o p e q
agrees_embedded L M K q xs = value_embeds L M K q _ _ (operands_embed L M K xs)
