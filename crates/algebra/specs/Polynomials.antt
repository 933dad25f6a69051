-- Polynomials in one variable: a list of coefficients, the constant one first.
use Rattle.std.specs.Prelude.{◌≡◌, ℕ, ◌≤◌, List, [], ◌∷◌, length}
use Rattle.fields.specs.Field.{Operations}

-- the value at x: c₀ + x · (c₁ + x · (c₂ + ..))
abbrev pub value_at : {F : Type 0} → Operations F → List F → F → F
value_at o [] x = o.zero
value_at o (c ∷ cs) x = o.sum c (o.product x (value_at o cs x))

-- f is a polynomial of degree below n: one of at most n coefficients
pub record Below {F : Type 0} (o : Operations F) (n : ℕ) (f : F → F) : Type 0 where
  pub coefficients : List F
  pub short : length coefficients ≤ n
  pub is_value : (x : F) → f x ≡ value_at o coefficients x
