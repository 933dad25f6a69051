-- What the theorems on compositions say.
use Rattle.std.specs.Prelude.{◌≡◌, ℕ, ◌<◌, ◌≤◌, List, ◌++◌, map, length, replicate}
use Rattle.fields.specs.Field.{Operations}
use Rattle.skip_composition.specs.Polynomials.{Polynomial, operands, value_through, value}
use Rattle.skip_composition.specs.Declarations.{Declared, no_bound}

-- over an extension, embedded operands give the image of the value over the field
abbrev pub EvaluationsAgree : {F E : Type 0} → Operations F → Operations E → (F → E) → Polynomial F → Type 0
EvaluationsAgree {F} o p e q = (xs : List F) → value_through p e q (operands p (map e xs)) ≡ e (value o q (operands o xs))

-- zeros in the place of missing operands change nothing, nor do values past a declared arity
pub record ReadsOperands {F E : Type 0} (o : Operations E) (e : F → E) (q : Polynomial F) (d : Declared) : Type 0 where
  pub missing : (xs : List E) (n : ℕ) → value_through o e q (operands o (xs ++ replicate n o.zero)) ≡ value_through o e q (operands o xs)
  pub surplus : (xs ys : List E) → d.arity < no_bound → d.arity ≤ length xs → value_through o e q (operands o (xs ++ ys)) ≡ value_through o e q (operands o xs)
