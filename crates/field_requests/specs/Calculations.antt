-- What a level answers, by the operations of its field, its solutions and its Cantor basis.
use Rattle.std.specs.Prelude.{ℕ, true, false, List, Some, None, codes}
use Rattle.fields.specs.Field.{Operations}
use Rattle.fields.specs.Text.{hexadecimal}
use Rattle.fields.specs.Tower.{Level, cantor}
use Rattle.algebra.specs.Points.{point}
use Rattle.field_requests.specs.declared.calculation.Answer.{Answer}
use Rattle.field_requests.specs.declared.calculation.Answer.TheVariants.{Element, Truth}
use Rattle.field_requests.specs.declared.calculation.Question.{Question}
use Rattle.field_requests.specs.declared.calculation.Question.TheVariants.{Sum, Product, Equal, Inverse, Solve, Top, Basis, Point}

abbrev pub calculated : {F : Type 0} → Operations F → Level F → Question F → Answer F
calculated o l (Sum x y) = Element (Some (o.sum x y))
calculated o l (Product x y) = Element (Some (o.product x y))
calculated o l (Equal x y) = Truth (o.equals x y)
calculated o l (Inverse x) = Element (o.inverse x)
calculated o l (Solve x) = Element (l.solve x)
calculated o l Top = Element (Some l.top)
calculated o l (Basis j) = Element (cantor o l j)
calculated o l (Point j) = Element (Some (point o l j))

-- the same question about f of each element
abbrev pub mapped : {E F : Type 0} → (E → F) → Question E → Question F
mapped f (Sum x y) = Sum (f x) (f y)
mapped f (Product x y) = Product (f x) (f y)
mapped f (Equal x y) = Equal (f x) (f y)
mapped f (Inverse x) = Inverse (f x)
mapped f (Solve x) = Solve (f x)
mapped f Top = Top
mapped f (Basis j) = Basis j
mapped f (Point j) = Point j

-- an element in hexadecimal digits, or none; whether two elements are the same
abbrev pub answer_text : {F : Type 0} → Level F → Answer F → List ℕ
answer_text l (Element (Some x)) = hexadecimal l x
answer_text l (Element None) = codes "none"
answer_text l (Truth true) = codes "true"
answer_text l (Truth false) = codes "false"
