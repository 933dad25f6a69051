-- The inverses of a whole list: none if an element is zero.
use Rattle.std.specs.Prelude.{Bool, cond, List, map, Some, None, Option}
use Rattle.std.specs.List.{list_any}
use Rattle.std.specs.Option.{unwrap_or}
use Rattle.fields.specs.Field.{Operations}

module _ {F : Type 0} (o : Operations F) where
  abbrev pub has_zero : List F → Bool
  has_zero xs = list_any (λ x. o.equals x o.zero) xs

  -- the inverse of what is not zero
  abbrev pub inverted : F → F
  inverted x = unwrap_or (o.inverse x) x

  -- whether they were inverted
  abbrev pub batch_answer : List F → Option (Unit {0})
  batch_answer xs = cond (has_zero xs) None (Some tt)

  -- what is left of them
  abbrev pub batch_inverses : List F → List F
  batch_inverses xs = cond (has_zero xs) xs (map inverted xs)
