-- Division in a field.
use Rattle.std.specs.Option.{unwrap_or}
use Rattle.fields.specs.Field.{Operations}

-- x / y, and zero where y is zero
abbrev pub quotient : {F : Type 0} → Operations F → F → F → F
quotient o x y = o.product x (unwrap_or (o.inverse y) o.zero)
