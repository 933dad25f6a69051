-- The field of two elements: a sum is an exclusive or, a product an and. Its top is 1.
use Rattle.std.specs.Prelude.{Bool, true, false, cond, not, Some, None}
use Rattle.fields.specs.declared.bit.Bit.{Bit}
use Rattle.fields.specs.Field.{Operations}
use Rattle.fields.specs.Tower.{Level}

abbrev pub bit : Bool → Bit
bit b = record { on = b }

abbrev pub bit_ops : Operations Bit
bit_ops = record {
  zero = bit false;
  one = bit true;
  sum = λ x y. bit (cond x.on (not y.on) y.on);
  product = λ x y. bit (cond x.on y.on false);
  inverse = λ x. cond x.on (Some x) None;
  equals = λ x y. cond x.on y.on (not y.on);
}

-- y² + y is 0 at both elements
abbrev pub bit_level : Level Bit
bit_level = record {
  log_bits = 0;
  number = λ x. cond x.on 1 0;
  top = bit true;
  solve = λ t. cond t.on None (Some (bit false));
}
