-- The laws of the field of two elements and of its level, by cases.
use Rattle.std.specs.Prelude.{◌≡◌, ℕ, zero, suc, ◌<◌, Bool, true, false, is_some, Some, None, ◌≢◌, bit_xor, nat_lt, refl}
use Rattle.std.proofs.Common.{sym, ap, ◌∙◌, arith}
use Rattle.std.proofs.Math.Bool.{beq}
use Rattle.std.proofs.lemmas.Bool.{le-ltb, false≢true}
use Rattle.fields.specs.declared.bit.Bit.{Bit}
use Rattle.fields.specs.Field.{FieldLaws}
use Rattle.fields.specs.Tower.{LevelLaws, Solves, cantor, solution, phi}
use Rattle.fields.specs.Bits.{bit, bit_ops, bit_level}

at_both : (P : Bit → Type 0) → P (bit true) → P (bit false) → (x : Bit) → P x
at_both P p q x = elim x.on as (λ b. P (bit b)) [ true ↦ p | false ↦ q ]

pub bit_field : FieldLaws bit_ops
bit_field = record {
  ring = record {
    sum_assoc = λ x y z. go3 x.on y.on z.on;
    sum_comm = λ x y. go2 x.on y.on;
    sum_zero = at_both _ refl refl;
    sum_self = at_both _ refl refl;
    product_assoc = λ x y z. at_both (λ a. bit_ops.product (bit_ops.product a y) z ≡ bit_ops.product a (bit_ops.product y z)) refl refl x;
    product_comm = λ x y. and2 x.on y.on;
    product_one = at_both _ refl refl;
    product_sum = λ x y z. at_both (λ a. bit_ops.product a (bit_ops.sum y z) ≡ bit_ops.sum (bit_ops.product a y) (bit_ops.product a z)) refl refl x;
  };
  one_not_zero = λ e. false≢true (sym (ap (λ x. x.on) e));
  inverse_zero = refl;
  inverse_some = at_both (λ x. (x ≢ bit false) → (y : Bit) × (bit_ops.inverse x ≡ Some y) × (bit_ops.product x y ≡ bit true)) (λ h. (bit true, refl, refl)) (λ h. absurd (h refl));
  equals_same = at_both _ refl refl;
  equals_true = λ x y. equal2 x.on y.on;
}
  where
    go2 : (a b : Bool) → bit_ops.sum (bit a) (bit b) ≡ bit_ops.sum (bit b) (bit a)
    go2 true true = refl
    go2 true false = refl
    go2 false true = refl
    go2 false false = refl

    go3 : (a b c : Bool) → bit_ops.sum (bit_ops.sum (bit a) (bit b)) (bit c) ≡ bit_ops.sum (bit a) (bit_ops.sum (bit b) (bit c))
    go3 true true true = refl
    go3 true true false = refl
    go3 true false c = refl
    go3 false b c = refl

    and2 : (a b : Bool) → bit_ops.product (bit a) (bit b) ≡ bit_ops.product (bit b) (bit a)
    and2 true true = refl
    and2 true false = refl
    and2 false true = refl
    and2 false false = refl

    equal2 : (a b : Bool) → bit_ops.equals (bit a) (bit b) ≡ true → bit a ≡ bit b
    equal2 true true e = refl
    equal2 true false e = absurd (false≢true e)
    equal2 false true e = absurd (false≢true e)
    equal2 false false e = refl

-- what the derived equality is
pub bit_equality : (x y : Bit) → beq x.on y.on ≡ bit_ops.equals x y
bit_equality x y = same x.on y.on
  where
    same : (a b : Bool) → beq a b ≡ bit_ops.equals (bit a) (bit b)
    same true true = refl
    same true false = refl
    same false true = refl
    same false false = refl

pub bit_tower : LevelLaws bit_ops bit_level
bit_tower = record {
  form = record {
    below = at_both (λ x. bit_level.number x < 2) (omega arith) (omega arith);
    injective = λ x y. same2 x.on y.on;
    onto = onto;
    of_sum = λ x y. xor2 x.on y.on;
    of_zero = refl;
    of_one = refl;
  };
  solving = record {
    solves = at_both (λ t. Solves bit_ops bit_level t (bit_level.solve t)) (λ y e. no_root y.on e) (refl, refl);
    halves = at_both _ refl refl;
  };
  basis = one_long;
}
  where
    same2 : (a b : Bool) → bit_level.number (bit a) ≡ bit_level.number (bit b) → bit a ≡ bit b
    same2 true true e = refl
    same2 true false e = absurd (omega arith)
    same2 false true e = absurd (omega arith)
    same2 false false e = refl

    onto : (n : ℕ) → n < 2 → (x : Bit) × (bit_level.number x ≡ n)
    onto zero h = (bit false, refl)
    onto (suc zero) h = (bit true, refl)
    onto (suc (suc n)) h = absurd (omega arith)

    xor2 : (a b : Bool) → bit_level.number (bit_ops.sum (bit a) (bit b)) ≡ bit_xor (bit_level.number (bit a)) (bit_level.number (bit b))
    xor2 true true = refl
    xor2 true false = refl
    xor2 false b = refl

    no_root : (a : Bool) → phi bit_ops (bit a) ≢ bit true
    no_root true e = false≢true (ap (λ x. x.on) e)
    no_root false e = false≢true (ap (λ x. x.on) e)

    none_on : (j : ℕ) → cantor bit_ops bit_level (suc j) ≡ None
    none_on zero = refl
    none_on (suc j) = ap (solution bit_level) (none_on j)

    one_long : (j : ℕ) → is_some (cantor bit_ops bit_level j) ≡ nat_lt j 1
    one_long zero = refl
    one_long (suc j) = ap is_some (none_on j) ∙ sym (le-ltb (suc j) 1 (omega arith))
