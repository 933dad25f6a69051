-- The laws of the byte field and of its level.
use Rattle.std.specs.Prelude.{◌≡◌, ℕ, zero, suc, ◌+◌, ◌-◌, ◌%◌, ◌<◌, ◌≤◌, Bool, true, false, not, ltb, ◌⊎◌, is_some, Some, None, Option, ◌==◌, ◌≢◌, bit_xor, nat_lt, slice_index, slice_index_or, refl}
use Rattle.std.proofs.Common.{sym, ap, ap₂, ◌∙◌, subst, inl, inr, mod-eq_of_lt, arith, lit<, lit≤}
use Rattle.std.proofs.Math.Bridge.{le_prop}
use Rattle.std.specs.Int.Bits.{xor_assoc, xor_self, xor_zero_r}
use Rattle.std.proofs.lemmas.Nat.{xor_comm, xor_lt}
use Rattle.std.proofs.lemmas.Bool.{lt-ltb, le-ltb, eq-eqb, eqb-true, cases_lt, and_parts}
use Rattle.std.proofs.lemmas.Option.{slice_get-get_or, slice_get_past}
use Rattle.std.specs.Option.{option_map}
use Rattle.std.specs.List.{slice_get}
use Rattle.fields.specs.declared.byte.Byte.{Byte}
use Rattle.fields.specs.Field.{FieldLaws}
use Rattle.fields.specs.Tower.{LevelLaws, Solves, phi, cantor, solution}
use Rattle.fields.specs.Bytes.{bilinear, passing, solves_byte, byte, byte_ops, byte_level, byte_basis, power}
use Rattle.fields.specs.Tests.{every_at, truly}
use Rattle.fields.specs.Passing.{passing_only, passing_none}
use Rattle.fields.specs.ByteProduct.{product_right, product_lt, product_comm, product_assoc, product_one}
use Rattle.fields.specs.ByteTables.{logs, logs_are, solutions, square_sum, square_sum_lt, solutions_solve, solutions_lt, solutions_only, basis_next, basis_lt}
use Rattle.fields.specs.Powers.{power_lt, inverse_by_log, inverse_only, zero_inverse}

pub byte_eq : (x y : Byte) → x.value ≡ y.value → x ≡ y
byte_eq x y e = go x.value y.value x.ok y.ok e
  where
    made : (n : ℕ) → n < 256 → Byte
    made n h = record { value = n; ok = h }

    go : (m n : ℕ) (h : m < 256) (k : n < 256) → m ≡ n → made m h ≡ made n k
    go m n h k e' = subst (λ j. (l : j < 256) → made m h ≡ made j l) e' (λ l. ap (made m) (le_prop h l)) k

pub byte_is : (x : Byte) (n : ℕ) → x.value ≡ n → x ≡ byte n
byte_is x n e = byte_eq x (byte n) (e ∙ sym (mod-eq_of_lt (subst (λ m. m < 256) e x.ok)))

pub some_byte : (x : Byte) (s : Option ℕ) → Some x.value ≡ s → Some x ≡ option_map byte s
some_byte x s e = ap Some (byte_is x x.value refl) ∙ ap (option_map byte) e

remade : (x : Byte) → byte x.value ≡ x
remade x = sym (byte_is x x.value refl)

pub sum_value : (x y : Byte) → (byte_ops.sum x y).value ≡ bit_xor x.value y.value
sum_value x y = mod-eq_of_lt (xor_lt 8 _ _ x.ok y.ok)

product_value : (x y : Byte) → (byte_ops.product x y).value ≡ bilinear x.value y.value
product_value x y = mod-eq_of_lt (product_lt x.value y.value)

pub byte_field : FieldLaws byte_ops
byte_field = record {
  ring = record {
    sum_assoc = λ x y z. ap byte (ap (λ w. bit_xor w z.value) (sum_value x y) ∙ xor_assoc x.value y.value z.value ∙ ap (bit_xor x.value) (sym (sum_value y z)));
    sum_comm = λ x y. ap byte (xor_comm x.value y.value);
    sum_zero = λ x. ap byte (xor_zero_r x.value) ∙ remade x;
    sum_self = λ x. ap byte (xor_self x.value);
    product_assoc = λ x y z. ap byte (ap (λ w. bilinear w z.value) (product_value x y) ∙ product_assoc x.value y.value z.value x.ok y.ok z.ok ∙ ap (bilinear x.value) (sym (product_value y z)));
    product_comm = λ x y. ap byte (product_comm x.value y.value x.ok y.ok);
    product_one = λ x. ap byte (product_one x.value x.ok) ∙ remade x;
    product_sum = λ x y z. ap byte (ap (bilinear x.value) (sum_value y z) ∙ product_right x.value y.value z.value ∙ ap₂ bit_xor (sym (product_value x y)) (sym (product_value x z)));
  };
  one_not_zero = λ e. let z : 1 ≡ 0 = ap (λ x. x.value) e in omega arith;
  inverse_zero = ap (option_map byte) zero_inverse;
  inverse_some = found;
  equals_same = λ x. eq-eqb x.value x.value refl;
  equals_true = λ x y e. byte_eq x y (eqb-true _ _ e);
}
  where
    found : (x : Byte) → (x ≢ byte 0) → (y : Byte) × (byte_ops.inverse x ≡ Some y) × (byte_ops.product x y ≡ byte 1)
    found x h =
        let apart : x.value ≡ 0 → ⊥ = λ e. h (byte_is x 0 e) in
        let y = power (255 - slice_index logs x.value) in
        let one = inverse_by_log x.value (slice_index logs x.value) (omega arith) (logs_are x.value x.ok) in (
          byte y,
          ap (option_map byte) (inverse_only x.value y x.ok (power_lt (255 - slice_index logs x.value)) one),
          ap byte (ap (bilinear x.value) (mod-eq_of_lt (power_lt (255 - slice_index logs x.value))) ∙ one),
        )

pub solution_is : (t : ℕ) → t < 128 → passing (solves_byte t) 256 ≡ Some (slice_index solutions t)
solution_is t h = passing_only (solves_byte t) (slice_index solutions t) 256 (solutions_lt t h) (solutions_solve t h) (λ z l e. solutions_only t z l e)

pub solution_none : (t : ℕ) → 128 ≤ t → passing (solves_byte t) 256 ≡ None
solution_none t h = passing_none (solves_byte t) 256 (λ z l e.
    let s : square_sum z ≡ t = eqb-true _ _ (and_parts (z % 2 == 0) (square_sum z == t) e).1 in
    let b = square_sum_lt z l in
    omega arith)

phi_value : (y : Byte) → (phi byte_ops y).value ≡ square_sum y.value
phi_value y = sum_value (byte_ops.product y y) y ∙ ap (λ w. bit_xor w y.value) (product_value y y)

byte_solves : (t : Byte) → Solves byte_ops byte_level t (byte_level.solve t)
byte_solves t = go (cases_lt t.value 128)
  where
    go : (t.value < 128) ⊎ (128 ≤ t.value) → Solves byte_ops byte_level t (option_map byte (passing (solves_byte t.value) 256))
    go (inl h) =
        let s = slice_index_or solutions t.value 0 in
        let small : s % 256 ≡ s = mod-eq_of_lt (solutions_lt t.value h) in
        let p = and_parts (s % 2 == 0) (square_sum s == t.value) (solutions_solve t.value h) in
        subst (λ r. Solves byte_ops byte_level t (option_map byte r)) (sym (solution_is t.value h)) (
          byte_eq _ _ (phi_value (byte s) ∙ ap square_sum small ∙ eqb-true _ _ p.1),
          ap (λ n. n % 2) small ∙ eqb-true _ _ p.0,
        )
    go (inr h) = subst (λ r. Solves byte_ops byte_level t (option_map byte r)) (sym (solution_none t.value h))
        (λ y e. let s : square_sum y.value ≡ t.value = sym (phi_value y) ∙ ap (λ x. x.value) e in let b = square_sum_lt y.value y.ok in omega arith)

pub solves_of : (t : Byte) (r : Option Byte) → r ≡ byte_level.solve t → Solves byte_ops byte_level t r
solves_of t r e = subst (Solves byte_ops byte_level t) (sym e) (byte_solves t)

solve_some : (t : Byte) → is_some (byte_level.solve t) ≡ nat_lt t.value 128
solve_some t = go (cases_lt t.value 128)
  where
    go : (t.value < 128) ⊎ (128 ≤ t.value) → is_some (option_map byte (passing (solves_byte t.value) 256)) ≡ nat_lt t.value 128
    go (inl h) = ap (λ r. is_some (option_map byte r)) (solution_is t.value h) ∙ sym (lt-ltb _ _ h)
    go (inr h) = ap (λ r. is_some (option_map byte r)) (solution_none t.value h) ∙ sym (le-ltb _ _ h)

-- adding top changes the bit that decides
abbrev changed : ℕ → Bool
changed t = elim (nat_lt (bit_xor t 128) 128) [ true ↦ not (nat_lt t 128) | false ↦ ltb t 128 ]

top_changes : (t : ℕ) → t < 256 → nat_lt (bit_xor t 128) 128 ≡ not (nat_lt t 128)
top_changes t h = go (nat_lt (bit_xor t 128) 128) (nat_lt t 128) (truly _ (every_at changed 256 tt t h))
  where
    go : (a b : Bool) → elim a [ true ↦ not b | false ↦ b ] ≡ true → a ≡ not b
    go true true e = sym e
    go true false e = refl
    go false true e = refl
    go false false e = e

cantor_is : (j : ℕ) → j < 8 → cantor byte_ops byte_level j ≡ Some (byte (slice_index byte_basis j))
cantor_is zero h = refl
cantor_is (suc j) h =
    let n = basis_next j (omega arith) in
    ap (solution byte_level) (cantor_is j (omega arith))
    ∙ ap (λ t. option_map byte (passing (solves_byte t) 256)) (mod-eq_of_lt (basis_lt j (omega arith)))
    ∙ ap (option_map byte) (solution_is (slice_index byte_basis j) n.0) ∙ ap (λ v. Some (byte v)) (sym n.1)

cantor_ends : (k : ℕ) → cantor byte_ops byte_level (8 + k) ≡ None
cantor_ends k = down k
  where
    down : (k : ℕ) → cantor byte_ops byte_level (8 + k) ≡ None
    down zero = ap (solution byte_level) (cantor_is 7 (lit< tt)) ∙ ap (option_map byte) (solution_none 174 (lit≤ tt))
    down (suc k) = let e : 8 + suc k ≡ suc (8 + k) = omega arith in ap (cantor byte_ops byte_level) e ∙ ap (solution byte_level) (down k)

cantor_none : (j : ℕ) → 8 ≤ j → cantor byte_ops byte_level j ≡ None
cantor_none j h = let e : 8 + (j - 8) ≡ j = omega arith in sym (ap (cantor byte_ops byte_level) e) ∙ cantor_ends (j - 8)

-- the basis is the table
pub byte_cantor : (j : ℕ) → cantor byte_ops byte_level j ≡ option_map byte (slice_get byte_basis j)
byte_cantor j = go (cases_lt j 8)
  where
    go : (j < 8) ⊎ (8 ≤ j) → cantor byte_ops byte_level j ≡ option_map byte (slice_get byte_basis j)
    go (inl h) = cantor_is j h ∙ ap (option_map byte) (sym (slice_get-get_or byte_basis j 0 h))
    go (inr h) = cantor_none j h ∙ ap (option_map byte) (sym (slice_get_past byte_basis j h))

pub byte_tower : LevelLaws byte_ops byte_level
byte_tower = record {
  form = record {
    below = λ x. x.ok;
    injective = byte_eq;
    onto = λ n h. (byte n, mod-eq_of_lt h);
    of_sum = sum_value;
    of_zero = refl;
    of_one = refl;
  };
  solving = record {
    solves = byte_solves;
    halves = λ t. solve_some (byte_ops.sum t (byte 128)) ∙ ap (λ n. ltb n 128) (sum_value t (byte 128)) ∙ top_changes t.value t.ok ∙ ap not (sym (solve_some t));
  };
  basis = λ j. long j (cases_lt j 8);
}
  where
    long : (j : ℕ) → (j < 8) ⊎ (8 ≤ j) → is_some (cantor byte_ops byte_level j) ≡ nat_lt j 8
    long j (inl h) = ap is_some (cantor_is j h) ∙ sym (lt-ltb j 8 h)
    long j (inr h) = ap is_some (cantor_none j h) ∙ sym (le-ltb j 8 h)
