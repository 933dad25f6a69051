-- The pairs a + bX over a level, with X² = X + top.
use Rattle.std.specs.Prelude.{suc, ◌+◌, ◌*◌, ◌^◌, false, cond, Some, None, Option}
use Rattle.std.specs.Option.{option_map, option_or}
use Rattle.fields.specs.declared.pair.Pair.{Pair}
use Rattle.fields.specs.Extension.{Embedding}
use Rattle.fields.specs.Field.{Operations}
use Rattle.fields.specs.Tower.{Level, width}

abbrev pub pair : {B : Type 0} → B → B → Pair B
pair a b = record { low = a; high = b }

module _ {B : Type 0} (o : Operations B) (top : B) where
  open o use {zero as 𝟘, one as 𝟙, sum as ◌⊕◌, product as ◌⊗◌}

  infixl 30 ◌⊕◌
  infixl 40 ◌⊗◌
  -- (a + bX)(c + dX) = ac + bd·top + (ad + bc + bd)X
  abbrev pub pair_product : Pair B → Pair B → Pair B
  pair_product x y = pair (x.low ⊗ y.low ⊕ x.high ⊗ y.high ⊗ top) (x.low ⊗ y.high ⊕ x.high ⊗ y.low ⊕ x.high ⊗ y.high)

  -- a + bX times its conjugate a + b + bX
  abbrev pub norm : Pair B → B
  norm x = x.low ⊗ (x.low ⊕ x.high) ⊕ x.high ⊗ x.high ⊗ top

  abbrev pub conjugate_times : Pair B → B → Pair B
  conjugate_times x n = pair ((x.low ⊕ x.high) ⊗ n) (x.high ⊗ n)

  abbrev pub pair_ops : Operations (Pair B)
  pair_ops = record {
    zero = pair 𝟘 𝟘;
    one = pair 𝟙 𝟘;
    sum = λ x y. pair (x.low ⊕ y.low) (x.high ⊕ y.high);
    product = pair_product;
    inverse = λ x. option_map (conjugate_times x) (o.inverse (norm x));
    equals = λ x y. cond (o.equals x.low y.low) (o.equals x.high y.high) false;
  }

module _ {B : Type 0} (o : Operations B) (l : Level B) where
  open o use {zero as 𝟘, one as 𝟙, sum as ◌⊕◌, product as ◌⊗◌}

  infixl 30 ◌⊕◌
  infixl 40 ◌⊗◌
  -- c + dX solves a + bX where d² + d = b and c² + c = a + d²·top. If no c does, then one does for d + 1.
  abbrev pub solve_low : B → Option B → Option (Pair B)
  solve_low a (Some d) =
      let r = a ⊕ d ⊗ d ⊗ l.top in
      option_or (option_map (λ c. pair c d) (l.solve r)) (option_map (λ c. pair c (d ⊕ 𝟙)) (l.solve (r ⊕ l.top)))
  solve_low a None = None

  abbrev pub pair_level : Level (Pair B)
  pair_level = record {
    log_bits = suc l.log_bits;
    number = λ x. l.number x.low + l.number x.high * 2 ^ width l;
    top = pair 𝟘 l.top;
    solve = λ t. solve_low t.low (l.solve t.high);
  }

-- pairs extend what their halves extend
abbrev pub pair_embedding : {F B : Type 0} → Operations B → Embedding F B → Embedding F (Pair B)
pair_embedding o m = record {
  embed = λ x. pair (m.embed x) o.zero;
  base = λ e. cond (o.equals e.high o.zero) (m.base e.low) None;
}
