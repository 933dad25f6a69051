-- What follows from the laws of a field, of a level and of an extension.
use Rattle.std.specs.Prelude.{◌≡◌, ℕ, suc, ◌%◌, ◌⊎◌, Some, ◌≢◌}
use Rattle.fields.specs.Field.{Operations}
use Rattle.fields.specs.Tower.{Level, phi, cantor}
use Rattle.fields.specs.Extension.{Embedding}

pub record FieldFacts {F : Type 0} (o : Operations F) : Type 0 where
  pub no_zero_divisors : (x y : F) → (x ≢ o.zero) → o.product x y ≡ o.zero → y ≡ o.zero
  pub phi_sum : (x y : F) → phi o (o.sum x y) ≡ o.sum (phi o x) (phi o y)
  pub phi_roots : (x : F) → phi o x ≡ o.zero → (x ≡ o.zero) ⊎ (x ≡ o.one)

pub record LevelFacts {F : Type 0} (o : Operations F) (l : Level F) : Type 0 where
  -- so that X² + X + top has no root
  pub top_unsolved : (y : F) → phi o y ≢ l.top
  -- phi leads down the basis, and bit 0 is clear above v₀
  pub basis_down : (j : ℕ) (v w : F) → cantor o l j ≡ Some v → cantor o l (suc j) ≡ Some w → phi o w ≡ v
  pub basis_even : (j : ℕ) (w : F) → cantor o l (suc j) ≡ Some w → l.number w % 2 ≡ 0

pub record ExtensionFacts {F E : Type 0} (o : Operations F) (p : Operations E) (m : Embedding F E) : Type 0 where
  pub embed_zero : m.embed o.zero ≡ p.zero
  pub embed_injective : (x y : F) → m.embed x ≡ m.embed y → x ≡ y
  pub base_embed : (x : F) → m.base (m.embed x) ≡ Some x
