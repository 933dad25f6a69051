-- An extension of a field: an embedding, and which elements it reaches.
use Rattle.std.specs.Prelude.{◌≡◌, Some, None, Option, ◌≢◌}
use Rattle.fields.specs.Field.{Operations}

pub record Embedding (F E : Type 0) : Type 0 where
  pub embed : F → E
  pub base : E → Option F

-- e keeps one, sums and products
pub record Keeps {F E : Type 0} (o : Operations F) (p : Operations E) (e : F → E) : Type 0 where
  pub one : e o.one ≡ p.one
  pub sum : (x y : F) → e (o.sum x y) ≡ p.sum (e x) (e y)
  pub product : (x y : F) → e (o.product x y) ≡ p.product (e x) (e y)

-- the element whose image e is, or none exactly if e is no image
abbrev pub Lies : {F E : Type 0} → Embedding F E → E → Option F → Type 0
Lies m e (Some x) = m.embed x ≡ e
Lies {F} m e None = (x : F) → m.embed x ≢ e

pub record ExtensionLaws {F E : Type 0} (o : Operations F) (p : Operations E) (m : Embedding F E) : Type 0 where
  pub keeps : Keeps o p m.embed
  pub lies : (e : E) → Lies m e (m.base e)

-- a field extends itself
abbrev pub itself : {F : Type 0} → Embedding F F
itself = record { embed = λ x. x; base = λ x. Some x }
