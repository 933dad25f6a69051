-- A Cantor basis, element by element: what a loop over it needs.
use Rattle.std.proofs.Common.{◌≡◌, ℕ, zero, suc, ◌+◌, ◌-◌, ◌<◌, Some, None, Option, sym, ap, ◌∙◌, add-one, arith}
use Rattle.fields.specs.Field.{Operations}
use Rattle.fields.specs.Tower.{Level, solution, cantor}

module _ {F : Type 0} (o : Operations F) (l : Level F) where
  pub cantor_next : (v : F) (i : ℕ) (r : Option F) → Some v ≡ cantor o l i → r ≡ l.solve v → r ≡ cantor o l (i + 1)
  cantor_next v i r h e = e ∙ ap (solution l) h ∙ ap (cantor o l) (sym (add-one i))

  none_on : (i k : ℕ) → None ≡ cantor o l i → None ≡ cantor o l (k + i)
  none_on i zero h = let z : i ≡ zero + i = omega arith in h ∙ ap (cantor o l) z
  none_on i (suc k) h = let z : suc (k + i) ≡ suc k + i = omega arith in ap (solution l) (none_on i k h) ∙ ap (cantor o l) z

  -- no element follows one that is missing
  pub cantor_none : (i j : ℕ) → i < j → None ≡ cantor o l (i + 1) → None ≡ cantor o l j
  cantor_none i j h e = let z : (j - (i + 1)) + (i + 1) ≡ j = omega arith in none_on (i + 1) (j - (i + 1)) e ∙ ap (cantor o l) z
