-- The points that the Cantor basis of a level spans (Cantor 1989), and vanishing polynomials.
use Rattle.std.specs.Prelude.{ℕ, zero, suc, cond}
use Rattle.std.specs.Option.{unwrap_or}
use Rattle.fields.specs.Field.{Operations}
use Rattle.fields.specs.Tower.{Level, width, phi, cantor}
use Rattle.algebra.specs.Sums.{product_below, bit_sum}

module _ {F : Type 0} (o : Operations F) where
  -- v_r, or zero if the basis has no v_r
  abbrev pub basis_element_or_zero : Level F → ℕ → F
  basis_element_or_zero l r = unwrap_or (cantor o l r) o.zero

  -- the sum of v_r over the set bits r of j; a bit that has no v_r, as each from the width on, adds nothing
  abbrev pub point : Level F → ℕ → F
  point l = bit_sum o (width l) (basis_element_or_zero l)

  -- phi applied k times
  abbrev pub phi_power : ℕ → F → F
  phi_power zero x = x
  phi_power (suc k) x = phi o (phi_power k x)

  -- the vanishing polynomial of the points t 0 to t (n - 1) at x: the product of x + t j
  abbrev pub vanishing : ℕ → (ℕ → F) → F → F
  vanishing n t x = product_below o n (λ j. o.sum x (t j))

  -- the product of those of t 0 to t (n - 1) that are not zero
  abbrev pub nonzero_product : ℕ → (ℕ → F) → F
  nonzero_product n t = product_below o n (λ j. cond (o.equals (t j) o.zero) o.one (t j))
