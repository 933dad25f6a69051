-- Interpolation at the points t 0 to t (n - 1), by Lagrange's polynomials.
use Rattle.std.specs.Prelude.{◌≡◌, ℕ, ◌<◌, cond, ◌≢◌, ◌==◌}
use Rattle.fields.specs.Field.{Operations}
use Rattle.algebra.specs.Sums.{sum_below, product_below}
use Rattle.algebra.specs.Quotients.{quotient}
use Rattle.algebra.specs.Polynomials.{Below}

-- the n points are different
abbrev pub Apart : {F : Type 0} → ℕ → (ℕ → F) → Type 0
Apart n t = (i j : ℕ) → i < n → j < n → i ≢ j → t i ≢ t j

module _ {F : Type 0} (o : Operations F) where
  -- the Lagrange polynomial of point c at x: the product of (x + t j) / (t c + t j) over the other points
  abbrev pub lagrange : ℕ → (ℕ → F) → ℕ → F → F
  lagrange n t c x = product_below o n (λ j. cond (j == c) o.one (quotient o (o.sum x (t j)) (o.sum (t c) (t j))))

  -- the value at x of the polynomial of degree below n that is y c at each point c
  abbrev pub interpolation : ℕ → (ℕ → F) → (ℕ → F) → F → F
  interpolation n t y x = sum_below o n (λ c. o.product (y c) (lagrange n t c x))

-- f is a polynomial of degree below n that is y i at each point i
pub record Interpolates {F : Type 0} (o : Operations F) (n : ℕ) (t y : ℕ → F) (f : F → F) : Type 0 where
  pub degree : Below o n f
  pub meets : (i : ℕ) → i < n → f (t i) ≡ y i
