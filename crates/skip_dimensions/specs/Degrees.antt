-- Degrees and dimensions.
-- A rule of degree d over a subspace of s dimensions gives a round polynomial of degree at most
-- d * (2 ^ s - 1). It lives on an extension of e dimensions, which has 2 ^ e points. This file says
-- how many dimensions a degree needs above the subspace, and which degrees a domain admits.
use Rattle.std.specs.Prelude.{ℕ, zero, suc, ◌+◌, ◌-◌, ◌*◌, ◌/◌, ◌^◌, ◌<◌, ◌≤◌, min, max, Bool, false, cond, Some, None, Option, ◌==◌, nat_le}
use Rattle.std.specs.Option.{option_map, unwrap_or}

-- the number of binary digits of n, of which the first argument is an upper bound
abbrev pub digits : ℕ → ℕ → ℕ
digits zero n = 0
digits (suc k) zero = 0
digits (suc k) (suc n) = suc (digits k (suc n / 2))

-- the number of bits of n: 0 for 0, 1 for 1, 2 for 2 and 3, 3 for 4 to 7
abbrev pub bits : ℕ → ℕ
bits n = digits n n

-- dimensions that a degree needs above the subspace
abbrev pub extra : ℕ → Option ℕ
extra d = cond (d == 0) None (Some (max (bits (d - 1)) 1))

-- what those dimensions are for: 2 ^ e points for each point of the subspace reach the degree
abbrev pub Reaches : ℕ → ℕ → Type 0
Reaches d e = (1 ≤ e) × (d ≤ 2 ^ e)

-- e is the least number with a property
pub record Least (P : ℕ → Type 0) (e : ℕ) : Type 0 where
  pub holds : P e
  pub below : (m : ℕ) → P m → e ≤ m

-- the largest 64-bit word
abbrev pub word : ℕ
word = 2 ^ 64 - 1

-- dimensions of the smallest domain for a degree, cut at the largest word
abbrev pub dimensions : ℕ → ℕ → Option ℕ
dimensions s d = option_map (λ x. min (s + x) word) (extra d)

-- the domain of dimensions s and e admits degree d, over whole numbers
abbrev pub admits : ℕ → ℕ → ℕ → Bool
admits s e d = unwrap_or (option_map (λ x. nat_le (s + x) e) (extra d)) false

-- the round polynomial of a rule of degree d has fewer coefficients than the extension has points
abbrev pub Fits : ℕ → ℕ → ℕ → Type 0
Fits s e d = d * (2 ^ s - 1) < 2 ^ e
