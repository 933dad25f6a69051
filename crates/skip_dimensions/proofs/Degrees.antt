-- What the number of bits says, and why a degree that a domain admits fits it.
use Rattle.std.proofs.Common.{◌≡◌, ℕ, zero, suc, ◌+◌, ◌-◌, ◌*◌, ◌/◌, ◌%◌, ◌^◌, ◌<◌, ◌≤◌, max, Bool, true, false, cond, ◌==◌, refl, leb, IfSome, Some, None, Option, unwrap_or, sym, ap, ◌∙◌, subst, inl, inr, mul-le-mul_right, pow-suc, mul-suc, add-one, arith, pow_pos, pow_mono, pow-add}
use native.Mathlib.Nat.{max-le, le-max_left}
use lib.Count.{count_leading_zeros, leading_unique}
use Rattle.std.proofs.lemmas.Bool.{cases_lt, lt-leb, leb-true, eqb-false, false≢true}
use Rattle.std.specs.Option.{SomeIff, option_map}
use Rattle.skip_dimensions.specs.Degrees.{digits, bits, extra, Reaches, Least, Fits, admits}

-- a one shifted by fewer than 64 places stays a word
pub shifted_one : (d : ℕ) → d < 64 → 1 * 2 ^ d % 2 ^ 64 ≡ 2 ^ d
shifted_one d h =
    let o : d ≤ 63 = omega arith in
    let p : 2 ^ d ≤ 2 ^ 63 = pow_mono o in
    omega arith

-- the digits hold n, and one fewer would not
digits_bound : (k n : ℕ) → n ≤ k → (n < 2 ^ digits k n) × (2 ^ digits k n ≤ 2 * n + (1 - n))
digits_bound zero zero h = (omega arith, omega arith)
digits_bound zero (suc n) h = absurd (omega arith)
digits_bound (suc k) zero h = (omega arith, omega arith)
digits_bound (suc k) (suc n) h =
    let i = digits_bound k (suc n / 2) (omega arith) in
    let p = pow-suc 2 (digits k (suc n / 2)) in
    (omega arith, omega arith)

pub bits_bound : (n : ℕ) → (n < 2 ^ bits n) × (2 ^ bits n ≤ 2 * n + 1)
bits_bound n = let b = digits_bound n n (omega arith) in (b.0, omega arith)

-- a number has no more bits than any length that holds it
pub bits_le : (n m : ℕ) → n < 2 ^ m → bits n ≤ m
bits_le n m h =
    let b = bits_bound n in
    elim (cases_lt m (bits n)) [
      | inl q ↦
          let r : 2 ^ (m + 1) ≤ 2 ^ bits n = let z : m + 1 ≤ bits n = omega arith in pow_mono z in
          let s : 2 ^ (m + 1) ≡ 2 ^ m * 2 = ap (λ (x : ℕ). 2 ^ x) (add-one m) ∙ pow-suc 2 m in
          absurd (omega arith)
      | inr q ↦ q
    ]

-- a word's bits are what its leading zeros leave
pub bits_leading : (w n : ℕ) → n < 2 ^ w → w - count_leading_zeros w n ≡ bits n
bits_leading w n h =
    let b = bits_bound n in
    let l = bits_le n w h in
    let u : w - bits n ≡ count_leading_zeros w n = leading_unique w n (w - bits n) (bits n) (omega arith) b.0 b.1 in
    omega arith

-- the bits of d - 1, but at least one, are the least dimensions that reach d
pub bits_least : (d e : ℕ) → 0 < d → e ≡ max (bits (d - 1)) 1 → Least (Reaches d) e
bits_least d e p q =
    let b = bits_bound (d - 1) in
    let up : 2 ^ bits (d - 1) ≤ 2 ^ max (bits (d - 1)) 1 = pow_mono (le-max_left (bits (d - 1)) 1) in
    let enough : d ≤ 2 ^ e = subst (λ (x : ℕ). d ≤ 2 ^ x) (sym q) (omega arith) in
    record {
      holds = (omega arith, enough);
      below = λ m r. let l : max (bits (d - 1)) 1 ≤ m = max-le (bits_le (d - 1) m (omega (arith, r.1))) r.0 in omega arith;
    }

less_one : (x p : ℕ) → 0 < x → 0 < p → x * (p - 1) < x * p
less_one x zero h k = absurd (omega arith)
less_one x (suc p) h k =
    let q : suc p - 1 ≡ p = omega arith in
    let m = mul-suc x p in
    subst (λ (y : ℕ). x * y < x * suc p) (sym q) (omega arith)

-- a degree that the dimensions above the subspace reach fits
pub reaches_fits : (s e d x : ℕ) → d ≤ 2 ^ x → s + x ≤ e → Fits s e d
reaches_fits s e d x h l =
    let a : d * (2 ^ s - 1) ≤ 2 ^ x * (2 ^ s - 1) = mul-le-mul_right (2 ^ s - 1) h in
    let b : 2 ^ x * (2 ^ s - 1) < 2 ^ x * 2 ^ s = less_one (2 ^ x) (2 ^ s) (pow_pos x) (pow_pos s) in
    let c : 2 ^ (x + s) ≡ 2 ^ x * 2 ^ s = pow-add 2 x s in
    let f : 2 ^ (x + s) ≤ 2 ^ e = let z : x + s ≤ e = omega arith in pow_mono z in
    omega arith

-- the whole sum of dimensions says which domains admit the degree
pub sum_admits : (s e d x : ℕ) (o : Option ℕ) → Some x ≡ extra d → SomeIff o (s + x < 2 ^ 64) (s + x) → e < 2 ^ 64 →
    admits s e d ≡ unwrap_or (option_map (λ n. leb n e) o) false
sum_admits s e d x None h k l = ap (λ (y : Option ℕ). unwrap_or (option_map (λ n. leb (s + n) e) y) false) (sym h) ∙ lt-leb (s + x) e (past k)
  where
    past : (s + x < 2 ^ 64 → ⊥) → e < s + x
    past k = omega arith
sum_admits s e d x (Some n) h k l =
    ap (λ (y : Option ℕ). unwrap_or (option_map (λ n. leb (s + n) e) y) false) (sym h) ∙ ap (λ (m : ℕ). leb m e) (sym k.1)

-- the dimensions above the subspace reach the degree
reached_by : (d : ℕ) (none : Bool) → (d == 0) ≡ none → IfSome (cond none None (Some (max (bits (d - 1)) 1))) (λ x. d ≤ 2 ^ x)
reached_by d true h = tt
reached_by d false h = let p : (d ≡ 0 → ⊥) = eqb-false d 0 h in (bits_least d (max (bits (d - 1)) 1) (omega (arith, p)) refl).holds.1

admitted_by : (s e d : ℕ) (o : Option ℕ) → IfSome o (λ x. d ≤ 2 ^ x) → unwrap_or (option_map (λ x. leb (s + x) e) o) false ≡ true → Fits s e d
admitted_by s e d None r h = absurd (false≢true h)
admitted_by s e d (Some x) r h = reaches_fits s e d x r (leb-true (s + x) e h)

-- and the degree fits every domain that admits it
pub admits_fits : (s e d : ℕ) → admits s e d ≡ true → Fits s e d
admits_fits s e d h = admitted_by s e d (extra d) (reached_by d (d == 0) refl) h
