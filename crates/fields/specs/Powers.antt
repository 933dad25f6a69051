-- The powers of the generator of the byte field: exponents add, and 255 leads back to one. Products and inverses by exponents.
use Rattle.std.specs.Prelude.{◌≡◌, ℕ, zero, suc, ◌+◌, ◌-◌, ◌<◌, ◌≤◌, cond, ◌⊎◌, Some, None, nat_lt}
use Rattle.std.proofs.Common.{sym, ap, ap₂, ◌∙◌, inl, inr, suc-add, zero-add, arith, lit<}
use Rattle.std.proofs.lemmas.Bool.{lt-ltb, le-ltb, eq-eqb, eqb-true, cond-true, cond-false, cases_lt}
use Rattle.fields.specs.Bytes.{bilinear, inverts, passing, power, Log}
use Rattle.fields.specs.Passing.{passing_only, passing_none}
use Rattle.fields.specs.ByteProduct.{zero_times, times_zero, product_lt, product_comm, product_assoc, product_one}
use Rattle.fields.specs.ByteTables.{power_255}

pub power_lt : (i : ℕ) → power i < 256
power_lt zero = lit< tt
power_lt (suc i) = product_lt 18 (power i)

one_times : (y : ℕ) → y < 256 → bilinear 1 y ≡ y
one_times y h = product_comm 1 y (lit< tt) h ∙ product_one y h

pub power_add : (i j : ℕ) → bilinear (power i) (power j) ≡ power (i + j)
power_add zero j = one_times (power j) (power_lt j) ∙ ap power (sym (zero-add j))
power_add (suc i) j = product_assoc 18 (power i) (power j) (lit< tt) (power_lt i) (power_lt j) ∙ ap (bilinear 18) (power_add i j) ∙ ap power (sym (suc-add i j))

-- a product is the power of the exponents' sum, which is beyond the powers where a factor is zero
pub product_by_logs : (x y i j : ℕ) → Log x i → Log y j → cond (nat_lt (i + j) 510) (power (i + j)) 0 ≡ bilinear x y
product_by_logs x y i j p q = go (cases_lt 0 x) (cases_lt 0 y)
  where
    none : 510 ≤ i + j → cond (nat_lt (i + j) 510) (power (i + j)) 0 ≡ 0
    none h = cond-false _ _ _ (le-ltb (i + j) 510 h)

    go : (0 < x) ⊎ (x ≤ 0) → (0 < y) ⊎ (y ≤ 0) → cond (nat_lt (i + j) 510) (power (i + j)) 0 ≡ bilinear x y
    go (inl a) (inl b) =
        let u = p.of_power a in
        let v = q.of_power b in
        cond-true _ _ _ (lt-ltb (i + j) 510 (omega arith)) ∙ sym (power_add i j) ∙ ap₂ bilinear u.1 v.1
    go (inl a) (inr b) =
        let z : y ≡ 0 = omega arith in
        let e = q.of_zero z in
        none (omega arith) ∙ sym (ap (bilinear x) z ∙ times_zero x)
    go (inr a) b =
        let z : x ≡ 0 = omega arith in
        let e = p.of_zero z in
        none (omega arith) ∙ sym (ap (λ w. bilinear w y) z ∙ zero_times y)

pub inverse_by_log : (x i : ℕ) → 0 < x → Log x i → bilinear x (power (255 - i)) ≡ 1
inverse_by_log x i h p =
    let u = p.of_power h in
    let e : i + (255 - i) ≡ 255 = omega arith in
    ap (λ w. bilinear w (power (255 - i))) (sym u.1) ∙ power_add i (255 - i) ∙ ap power e ∙ power_255

-- what gives one is the inverse
pub inverse_only : (x y : ℕ) → x < 256 → y < 256 → bilinear x y ≡ 1 → passing (inverts x) 256 ≡ Some y
inverse_only x y p q e = passing_only (inverts x) y 256 q (eq-eqb _ _ e) (λ z r f.
    sym (product_one z r) ∙ ap (bilinear z) (sym e) ∙ sym (product_assoc z x y r p q) ∙ ap (λ w. bilinear w y) (product_comm z x r p ∙ eqb-true _ _ f) ∙ one_times y q)

pub inverse_found : (x i r : ℕ) → 0 < x → x < 256 → Log x i → r ≡ cond (nat_lt (255 - i) 510) (power (255 - i)) 0 → passing (inverts x) 256 ≡ Some r
inverse_found x i r h k p e = inverse_only x (power (255 - i)) k (power_lt (255 - i)) (inverse_by_log x i h p) ∙ ap Some (sym (e ∙ cond-true _ _ _ (lt-ltb (255 - i) 510 (omega arith))))

pub zero_inverse : passing (inverts 0) 256 ≡ None
zero_inverse = passing_none (inverts 0) 256 (λ z r f. let e : 0 ≡ 1 = sym (zero_times z) ∙ eqb-true _ _ f in omega arith)
