-- The number form of pairs, low + high · 2^w over a level of w bits.
use Rattle.std.specs.Prelude.{◌≡◌, ℕ, suc, ◌+◌, ◌-◌, ◌*◌, ◌/◌, ◌%◌, ◌^◌, ◌<◌, ◌≤◌, Bool, true, false, cond, is_some, Some, None, bit_xor, nat_lt, refl}
use Rattle.std.proofs.Common.{sym, ap, ap₂, ◌∙◌, subst, add_comm, mul_assoc, pow-suc, mod-eq_of_lt, lt_of_lt_of_le, arith, pow-add, pow_pos, pow_mono, shr_lt}
use Rattle.std.proofs.Math.Nat.{div-eq_of_lt, add-mul-mod_self_right}
use Rattle.std.proofs.Math.Arith.{digits_lt, digits_div, digits_mod}
use Rattle.std.proofs.Math.Pow.{pow-lt, split}
use Rattle.std.proofs.lemmas.Nat.{mod-pow-add, xor_block}
use Rattle.std.proofs.lemmas.Bool.{true≢false, false≢true, ltb-true, ltb-false}
use Rattle.fields.specs.Field.{Operations}
use Rattle.fields.specs.Tower.{Level, NumberForm, width}
use Rattle.fields.specs.Pairs.{pair, pair_ops, pair_level}
use Rattle.fields.specs.PairLaws.{pair_eq}

-- a pair has twice the bits
pub twice_wide : (k : ℕ) → 2 ^ suc k ≡ 2 ^ k + 2 ^ k
twice_wide k = omega arith

pub wide_square : (k : ℕ) → 2 ^ (2 ^ suc k) ≡ 2 ^ (2 ^ k) * 2 ^ (2 ^ k)
wide_square k = ap (λ n. 2 ^ n) (twice_wide k) ∙ pow-add 2 (2 ^ k) (2 ^ k)

pub join_lt : (k a b : ℕ) → a < 2 ^ (2 ^ k) → b < 2 ^ (2 ^ k) → a + b * 2 ^ (2 ^ k) < 2 ^ (2 ^ suc k)
join_lt k a b p q = subst (λ n. a + b * 2 ^ (2 ^ k) < n) (sym (wide_square k)) (subst (λ n. n < 2 ^ (2 ^ k) * 2 ^ (2 ^ k)) (add_comm (b * 2 ^ (2 ^ k)) a) (digits_lt q p))

join_low : (w a b : ℕ) → a < 2 ^ w → (a + b * 2 ^ w) % 2 ^ w ≡ a
join_low w a b h = ap (λ n. n % 2 ^ w) (add_comm a (b * 2 ^ w)) ∙ digits_mod b h

join_high : (w a b : ℕ) → a < 2 ^ w → (a + b * 2 ^ w) / 2 ^ w ≡ b
join_high w a b h = ap (λ n. n / 2 ^ w) (add_comm a (b * 2 ^ w)) ∙ digits_div b h

join_xor : (w a b c d : ℕ) → a < 2 ^ w → c < 2 ^ w → bit_xor (a + b * 2 ^ w) (c + d * 2 ^ w) ≡ bit_xor a c + bit_xor b d * 2 ^ w
join_xor w a b c d h k = ap₂ bit_xor (add_comm a (b * 2 ^ w)) (add_comm c (d * 2 ^ w)) ∙ xor_block w b d a c h k ∙ add_comm (bit_xor b d * 2 ^ w) (bit_xor a c)

-- bit 0 is the low part's
pub join_even : (k a b : ℕ) → a % 2 ≡ 0 → (a + b * 2 ^ (2 ^ k)) % 2 ≡ 0
join_even k a b e =
    let p : 0 < 2 ^ k = pow_pos k in
    let n : 2 ^ k ≡ suc (2 ^ k - 1) = omega arith in
    let m : b * 2 ^ (2 ^ k) ≡ b * 2 ^ (2 ^ k - 1) * 2 = ap (λ j. b * 2 ^ j) n ∙ ap (λ j. b * j) (pow-suc 2 (2 ^ k - 1)) ∙ sym (mul_assoc b (2 ^ (2 ^ k - 1)) 2) in
    ap (λ j. (a + j) % 2) m ∙ add-mul-mod_self_right a (b * 2 ^ (2 ^ k - 1)) 2 ∙ e

module _ {B : Type 0} {o : Operations B} {l : Level B} (N : NumberForm o l) where
  pub pair_form : NumberForm (pair_ops o l.top) (pair_level o l)
  pair_form = record {
    below = λ x. join_lt l.log_bits _ _ (N.below x.low) (N.below x.high);
    injective = λ x y e. pair_eq x y
        (N.injective _ _ (sym (join_low (width l) _ (l.number x.high) (N.below x.low)) ∙ ap (λ n. n % 2 ^ width l) e ∙ join_low (width l) _ (l.number y.high) (N.below y.low)))
        (N.injective _ _ (sym (join_high (width l) (l.number x.low) _ (N.below x.low)) ∙ ap (λ n. n / 2 ^ width l) e ∙ join_high (width l) (l.number y.low) _ (N.below y.low)));
    onto = λ n h.
        let a = N.onto (n % 2 ^ width l) (mod_below n) in
        let b = N.onto (n / 2 ^ width l) (shr_lt (width l) (width l) (subst (λ w. n < 2 ^ w) (twice_wide l.log_bits) h)) in
        (pair a.0 b.0, ap₂ (λ i j. i + j * 2 ^ width l) a.1 b.1 ∙ add_comm (n % 2 ^ width l) (n / 2 ^ width l * 2 ^ width l) ∙ split n (width l));
    of_sum = λ x y. ap₂ (λ i j. i + j * 2 ^ width l) (N.of_sum x.low y.low) (N.of_sum x.high y.high) ∙ sym (join_xor (width l) _ _ _ _ (N.below x.low) (N.below y.low));
    of_zero = ap (λ n. n + n * 2 ^ width l) N.of_zero ∙ omega arith;
    of_one = ap₂ (λ i j. i + j * 2 ^ width l) N.of_one N.of_zero ∙ omega arith;
  }
    where
      mod_below : (n : ℕ) → n % 2 ^ width l < 2 ^ width l
      mod_below n = let p : 0 < 2 ^ width l = pow_pos (width l) in omega arith

-- a number cut to the width, by halves
pub cut_join : (k n a b : ℕ) → a ≡ n % 2 ^ (2 ^ k) → b ≡ n / 2 ^ (2 ^ k) % 2 ^ (2 ^ k) → a + b * 2 ^ (2 ^ k) ≡ n % 2 ^ (2 ^ suc k)
cut_join k n a b p q = ap₂ (λ i j. i + j * 2 ^ (2 ^ k)) p q ∙ add_comm _ _ ∙ sym (ap (λ w. n % 2 ^ w) (twice_wide k) ∙ mod-pow-add n (2 ^ k) (2 ^ k))

-- how far a half reaches into the 128 bits of a number
pub half_some : (k b : ℕ) → Some b ≡ cond (nat_lt k 7) (Some (2 ^ k)) None → (b ≡ 2 ^ k) × (k < 7)
half_some k b e = go (nat_lt k 7) refl e
  where
    go : (t : Bool) → nat_lt k 7 ≡ t → Some b ≡ cond t (Some (2 ^ k)) None → (b ≡ 2 ^ k) × (k < 7)
    go true h e' = (let w : Some b ≡ Some (2 ^ k) = e' in cc, ltb-true k 7 h)
    go false h e' = absurd (true≢false (ap is_some e'))

pub half_none : (k : ℕ) → None ≡ cond (nat_lt k 7) (Some (2 ^ k)) None → 7 ≤ k
half_none k e = go (nat_lt k 7) refl e
  where
    go : (t : Bool) → nat_lt k 7 ≡ t → None ≡ cond t (Some (2 ^ k)) None → 7 ≤ k
    go true h e' = absurd (false≢true (ap is_some e'))
    go false h e' = ltb-false k 7 h

pub half_below : (k : ℕ) → k < 7 → 2 ^ k < 128
half_below k h = pow-lt h

pub none_above : (k n : ℕ) → 7 ≤ k → n < 2 ^ 128 → n / 2 ^ (2 ^ k) ≡ 0
none_above k n h l = div-eq_of_lt (lt_of_lt_of_le l (pow_mono (pow_mono h)))

join_whole : (k a b : ℕ) → k < 7 → a < 2 ^ (2 ^ k) → b < 2 ^ (2 ^ k) → a + b * 2 ^ (2 ^ k) < 2 ^ 128
join_whole k a b h p q = lt_of_lt_of_le (join_lt k a b p q) (pow_mono (pow_mono h))

pub to_number_joined : (k a b i j s : ℕ) → k < 7 → a < 2 ^ (2 ^ k) → b < 2 ^ (2 ^ k) → i ≡ a % 2 ^ 128 → j ≡ b % 2 ^ 128 → s ≡ 2 ^ k
    → (i + j * 2 ^ s % 2 ^ 128 ≡ (a + b * 2 ^ (2 ^ k)) % 2 ^ 128) × (i + j * 2 ^ s % 2 ^ 128 < 2 ^ 128)
to_number_joined k a b i j s h p q ei ej es =
    let whole = join_whole k a b h p q in
    let alone : b * 2 ^ (2 ^ k) < 2 ^ 128 = omega arith in
    let wide : 2 ^ (2 ^ k) ≤ 2 ^ 128 = pow_mono (pow_mono {i = k} {j = 7} (omega arith)) in
    let ia : i ≡ a = ei ∙ mod-eq_of_lt (lt_of_lt_of_le p wide) in
    let jb : j ≡ b = ej ∙ mod-eq_of_lt (lt_of_lt_of_le q wide) in
    let e : i + j * 2 ^ s % 2 ^ 128 ≡ a + b * 2 ^ (2 ^ k) = ap₂ (λ x y. x + y % 2 ^ 128) ia (ap₂ (λ x y. x * 2 ^ y) jb es) ∙ ap (λ y. a + y) (mod-eq_of_lt alone) in
    (e ∙ sym (mod-eq_of_lt whole), subst (λ n. n < 2 ^ 128) (sym e) whole)

pub to_number_low : (k a b : ℕ) → 7 ≤ k → a % 2 ^ 128 ≡ (a + b * 2 ^ (2 ^ k)) % 2 ^ 128
to_number_low k a b h =
    let m : 128 ≤ 2 ^ k = pow_mono h in
    let n : 2 ^ k ≡ (2 ^ k - 128) + 128 = omega arith in
    let e : b * 2 ^ (2 ^ k) ≡ b * 2 ^ (2 ^ k - 128) * 2 ^ 128 = ap (λ j. b * 2 ^ j) n ∙ ap (λ j. b * j) (pow-add 2 (2 ^ k - 128) 128) ∙ sym (mul_assoc b (2 ^ (2 ^ k - 128)) (2 ^ 128)) in
    sym (ap (λ j. (a + j) % 2 ^ 128) e ∙ add-mul-mod_self_right a (b * 2 ^ (2 ^ k - 128)) (2 ^ 128))
