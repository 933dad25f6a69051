-- A word of digits of any base, read digit by digit from its front.
use Rattle.std.proofs.Common.{◌≡◌, ℕ, ◌+◌, ◌*◌, ◌^◌, ◌<◌, ◌≤◌, Bool, true, false, cond, ◌&&◌, ltb, List, [], ◌∷◌, length, get_or, drop, Some, None, Option, sym, refl, ap, ◌∙◌, inl, inr, mul_assoc, mul_comm, add-mul, pow-suc, mul-one, le-mul_of_pos_right, arith}
use native.Mathlib.Nat.{pow-zero, one-le-pow}
use Rattle.std.proofs.lemmas.List.{at_drop_more, at_drop_all}
use Rattle.std.proofs.lemmas.Bool.{ltb-true, ltb-false, lt-ltb, le-ltb, and_cases, and_parts, and_from, and_left, and_right, cond-true, cond-false}
use Rattle.words.specs.Pieces.{every, some}
use Rattle.words.specs.Numerals.{worth, digit, value, numeral_of}

some_from : (w : List ℕ) → (length w ≡ 0 → ⊥) → some w ≡ true
some_from [] h = absurd (h refl)
some_from (b ∷ bs) h = refl

regroup : (base v d p x : ℕ) → v * (p * base) + (d * p + x) ≡ (v * base + d) * p + x
regroup base v d p x =
    let e : v * (p * base) ≡ v * base * p = ap (λ q. v * q) (mul_comm p base) ∙ sym (mul_assoc v base p) in
    omega (arith, e, add-mul (v * base) d p)

-- what v and the digits l after it write
abbrev pub written : ℕ → ℕ → List ℕ → ℕ
written base v l = v * base ^ length l + value base l

written_cons : (base v d : ℕ) (l : List ℕ) → written base v (d ∷ l) ≡ written base (v * base + worth d) l
written_cons base v d l =
    ap (λ p. v * p + (worth d * base ^ length l + value base l)) (pow-suc base (length l)) ∙ regroup base v (worth d) (base ^ length l) (value base l)

written_ge : (base v : ℕ) (l : List ℕ) → 0 < base → v ≤ written base v l
written_ge base v l pos = let h = le-mul_of_pos_right v (one-le-pow (length l) base pos) in omega arith

-- the front of w up to i writes v, and has digits only
pub record Read (base : ℕ) (w : List ℕ) (i v : ℕ) : Type 0 where
  pub sofar : written base v (drop i w) ≡ value base w
  pub digits : every (digit base) (drop i w) ≡ every (digit base) w
  pub fits : v < 2 ^ 64

pub read_none : (base : ℕ) (w : List ℕ) → Read base w 0 0
read_none base w = record { sofar = omega arith; digits = refl; fits = omega arith }

abbrev one_more : ℕ → ℕ → ℕ → Option ℕ
one_more base v d = cond (digit base d && ltb (v * base + worth d) (2 ^ 64)) (Some (v * base + worth d)) None

one_more_some : (t : Bool) (n u : ℕ) → cond t (Some n) None ≡ Some u → (t ≡ true) × (u ≡ n)
one_more_some true n u e = (refl, cc)
one_more_some false n u e = let z : ◌≡◌ {A = ℕ} 0 1 = cc in absurd (omega arith)

one_more_none : (t : Bool) (n : ℕ) → cond t (Some n) None ≡ None → t ≡ false
one_more_none true n e = let z : ◌≡◌ {A = ℕ} 0 1 = cc in absurd (omega arith)
one_more_none false n e = refl

module _ (base : ℕ) (w : List ℕ) (i v : ℕ) (read : Read base w i v) where
  pub read_more : (u : ℕ) → i < length w → one_more base v (get_or w i 0) ≡ Some u → Read base w (i + 1) u
  read_more u h e =
      let d = get_or w i 0 in
      let s = one_more_some _ _ _ e in
      let t = and_parts _ _ s.0 in
      record {
        sofar = ap (λ n. written base n (drop (i + 1) w)) s.1 ∙ sym (at_drop_more (written base v) w i 0 h ∙ written_cons base v d (drop (i + 1) w)) ∙ read.sofar;
        digits = sym (at_drop_more (every (digit base)) w i 0 h ∙ ap (λ b. b && every (digit base) (drop (i + 1) w)) t.0) ∙ read.digits;
        fits = omega (arith, s.1, ltb-true _ _ t.1);
      }

  pub read_refused : 0 < base → i < length w → one_more base v (get_or w i 0) ≡ None → numeral_of base w ≡ None
  read_refused pos h e =
      let d = get_or w i 0 in
      let no_number : (every (digit base) w && ltb (value base w) (2 ^ 64)) ≡ false =
      elim (and_cases _ _ (one_more_none _ _ e)) [
        | inl f ↦ and_left _ _ (sym read.digits ∙ at_drop_more (every (digit base)) w i 0 h ∙ ap (λ b. b && every (digit base) (drop (i + 1) w)) f)
        | inr f ↦
            let big = ltb-false _ _ f in
            let whole : written base (v * base + worth d) (drop (i + 1) w) ≡ value base w = sym (at_drop_more (written base v) w i 0 h ∙ written_cons base v d (drop (i + 1) w)) ∙ read.sofar in
            let ge = written_ge base (v * base + worth d) (drop (i + 1) w) pos in
            and_right _ _ (le-ltb (value base w) (2 ^ 64) (omega arith))
      ]
      in cond-false _ _ _ (and_right (some w) _ no_number)

  pub read_all : length w ≤ i → (length w ≡ 0 → ⊥) → Some v ≡ numeral_of base w
  read_all h full =
      let one : v * base ^ 0 ≡ v = ap (λ p. v * p) (pow-zero base) ∙ mul-one v in
      let is : v ≡ value base w = omega (arith, sym (at_drop_all (written base v) w i h) ∙ read.sofar) in
      let all : every (digit base) w ≡ true = sym read.digits ∙ at_drop_all (every (digit base)) w i h in
      ap Some is ∙ sym (cond-true _ _ _ (and_from _ _ (some_from w full) (and_from _ _ all (lt-ltb (value base w) (2 ^ 64) (omega (arith, read.fits))))))
