-- Additive maps of bytes: a sum is an exclusive or, and a map is known by what it does to the monomials.
use Rattle.std.specs.Prelude.{◌≡◌, ℕ, zero, suc, ◌/◌, ◌%◌, ◌^◌, ◌<◌, Bool, true, false, cond, ◌==◌, bit_xor, nat_eq, refl}
use Rattle.std.proofs.Common.{sym, ap, ap₂, ◌∙◌, arith, eqb→eq, pow_pos}
use Rattle.std.specs.Int.Bits.{xor_assoc, xor_self, xor_zero_r}
use Rattle.std.proofs.lemmas.Nat.{xor_comm, xor_shr, xor_mod, xor_lt}
use Rattle.fields.specs.Bytes.{sum_bits, linear}
use Rattle.fields.specs.Tower.{bit_set}
use Rattle.fields.specs.Tests.{every_at}

abbrev pub Additive : (ℕ → ℕ) → Type 0
Additive f = (m n : ℕ) → f (bit_xor m n) ≡ bit_xor (f m) (f n)

xor_medial : (a b c d : ℕ) → bit_xor (bit_xor a b) (bit_xor c d) ≡ bit_xor (bit_xor a c) (bit_xor b d)
xor_medial a b c d = xor_assoc a b (bit_xor c d) ∙ ap (bit_xor a) (sym (xor_assoc b c d) ∙ ap (λ w. bit_xor w d) (xor_comm b c) ∙ xor_assoc c b d) ∙ sym (xor_assoc a c (bit_xor b d))

choose_xor : (a b x : ℕ) → a < 2 → b < 2 → cond (bit_xor a b == 1) x 0 ≡ bit_xor (cond (a == 1) x 0) (cond (b == 1) x 0)
choose_xor zero zero x p q = refl
choose_xor zero (suc zero) x p q = refl
choose_xor zero (suc (suc b)) x p q = absurd (omega arith)
choose_xor (suc zero) zero x p q = sym (xor_zero_r x)
choose_xor (suc zero) (suc zero) x p q = sym (xor_self x)
choose_xor (suc zero) (suc (suc b)) x p q = absurd (omega arith)
choose_xor (suc (suc a)) b x p q = absurd (omega arith)

choose_both : (b : Bool) (x y : ℕ) → cond b (bit_xor x y) 0 ≡ bit_xor (cond b x 0) (cond b y 0)
choose_both true x y = refl
choose_both false x y = refl

set_xor : (m n k x : ℕ) → cond (bit_set (bit_xor m n) k) x 0 ≡ bit_xor (cond (bit_set m k) x 0) (cond (bit_set n k) x 0)
set_xor m n k x = ap (λ w. cond (w == 1) x 0) (ap (λ w. w % 2) (xor_shr m n k) ∙ xor_mod (m / 2 ^ k) (n / 2 ^ k) 1) ∙ choose_xor (m / 2 ^ k % 2) (n / 2 ^ k % 2) x (omega arith) (omega arith)

pub sum_bits_additive : (k : ℕ) (f : ℕ → ℕ) → Additive (sum_bits k f)
sum_bits_additive zero f m n = refl
sum_bits_additive (suc k) f m n = ap₂ bit_xor (sum_bits_additive k f m n) (set_xor m n k (f k)) ∙ xor_medial (sum_bits k f m) (sum_bits k f n) (cond (bit_set m k) (f k) 0) (cond (bit_set n k) (f k) 0)

pub sum_bits_sum : (k : ℕ) (f g : ℕ → ℕ) (n : ℕ) → sum_bits k (λ i. bit_xor (f i) (g i)) n ≡ bit_xor (sum_bits k f n) (sum_bits k g n)
sum_bits_sum zero f g n = refl
sum_bits_sum (suc k) f g n = ap₂ bit_xor (sum_bits_sum k f g n) (choose_both (bit_set n k) (f k) (g k)) ∙ xor_medial (sum_bits k f n) (sum_bits k g n) (cond (bit_set n k) (f k) 0) (cond (bit_set n k) (g k) 0)

pub sum_bits_same : (k : ℕ) (f g : ℕ → ℕ) (n : ℕ) → ((i : ℕ) → i < k → f i ≡ g i) → sum_bits k f n ≡ sum_bits k g n
sum_bits_same zero f g n h = refl
sum_bits_same (suc k) f g n h = ap₂ (λ a b. bit_xor a (cond (bit_set n k) b 0)) (sum_bits_same k f g n (λ i l. h i (omega arith))) (h k (omega arith))

pub sum_bits_lt : (k w : ℕ) (f : ℕ → ℕ) (n : ℕ) → ((i : ℕ) → i < k → f i < 2 ^ w) → sum_bits k f n < 2 ^ w
sum_bits_lt zero w f n h = pow_pos w
sum_bits_lt (suc k) w f n h = xor_lt w _ _ (sum_bits_lt k w f n (λ i l. h i (omega arith))) (chosen (bit_set n k))
  where
    chosen : (b : Bool) → cond b (f k) 0 < 2 ^ w
    chosen true = h k (omega arith)
    chosen false = pow_pos w

module _ (f : ℕ → ℕ) (A : Additive f) where
  pub additive_zero : f 0 ≡ 0
  additive_zero = A 0 0 ∙ xor_self (f 0)

  additive_choose : (b : Bool) (x : ℕ) → f (cond b x 0) ≡ cond b (f x) 0
  additive_choose true x = refl
  additive_choose false x = additive_zero

  additive_bits : (k : ℕ) (g : ℕ → ℕ) (n : ℕ) → f (sum_bits k g n) ≡ sum_bits k (λ i. f (g i)) n
  additive_bits zero g n = additive_zero
  additive_bits (suc k) g n = A _ _ ∙ ap₂ bit_xor (additive_bits k g n) (additive_choose (bit_set n k) (g k))

  bits_of : (n : ℕ) → n < 256 → linear (λ i. 2 ^ i) n ≡ n
  bits_of n h = eqb→eq _ _ (every_at (λ m. nat_eq (linear (λ i. 2 ^ i) m) m) 256 tt n h)

  pub additive_linear : (n : ℕ) → n < 256 → f n ≡ linear (λ i. f (2 ^ i)) n
  additive_linear n h = ap f (sym (bits_of n h)) ∙ additive_bits 8 (λ i. 2 ^ i) n

-- additive maps that agree at the monomials agree
pub additive_agree : (f g : ℕ → ℕ) → Additive f → Additive g → ((i : ℕ) → i < 8 → f (2 ^ i) ≡ g (2 ^ i)) → (n : ℕ) → n < 256 → f n ≡ g n
additive_agree f g A B h n l = additive_linear f A n l ∙ sum_bits_same 8 (λ i. f (2 ^ i)) (λ i. g (2 ^ i)) n h ∙ sym (additive_linear g B n l)
