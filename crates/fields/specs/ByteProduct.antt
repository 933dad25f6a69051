-- The product of bytes is bilinear, commutative and associative, and 1 is its unit.
use Rattle.std.specs.Prelude.{◌≡◌, ℕ, ◌^◌, ◌<◌, Bool, T, ◌==◌, nat_eq, nat_lt, refl}
use Rattle.std.proofs.Common.{ap, ◌∙◌, eqb→eq}
use Rattle.std.proofs.lemmas.Bool.{ltb-true}
use Rattle.fields.specs.Bytes.{linear, monomials, bilinear}
use Rattle.fields.specs.Tests.{every, every_at, truly}
use Rattle.fields.specs.Additive.{Additive, sum_bits_additive, sum_bits_sum, sum_bits_same, sum_bits_lt, additive_zero, additive_agree}

pub product_left : (y : ℕ) → Additive (λ x. bilinear x y)
unfolding bilinear
product_left y = sum_bits_additive 8 (λ i. linear (monomials i) y)

pub product_right : (x : ℕ) → Additive (bilinear x)
unfolding bilinear
product_right x m n = sum_bits_same 8 _ _ x (λ i l. sum_bits_additive 8 (monomials i) m n) ∙ sum_bits_sum 8 (λ i. linear (monomials i) m) (λ i. linear (monomials i) n) x

pub zero_times : (y : ℕ) → bilinear 0 y ≡ 0
zero_times y = additive_zero (λ x. bilinear x y) (product_left y)

pub times_zero : (x : ℕ) → bilinear x 0 ≡ 0
times_zero x = additive_zero (bilinear x) (product_right x)

pub product_lt : (x y : ℕ) → bilinear x y < 256
unfolding bilinear
product_lt x y = sum_bits_lt 8 8 _ x (λ i h. sum_bits_lt 8 8 (monomials i) y (λ j k. ltb-true _ _ (truly _ (every_at (λ j. nat_lt (monomials i j) 256) 8 (every_at (λ i. every (λ j. nat_lt (monomials i j) 256) 8) 8 tt i h) j k))))

abbrev comm_at : ℕ → ℕ → Bool
comm_at i j = bilinear (2 ^ i) (2 ^ j) == bilinear (2 ^ j) (2 ^ i)

comm_tested : T (every (λ i. every (comm_at i) 8) 8)
unfolding bilinear
comm_tested = tt

pub product_comm : (x y : ℕ) → x < 256 → y < 256 → bilinear x y ≡ bilinear y x
product_comm x y p q =
    additive_agree (bilinear x) (λ z. bilinear z x) (product_right x) (product_left x)
    (λ j k. additive_agree (λ z. bilinear z (2 ^ j)) (bilinear (2 ^ j)) (product_left (2 ^ j)) (product_right (2 ^ j)) (λ i h. eqb→eq _ _ (every_at (comm_at i) 8 (every_at (λ i. every (comm_at i) 8) 8 comm_tested i h) j k)) x p) y q

abbrev assoc_at : ℕ → ℕ → ℕ → Bool
assoc_at i j k = bilinear (bilinear (2 ^ i) (2 ^ j)) (2 ^ k) == bilinear (2 ^ i) (bilinear (2 ^ j) (2 ^ k))

assoc_tested : T (every (λ i. every (λ j. every (assoc_at i j) 8) 8) 8)
unfolding bilinear
assoc_tested = tt

pub product_assoc : (x y z : ℕ) → x < 256 → y < 256 → z < 256 → bilinear (bilinear x y) z ≡ bilinear x (bilinear y z)
product_assoc x y z p q r =
    additive_agree (bilinear (bilinear x y)) (λ c. bilinear x (bilinear y c)) (product_right (bilinear x y)) (λ m n. ap (bilinear x) (product_right y m n) ∙ product_right x (bilinear y m) (bilinear y n))
    (λ k l. additive_agree (λ b. bilinear (bilinear x b) (2 ^ k)) (λ b. bilinear x (bilinear b (2 ^ k)))
    (λ m n. ap (λ w. bilinear w (2 ^ k)) (product_right x m n) ∙ product_left (2 ^ k) (bilinear x m) (bilinear x n)) (λ m n. ap (bilinear x) (product_left (2 ^ k) m n) ∙ product_right x (bilinear m (2 ^ k)) (bilinear n (2 ^ k)))
    (λ j h. additive_agree (λ a. bilinear (bilinear a (2 ^ j)) (2 ^ k)) (λ a. bilinear a (bilinear (2 ^ j) (2 ^ k)))
    (λ m n. ap (λ w. bilinear w (2 ^ k)) (product_left (2 ^ j) m n) ∙ product_left (2 ^ k) (bilinear m (2 ^ j)) (bilinear n (2 ^ j))) (product_left (bilinear (2 ^ j) (2 ^ k)))
    (λ i g. eqb→eq _ _ (every_at (assoc_at i j) 8 (every_at (λ j. every (assoc_at i j) 8) 8 (every_at (λ i. every (λ j. every (assoc_at i j) 8) 8) 8 assoc_tested i g) j h) k l)) x p) y q) z r

one_tested : T (every (λ i. nat_eq (bilinear (2 ^ i) 1) (2 ^ i)) 8)
unfolding bilinear
one_tested = tt

pub product_one : (x : ℕ) → x < 256 → bilinear x 1 ≡ x
product_one = additive_agree (λ x. bilinear x 1) (λ x. x) (product_left 1) (λ m n. refl) (λ i h. eqb→eq _ _ (every_at (λ i. nat_eq (bilinear (2 ^ i) 1) (2 ^ i)) 8 one_tested i h))
