-- Filling a buffer: the points by doubling, and the values of the vanishing polynomial block by block.
use Rattle.std.proofs.Common.{◌≡◌, ℕ, suc, ◌+◌, ◌-◌, ◌*◌, ◌/◌, ◌^◌, ◌<◌, ◌≤◌, ◌≢◌, List, length, get_or, set, refl, sym, ap, ◌∙◌, ap₂, inl, inr, mul-le-mul_right, suc-mul, add-one, arith, get_or-set_other, get_or-set_same, pow_pos, pow_mono, pow-add, below_more}
use native.Mathlib.Nat.{two-pow-succ, mul-div_cancel, div-mul-le_self}
use lib.Bits.{xor_shifted}
use Rattle.std.proofs.lemmas.Bool.{cases_lt}
use Rattle.fields.specs.Field.{Operations, FieldLaws}
use Rattle.fields.specs.Tower.{Level, LevelLaws}
use Rattle.algebra.specs.Points.{basis_element_or_zero, point, phi_power}
use Rattle.algebra.proofs.Points.{point_xor, point_zero}
use Rattle.algebra.proofs.Spans.{phi_power_sum, vanishing_zero_at}
use Rattle.skip_domain.specs.Domains.{vanishing_of}
use Rattle.skip_domain.proofs.Spans.{point_above, phi_power_is_vanishing}

-- two halves of 2 ^ r places lie within 2 ^ e
pub halves_within : (r e h : ℕ) → r < e → h ≡ 2 ^ r → h + h ≤ 2 ^ e
halves_within r e h l q =
    let m : 2 ^ suc r ≤ 2 ^ e = pow_mono l in
    let t = two-pow-succ r in
    omega arith

-- blocks of 2 ^ s fill the places of e dimensions outside the first s
pub blocks_fill : (s e m : ℕ) → s ≤ e → m ≡ 2 ^ (e - s) → (m - 1) * 2 ^ s ≡ 2 ^ e - 2 ^ s
blocks_fill s e m l q =
    let sum : e - s + s ≡ e = omega arith in
    let whole : 2 ^ e ≡ m * 2 ^ s = ap (λ (n : ℕ). 2 ^ n) (sym sum) ∙ pow-add 2 (e - s) s ∙ ap (λ (n : ℕ). n * 2 ^ s) (sym q) in
    let p : 0 < 2 ^ (e - s) = pow_pos (e - s) in
    let one : m ≡ suc (m - 1) = omega arith in
    let split : m * 2 ^ s ≡ (m - 1) * 2 ^ s + 2 ^ s = ap (λ (n : ℕ). n * 2 ^ s) one ∙ suc-mul (m - 1) (2 ^ s) in
    omega arith

-- and each block lies within them
pub block_within : (s e m b z : ℕ) → s ≤ e → m ≡ 2 ^ (e - s) → z ≡ 2 ^ s → b < m - 1 → b * z + z ≤ 2 ^ e - 2 ^ s
block_within s e m b z l q w h =
    let up : suc b * 2 ^ s ≤ (m - 1) * 2 ^ s = mul-le-mul_right (2 ^ s) h in
    let next = suc-mul b (2 ^ s) in
    let all = blocks_fill s e m l q in
    let here : b * z ≡ b * 2 ^ s = ap (λ (n : ℕ). b * n) w in
    omega arith

-- so they do where their number is a quotient
pub blocks_divide : (s e z : ℕ) → s ≤ e → z ≡ 2 ^ s → (2 ^ e - 2 ^ s) / z * z ≡ 2 ^ e - 2 ^ s
blocks_divide s e z l w =
    let rest = sym (blocks_fill s e (2 ^ (e - s)) l refl) in
    ap₂ (λ (n k : ℕ). n / k * k) rest w ∙ ap (λ (n : ℕ). n * 2 ^ s) (mul-div_cancel (2 ^ (e - s) - 1) (pow_pos s)) ∙ sym rest

-- and each lies within them
pub block_divides : (n z b : ℕ) → 0 < z → b < n / z → b * z + z ≤ n
block_divides n z b p h =
    let up : suc b * z ≤ n / z * z = mul-le-mul_right z h in
    let next = suc-mul b z in
    let all : n / z * z ≤ n = div-mul-le_self n z in
    omega arith

-- one element more of a block
pub block_more : {F : Type 0} (xs es : List F) (a i : ℕ) (v d : F) → a + i < length xs
    → ((k : ℕ) → k < a → get_or xs k d ≡ get_or es k d)
    → ((k : ℕ) → k < i → get_or xs (a + k) d ≡ v)
    → ((k : ℕ) → k < a → get_or (set xs (a + i) v) k d ≡ get_or es k d) × ((k : ℕ) → k < i + 1 → get_or (set xs (a + i) v) (a + k) d ≡ v)
block_more xs es a i v d h before block = (
  λ k l. let ne : k ≢ a + i = omega arith in get_or-set_other xs (a + i) k v d ne ∙ before k l,
  below_more _ i (λ k l. let ne : a + k ≢ a + i = omega arith in get_or-set_other xs (a + i) (a + k) v d ne ∙ block k l) (get_or-set_same xs (a + i) v d h),
)

module _ {F : Type 0} {o : Operations F} {l : Level F} (L : FieldLaws o) (V : LevelLaws o l) where
  open o use {zero as 𝟘, sum as ◌⊕◌}

  infixl 30 ◌⊕◌
  pub point_first : (xs : List F) (z : F) → 0 < length xs → z ≡ 𝟘 → (k : ℕ) → k < 1 → get_or (set xs 0 z) k 𝟘 ≡ point o l k
  point_first xs z h e k m =
      let q : k ≡ 0 = omega arith in
      ap (λ n. get_or (set xs 0 z) n 𝟘) q ∙ get_or-set_same xs 0 z 𝟘 h ∙ e ∙ sym (point_zero L V) ∙ ap (point o l) (sym q)

  -- 2 ^ r points, and each of them plus element r of the basis
  pub points_double : (r h : ℕ) (xs ys : List F) (v : F) → h ≡ 2 ^ r → v ≡ basis_element_or_zero o l r
      → ((k : ℕ) → k < 2 ^ r → get_or xs k 𝟘 ≡ point o l k)
      → ((k : ℕ) → k < h → get_or ys k 𝟘 ≡ get_or xs k 𝟘)
      → ((k : ℕ) → k < h → get_or ys (h + k) 𝟘 ≡ get_or xs k 𝟘 ⊕ v)
      → (k : ℕ) → k < 2 ^ (r + 1) → get_or ys k 𝟘 ≡ point o l k
  points_double r h xs ys v q b i kept shifted k m =
      let t : 2 ^ (r + 1) ≡ 2 ^ r + 2 ^ r = ap (λ (n : ℕ). 2 ^ n) (add-one r) ∙ two-pow-succ r in
      elim (cases_lt k (2 ^ r)) [
        | inl a ↦ kept k (omega arith) ∙ i k a
        | inr a ↦
            let low : k - 2 ^ r < 2 ^ r = omega arith in
            let here : h + (k - 2 ^ r) ≡ k = omega arith in
            let there : 2 ^ r + (k - 2 ^ r) ≡ k = omega arith in
            ap (λ n. get_or ys n 𝟘) (sym here) ∙ shifted (k - 2 ^ r) (omega arith) ∙ ap₂ ◌⊕◌ (i (k - 2 ^ r) low) b
            ∙ sym (point_above L V r (k - 2 ^ r) low) ∙ ap (point o l) there
      ]

  -- a shift by a point of the subspace leaves the vanishing polynomial's value
  vanishing_shift : (s d : ℕ) (x : F) → d < 2 ^ s → vanishing_of o l s (x ⊕ point o l d) ≡ vanishing_of o l s x
  vanishing_shift s d x h =
      sym (phi_power_is_vanishing L V s (x ⊕ point o l d)) ∙ phi_power_sum L s x (point o l d)
      ∙ ap (λ w. phi_power o s x ⊕ w) (phi_power_is_vanishing L V s (point o l d) ∙ vanishing_zero_at L (2 ^ s) (point o l) d h)
      ∙ L.ring.sum_zero _ ∙ phi_power_is_vanishing L V s x

  -- points that differ by a point of the subspace have one value
  vanishing_in_block : (s q d : ℕ) → d < 2 ^ s → vanishing_of o l s (point o l (q * 2 ^ s + d)) ≡ vanishing_of o l s (point o l (q * 2 ^ s))
  vanishing_in_block s q d h =
      ap (λ n. vanishing_of o l s (point o l n)) (sym (xor_shifted q s d h)) ∙ ap (vanishing_of o l s) (point_xor L V (q * 2 ^ s) d)
      ∙ vanishing_shift s d (point o l (q * 2 ^ s)) h

  -- one block more
  pub blocks_more : (s b z : ℕ) (xs ys : List F) (v : F) → z ≡ 2 ^ s → v ≡ vanishing_of o l s (point o l (z + b * z))
      → ((k : ℕ) → k < b * 2 ^ s → get_or xs k 𝟘 ≡ vanishing_of o l s (point o l (2 ^ s + k)))
      → ((k : ℕ) → k < b * z → get_or ys k 𝟘 ≡ get_or xs k 𝟘)
      → ((k : ℕ) → k < z → get_or ys (b * z + k) 𝟘 ≡ v)
      → (k : ℕ) → k < (b + 1) * 2 ^ s → get_or ys k 𝟘 ≡ vanishing_of o l s (point o l (2 ^ s + k))
  blocks_more s b z xs ys v w e i before block k h =
      let next : (b + 1) * 2 ^ s ≡ b * 2 ^ s + 2 ^ s = ap (λ (n : ℕ). n * 2 ^ s) (add-one b) ∙ suc-mul b (2 ^ s) in
      let up = suc-mul b (2 ^ s) in
      let wide : b * z ≡ b * 2 ^ s = ap (λ (n : ℕ). b * n) w in
      elim (cases_lt k (b * 2 ^ s)) [
        | inl a ↦ before k (omega arith) ∙ i k a
        | inr a ↦
            let low : k - b * 2 ^ s < 2 ^ s = omega arith in
            let here : b * z + (k - b * 2 ^ s) ≡ k = omega arith in
            let first : z + b * z ≡ suc b * 2 ^ s = omega arith in
            let there : suc b * 2 ^ s + (k - b * 2 ^ s) ≡ 2 ^ s + k = omega arith in
            ap (λ n. get_or ys n 𝟘) (sym here) ∙ block (k - b * 2 ^ s) (omega arith) ∙ e
            ∙ ap (λ n. vanishing_of o l s (point o l n)) first ∙ sym (vanishing_in_block s (suc b) (k - b * 2 ^ s) low)
            ∙ ap (λ n. vanishing_of o l s (point o l n)) there
      ]
