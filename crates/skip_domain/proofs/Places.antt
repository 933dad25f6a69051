-- Different numbers below n take every place below n.
use Rattle.std.proofs.Common.{◌≡◌, ℕ, zero, suc, ◌<◌, cond, eqb, ◌≢◌, ◌⊎◌, sym, ◌∙◌, inl, inr, arith}
use native.Mathlib.Decide.{ℕ_discrete}
use Rattle.std.proofs.lemmas.Bool.{eq-eqb, ne_eqb, cond-true, cond-false}

-- m in the place of n
moved : ℕ → ℕ → ℕ → ℕ
moved n m x = cond (eqb x n) m x

moved_cases : (n m x : ℕ) → ((x ≡ n) × (moved n m x ≡ m)) ⊎ ((x ≢ n) × (moved n m x ≡ x))
unfolding moved
moved_cases n m x = elim (ℕ_discrete x n) [
  | yes e ↦ inl (e, cond-true _ _ _ (eq-eqb x n e))
  | no d ↦ inr (d, cond-false _ _ _ (ne_eqb x n d))
]

-- n different numbers below n leave no place c out
pub none_left_out : (n : ℕ) (f : ℕ → ℕ) (c : ℕ) → c < n → ((i : ℕ) → i < n → f i < n) → ((i : ℕ) → i < n → f i ≢ c)
    → ((i j : ℕ) → i < n → j < n → f i ≡ f j → i ≡ j) → ⊥
none_left_out zero f c h b d s = omega arith
none_left_out (suc n) f c h b d s = none_left_out n (λ i. moved n (f n) (f i)) (moved n (f n) c) left below apart same
  where
    last : f n < suc n
    last = b n (omega arith)

    -- only the last number is at its own place
    not_last : (i : ℕ) → i < n → f i ≡ f n → ⊥
    not_last i k e = let q : i ≡ n = s i n (omega arith) (omega arith) e in omega arith

    left : moved n (f n) c < n
    left = elim (moved_cases n (f n) c) [
      | inl p ↦ let q : f n ≢ c = d n (omega arith) in let e : c ≡ n = p.0 in let r : moved n (f n) c ≡ f n = p.1 in omega arith
      | inr p ↦ let e : c ≢ n = p.0 in let r : moved n (f n) c ≡ c = p.1 in omega arith
    ]

    below : (i : ℕ) → i < n → moved n (f n) (f i) < n
    below i k = elim (moved_cases n (f n) (f i)) [
      | inl p ↦ let q : f n ≢ n = λ e. not_last i k (p.0 ∙ sym e) in let r : moved n (f n) (f i) ≡ f n = p.1 in omega arith
      | inr p ↦ let a : f i < suc n = b i (omega arith) in let e : f i ≢ n = p.0 in let r : moved n (f n) (f i) ≡ f i = p.1 in omega arith
    ]

    apart : (i : ℕ) → i < n → moved n (f n) (f i) ≢ moved n (f n) c
    apart i k e = elim (moved_cases n (f n) (f i)) [
      | inl p ↦ elim (moved_cases n (f n) c) [
        | inl q ↦ d i (omega arith) (p.0 ∙ sym q.0)
        | inr q ↦ d n (omega arith) (sym p.1 ∙ e ∙ q.1)
      ]
      | inr p ↦ elim (moved_cases n (f n) c) [
        | inl q ↦ not_last i k (sym p.1 ∙ e ∙ q.1)
        | inr q ↦ d i (omega arith) (sym p.1 ∙ e ∙ q.1)
      ]
    ]

    same : (i j : ℕ) → i < n → j < n → moved n (f n) (f i) ≡ moved n (f n) (f j) → i ≡ j
    same i j k m e = elim (moved_cases n (f n) (f i)) [
      | inl p ↦ elim (moved_cases n (f n) (f j)) [
        | inl q ↦ s i j (omega arith) (omega arith) (p.0 ∙ sym q.0)
        | inr q ↦ absurd (not_last j m (sym q.1 ∙ sym e ∙ p.1))
      ]
      | inr p ↦ elim (moved_cases n (f n) (f j)) [
        | inl q ↦ absurd (not_last i k (sym p.1 ∙ e ∙ q.1))
        | inr q ↦ s i j (omega arith) (omega arith) (sym p.1 ∙ e ∙ q.1)
      ]
    ]
