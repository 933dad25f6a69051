-- One repetition more, and the checksum where it is taken.
use Rattle.std.proofs.Common.{◌≡◌, ℕ, ◌+◌, Bool, true, false, sym, refl, subst, ap, ◌∙◌, add-one}
use Rattle.measuring.specs.Repetitions.{Repeated}

module _ {S : Type 0} (step : S → S → Type 0) (sum : S → ℕ → ℕ) where
  pub repeated_more : (n : ℕ) (s u t : S) (d : ℕ) → Repeated step sum n s u d → step u t → Repeated step sum (n + 1) s t (sum t d)
  repeated_more n s u t d before turn = subst (λ m. Repeated step sum m s t (sum t d)) (sym (add-one n)) (u, d, before, turn, refl)

-- a checksum hangs on what stands alone, where that is said
abbrev pub Alone : {S : Type 0} → (S → ℕ → ℕ) → Bool → Type 0
Alone {S} sum alone = alone ≡ true → (s : S) (c d : ℕ) → sum s c ≡ sum s d

-- the checksum r from k is the one from d, where all were taken or each stands alone
pub sums_agree : {S : Type 0} (sum : S → ℕ → ℕ) (alone : Bool) (t : S) (d k r : ℕ) → (alone ≡ false → d ≡ k) → Alone sum alone → r ≡ sum t k → sum t d ≡ r
sums_agree sum false t d k r all alone e = ap (sum t) (all refl) ∙ sym e
sums_agree sum true t d k r all alone e = alone refl t d k ∙ sym e
