-- Repetitions of what is timed, and the checksum of what each leaves.
use Rattle.std.specs.Prelude.{◌≡◌, ℕ, zero, suc}

-- n repetitions lead from s to t, and their checksums, each from the one before, from 0 to c
abbrev pub Repeated : {S : Type 0} → (S → S → Type 0) → (S → ℕ → ℕ) → ℕ → S → S → ℕ → Type 0
Repeated step sum zero s t c = (t ≡ s) × (c ≡ 0)
Repeated {S} step sum (suc n) s t c = (u : S) × (d : ℕ) × Repeated step sum n s u d × step u t × (c ≡ sum t d)
