-- The generator splitmix64: a state that grows by a constant, and a mix of its bits.
use Rattle.std.specs.Prelude.{◌≡◌, ◌⊎◌, ℕ, zero, suc, ◌+◌, ◌*◌, ◌/◌, ◌%◌, ◌^◌, bit_xor, List, [], ◌∷◌, ◌++◌}
use Rattle.fields.specs.Field.{Operations}
use Rattle.fields.specs.Tower.{Level, width}

abbrev pub next_state : ℕ → ℕ
next_state s = (s + 0x9e37_79b9_7f4a_7c15) % 2 ^ 64

-- the bits shifted down onto themselves, times a factor
abbrev pub stirred : ℕ → ℕ → ℕ → ℕ
stirred shift factor z = bit_xor z (z / 2 ^ shift) * factor % 2 ^ 64

abbrev pub mixed : ℕ → ℕ
mixed s =
    let z = stirred 27 0x94d0_49bb_1331_11eb (stirred 30 0xbf58_476d_1ce4_e5b9 s) in
    bit_xor z (z / 2 ^ 31)

-- the state after so many numbers
abbrev pub state_after : ℕ → ℕ → ℕ
state_after s zero = s
state_after s (suc n) = next_state (state_after s n)

-- the low bits of each of the next n numbers
abbrev pub low_bytes : ℕ → ℕ → List ℕ
low_bytes s zero = []
low_bytes s (suc n) = low_bytes s n ++ mixed (state_after s (suc n)) % 256 ∷ []

-- the element of that number cut to the width, or one where that is zero
abbrev pub Drawn : {F : Type 0} → Operations F → Level F → ℕ → F → Type 0
Drawn o l n x = (l.number x ≡ n % 2 ^ width l) ⊎ ((n % 2 ^ width l ≡ 0) × (x ≡ o.one))

-- the elements of the next n numbers, in turn
abbrev pub DrawnInTurn : {F : Type 0} → Operations F → Level F → ℕ → ℕ → List F → Type 0
DrawnInTurn o l s zero xs = xs ≡ []
DrawnInTurn {F} o l s (suc n) xs =
    (ys : List F) × (y : F) × DrawnInTurn o l s n ys × Drawn o l (mixed (state_after s (suc n))) y × (xs ≡ ys ++ y ∷ [])
