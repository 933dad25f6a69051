-- The longest front of a list that passes a test, and what follows it.
use Rattle.std.proofs.Common.{◌≡◌, ℕ, suc, ◌+◌, ◌≤◌, Bool, true, false, cond, not, ltb, ◌&&◌, Some, None, List, [], ◌∷◌, ◌++◌, length, take, drop, refl, ap, ◌∙◌, one-add, arith}
use Rattle.std.proofs.lemmas.List.Sums.{prefix_len-le-length}
use Rattle.std.proofs.lemmas.Bool.{ltb-false, and_from, and_parts, cond-true}
use Rattle.std.specs.Option.{unwrap_or}
use Rattle.std.specs.List.{prefix_len, position, position_or_len}
use Rattle.words.specs.Pieces.{every}

found_or_len : (t : Bool) (k n : ℕ) → ltb k n ≡ t → k ≤ n → unwrap_or (cond t (Some k) None) n ≡ k
found_or_len true k n e h = refl
found_or_len false k n e h = omega (arith, ltb-false k n e)

-- the first place at which p passes, or the length where there is none
pub first_or_len : (p : ℕ → Bool) (xs : List ℕ) → unwrap_or (position p xs) (length xs) ≡ position_or_len p xs
first_or_len p xs = found_or_len (ltb (position_or_len p xs) (length xs)) _ _ refl (prefix_len-le-length (λ x. not (p x)) xs)

front_past : (p : ℕ → Bool) (b : ℕ) (bs : List ℕ) (t : Bool) → p b ≡ t → prefix_len p (drop (prefix_len p bs) bs) ≡ 0 →
    prefix_len p (drop (cond t (1 + prefix_len p bs) 0) (b ∷ bs)) ≡ 0
front_past p b bs true e ih = ap (λ n. prefix_len p (drop n (b ∷ bs))) (one-add (prefix_len p bs)) ∙ ih
front_past p b bs false e ih = ap (λ t. cond t (1 + prefix_len p bs) 0) e

-- past the longest front no byte passes
pub leading_past : (p : ℕ → Bool) (xs : List ℕ) → prefix_len p (drop (prefix_len p xs) xs) ≡ 0
leading_past p [] = refl
leading_past p (b ∷ bs) = front_past p b bs (p b) refl (leading_past p bs)

whole : (p : ℕ → Bool) (b : ℕ) (bs : List ℕ) (t : Bool) → (length bs ≤ prefix_len p bs → every p bs ≡ true) → suc (length bs) ≤ cond t (1 + prefix_len p bs) 0 → (t && every p bs) ≡ true
whole p b bs true ih h = ih (omega arith)
whole p b bs false ih h = absurd (omega arith)

pub every_whole : (p : ℕ → Bool) (xs : List ℕ) → length xs ≤ prefix_len p xs → every p xs ≡ true
every_whole p [] h = refl
every_whole p (b ∷ bs) h = whole p b bs (p b) (every_whole p bs) h

front_passes : (p : ℕ → Bool) (b : ℕ) (bs : List ℕ) (t : Bool) → p b ≡ t → every p (take (prefix_len p bs) bs) ≡ true → every p (take (cond t (1 + prefix_len p bs) 0) (b ∷ bs)) ≡ true
front_passes p b bs true e ih = ap (λ n. every p (take n (b ∷ bs))) (one-add (prefix_len p bs)) ∙ and_from _ _ e ih
front_passes p b bs false e ih = refl

pub every_front : (p : ℕ → Bool) (xs : List ℕ) → every p (take (prefix_len p xs) xs) ≡ true
every_front p [] = refl
every_front p (b ∷ bs) = front_passes p b bs (p b) refl (every_front p bs)

pub every_append : (p : ℕ → Bool) (xs ys : List ℕ) → every p xs ≡ true → every p ys ≡ true → every p (xs ++ ys) ≡ true
every_append p [] ys h k = k
every_append p (b ∷ bs) ys h k = let parts = and_parts (p b) (every p bs) h in and_from _ _ parts.0 (every_append p bs ys parts.1 k)

pub leading_every : (p : ℕ → Bool) (xs : List ℕ) → every p xs ≡ true → prefix_len p xs ≡ length xs
leading_every p [] h = refl
leading_every p (b ∷ bs) h =
    let parts = and_parts (p b) (every p bs) h in
    cond-true (p b) (1 + prefix_len p bs) 0 parts.0 ∙ omega (arith, leading_every p bs parts.1)
