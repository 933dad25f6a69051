-- The first word of a text and the words that follow it.
use Rattle.std.proofs.Common.{◌≡◌, ℕ, zero, suc, ◌+◌, ◌<◌, Bool, true, false, cond, not, eqb, List, [], ◌∷◌, length, take, drop, filter, Some, None, sym, refl, ap, ◌∙◌, one-add, arith}
use Rattle.std.proofs.Math.ListN.{drop_of_length-le}
use Rattle.std.proofs.lemmas.List.Quantifiers.{position-Some}
use Rattle.std.proofs.lemmas.List.Sums.{prefix_len-drop_yes, passes_at_first}
use Rattle.std.specs.Option.{unwrap_or}
use Rattle.std.specs.List.{prefix_len, position, position_or_len}
use Rattle.words.specs.Pieces.{some, other, onto, pieces}
use Rattle.words.specs.Words.{words, is_space, after_spaces, first_word, after_word}
use Rattle.words.proofs.Fronts.{leading_past, first_or_len}
use Rattle.words.proofs.Pieces.{later, pieces_front}

spaces_on : (t : Bool) (b : ℕ) (bs : List ℕ) → eqb b 32 ≡ t → words bs ≡ words (after_spaces bs) → words (b ∷ bs) ≡ words (drop (cond (not (not t)) (1 + position_or_len (other 32) bs) 0) (b ∷ bs))
spaces_on true b bs e ih =
    ap (λ t. filter some (cond t ([] ∷ pieces 32 bs) (onto b (pieces 32 bs)))) e ∙ ih ∙ sym (ap (λ n. words (drop n (b ∷ bs))) (one-add (position_or_len (other 32) bs)))
spaces_on false b bs e ih = refl

words_after_spaces : (l : List ℕ) → words l ≡ words (after_spaces l)
words_after_spaces [] = refl
words_after_spaces (b ∷ bs) = spaces_on (eqb b 32) b bs refl (words_after_spaces bs)

-- at a space or at the end there is no word to finish
at_space : (t : Bool) (b : ℕ) (bs : List ℕ) → eqb b 32 ≡ t → cond (not t) (1 + prefix_len (other 32) bs) 0 ≡ 0 → filter some (pieces 32 bs) ≡ words (b ∷ bs)
at_space true b bs e z = sym (ap (λ t. filter some (cond t ([] ∷ pieces 32 bs) (onto b (pieces 32 bs)))) e)
at_space false b bs e z = absurd (omega arith)

words_later : (r : List ℕ) → prefix_len (other 32) r ≡ 0 → filter some (later 32 r) ≡ words r
words_later [] z = refl
words_later (b ∷ bs) z = at_space (eqb b 32) b bs refl z

take_some : (n : ℕ) (r : List ℕ) (ps : List (List ℕ)) → n ≡ prefix_len (other 32) r → 0 < n → filter some (take n r ∷ ps) ≡ take n r ∷ filter some ps
take_some zero r ps e h = absurd (omega arith)
take_some (suc n) [] ps e h = absurd (omega arith)
take_some (suc n) (b ∷ bs) ps e h = refl

words_first : (l : List ℕ) → position_or_len (other 32) l < length l → words l ≡ first_word l ∷ words (after_word l)
words_first l h =
    let r = after_spaces l in
    let letters : 0 < prefix_len (other 32) r = omega (arith, prefix_len-drop_yes (other 32) l _ 0 h (passes_at_first (other 32) l 0 h)) in
    words_after_spaces l ∙ ap (filter some) (pieces_front 32 r) ∙ take_some _ r (later 32 (after_word l)) refl letters
    ∙ ap (λ ps. first_word l ∷ ps) (words_later (after_word l) (leading_past (other 32) r))

-- nothing but spaces
pub no_word : (l : List ℕ) → None ≡ position (other 32) l → (words l ≡ []) × (first_word l ≡ [])
no_word l none =
    let nothing : after_spaces l ≡ [] = drop_of_length-le l (omega (arith, ap (λ o. unwrap_or o (length l)) none, first_or_len (other 32) l)) in
    (words_after_spaces l ∙ ap words nothing, ap (λ r. take (position_or_len is_space r) r) nothing)

-- the first byte other than space stands at n, and the first space of the rest at m, or the rest has m bytes
pub one_word : (l rest : List ℕ) (n m : ℕ) → Some n ≡ position (other 32) l → rest ≡ drop n l → m ≡ position_or_len is_space rest →
    (words l ≡ take m rest ∷ words (drop m rest)) × (take m rest ≡ first_word l) × (drop m rest ≡ after_word l)
one_word l rest n m start left long =
    let within = position-Some (other 32) l n 0 (sym start) in
    let first_is : n ≡ position_or_len (other 32) l = ap (λ o. unwrap_or o (length l)) start ∙ first_or_len (other 32) l in
    let rest_is : rest ≡ after_spaces l = left ∙ ap (λ k. drop k l) first_is in
    let long_is : m ≡ position_or_len is_space (after_spaces l) = long ∙ ap (position_or_len is_space) rest_is in
    let p : take m rest ≡ first_word l = ap (take m) rest_is ∙ ap (λ k. take k (after_spaces l)) long_is in
    let q : drop m rest ≡ after_word l = ap (drop m) rest_is ∙ ap (λ k. drop k (after_spaces l)) long_is in
    (words_first l (omega arith) ∙ sym (ap (λ ws. ws ∷ words (after_word l)) p) ∙ sym (ap (λ r. take m rest ∷ words r) q), p, q)
