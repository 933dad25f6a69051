-- The carriage return at the end of a line.
use Rattle.std.proofs.Common.{◌≡◌, ℕ, ◌+◌, ◌-◌, ◌<◌, true, false, cond, eqb, List, [], ◌∷◌, ◌++◌, length, get_or, take, sym, ap, ◌∙◌, arith}
use Rattle.std.proofs.lemmas.List.{length_push, get_or_push, take_at, take_all, take_more}
use Rattle.std.proofs.lemmas.Bool.{eqb-true, cond-true, cond-false}
use Rattle.lines.specs.Lines.{ends_in_cr, without_cr}

last_push : (l : List ℕ) (b : ℕ) → length (l ++ b ∷ []) - 1 ≡ length l
last_push l b = omega (arith, length_push l b)

pub ends_in_cr_push : (l : List ℕ) (b : ℕ) → ends_in_cr (l ++ b ∷ []) ≡ eqb b 13
ends_in_cr_push l b = ap (λ x. eqb x 13) (get_or_push l b 0 _ (sym (last_push l b)))

pub without_cr_push : (l : List ℕ) (b : ℕ) → without_cr (l ++ b ∷ []) ≡ cond (eqb b 13) l (l ++ b ∷ [])
without_cr_push l b =
    ap (λ t. cond t (take (length (l ++ b ∷ []) - 1) (l ++ b ∷ [])) (l ++ b ∷ [])) (ends_in_cr_push l b)
    ∙ ap (λ t. cond (eqb b 13) t (l ++ b ∷ [])) (take_at l (b ∷ []) _ (sym (last_push l b)))

pub without_cr_none : (l : List ℕ) → ends_in_cr l ≡ false → without_cr l ≡ l
without_cr_none l e = cond-false _ _ _ e

nonempty : (l : List ℕ) → ends_in_cr l ≡ true → 0 < length l
nonempty [] e = absurd (omega (arith, eqb-true 0 13 e))
nonempty (b ∷ bs) e = omega arith

pub without_cr_back : (l : List ℕ) → ends_in_cr l ≡ true → without_cr l ++ 13 ∷ [] ≡ l
without_cr_back l e =
    let n = length l - 1 in
    let some = nonempty l e in
    let lt : n < length l = omega arith in
    let is : get_or l n 0 ≡ 13 = eqb-true _ 13 e in
    ap (λ t. t ++ 13 ∷ []) (cond-true (ends_in_cr l) (take n l) l e) ∙ ap (λ b. take n l ++ b ∷ []) (sym is) ∙ sym (take_more l n 0 lt) ∙ take_all (n + 1) l (omega arith)
