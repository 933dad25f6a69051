-- Where a line ends in an input.
use Rattle.std.proofs.Common.{◌≡◌, ℕ, ◌+◌, ◌<◌, ◌≤◌, true, eqb, List, [], ◌∷◌, ◌++◌, length, get_or, take, drop, Some, None, Option, sym, refl, ap, ◌∙◌, append_assoc, arith, take-append-drop}
use Rattle.std.proofs.lemmas.List.{drop_more, take_all}
use Rattle.std.proofs.lemmas.List.Quantifiers.{position-Some}
use Rattle.std.proofs.lemmas.Bool.{and_parts, not-true, lt-ltb, le-ltb, eqb-true, cond-true, cond-false}
use Rattle.std.specs.Option.{option_map, unwrap_or}
use Rattle.std.specs.List.{position, position_or_len}
use Rattle.words.specs.Pieces.{every, other, onto, pieces}
use Rattle.lines.specs.Lines.{without_cr, only_line, lines_in, lines_of, lf_free, is_lf, before_lf, through_lf, EndsLine}
use Rattle.words.proofs.Fronts.{first_or_len, every_whole, every_front, every_append, leading_every}
use Rattle.words.proofs.Pieces.{pieces_front}

pieces_other : (s b : ℕ) (l : List ℕ) → other s b ≡ true → pieces s (b ∷ l) ≡ onto b (pieces s l)
pieces_other s b l h = cond-false (eqb b s) _ _ (not-true _ h)

pieces_free : (s : ℕ) (l : List ℕ) → every (other s) l ≡ true → pieces s l ≡ l ∷ []
pieces_free s [] h = refl
pieces_free s (b ∷ bs) h =
    let parts = and_parts (other s b) (every (other s) bs) h in
    pieces_other s b bs parts.0 ∙ ap (onto b) (pieces_free s bs parts.1)

pieces_cut : (l rest : List ℕ) → lf_free l ≡ true → pieces 10 (l ++ 10 ∷ rest) ≡ l ∷ pieces 10 rest
pieces_cut [] rest h = refl
pieces_cut (b ∷ bs) rest h =
    let parts = and_parts (other 10 b) (every (other 10) bs) h in
    pieces_other 10 b (bs ++ 10 ∷ rest) parts.0 ∙ ap (onto b) (pieces_cut bs rest parts.1)

pub lines_free : (l : List ℕ) → lf_free l ≡ true → lines_of l ≡ only_line l
lines_free l h = ap lines_in (pieces_free 10 l h)

-- a line, its line feed and what follows
pub lines_cut : (l rest : List ℕ) → lf_free l ≡ true → lines_of (l ++ 10 ∷ rest) ≡ without_cr l ∷ lines_of rest
lines_cut l rest h =
    let e = pieces_front 10 rest in
    ap lines_in (pieces_cut l rest h ∙ ap (λ ps. l ∷ ps) e) ∙ sym (ap (λ ps. without_cr l ∷ lines_in ps) e)

cut_at : (l : List ℕ) (i : ℕ) → i < length l → get_or l i 0 ≡ 10 → l ≡ take i l ++ 10 ∷ drop (i + 1) l
cut_at l i h lf = sym (take-append-drop i l) ∙ ap (λ t. take i l ++ t) (drop_more l i 0 h ∙ ap (λ b. b ∷ drop (i + 1) l) lf)

-- the place of the first line feed of the input
module _ (input : List ℕ) (place : Option ℕ) (is : place ≡ position is_lf input) where
  pub place_or_len : unwrap_or place (length input) ≡ position_or_len is_lf input
  place_or_len = ap (λ o. unwrap_or o (length input)) is ∙ first_or_len is_lf input

  pub no_place : place ≡ None → lf_free input ≡ true
  no_place e = every_whole (other 10) input (omega (arith, sym (ap (λ o. unwrap_or o (length input)) e) ∙ place_or_len))

-- the first line feed of the input stands after i bytes, or nowhere
module _ (input : List ℕ) where
  pub some_through : (i : ℕ) → i ≡ position_or_len is_lf input → i < length input → Some (i + 1) ≡ through_lf input
  some_through i front h =
      let found = lt-ltb (position_or_len is_lf input) (length input) (omega arith) in
      ap (option_map (λ k. k + 1)) (ap Some front ∙ sym (cond-true _ (Some (position_or_len is_lf input)) None found))

  pub none_through : length input ≤ position_or_len is_lf input → None ≡ through_lf input
  none_through h =
      let none = le-ltb (position_or_len is_lf input) (length input) h in
      ap (option_map (λ k. k + 1)) (sym (cond-false _ (Some (position_or_len is_lf input)) None none))

cut_front : (l : List ℕ) (i : ℕ) → Some i ≡ position is_lf l → l ≡ before_lf l ++ 10 ∷ drop (i + 1) l
cut_front l i e =
    let at = position-Some is_lf l i 0 (sym e) in
    cut_at l i at.0 (eqb-true _ 10 at.1) ∙ ap (λ n. take n l ++ 10 ∷ drop (i + 1) l) (place_or_len l (Some i) e)

-- what the answer of `through_lf` says of the list
pub record Through (l : List ℕ) (n : ℕ) : Type 0 where
  pub within : n ≤ length l
  pub cut : l ≡ before_lf l ++ 10 ∷ drop n l

through_place : (l : List ℕ) (n : ℕ) (place : Option ℕ) → place ≡ position is_lf l → Some n ≡ option_map (λ i. i + 1) place → Through l n
through_place l n None is e = cc
through_place l n (Some i) is e =
    let one : n ≡ i + 1 = cc in
    let at = position-Some is_lf l i 0 (sym is) in
    record { within = omega arith; cut = cut_front l i is ∙ ap (λ k. before_lf l ++ 10 ∷ drop k l) (sym one) }

pub through_some : (l : List ℕ) (n : ℕ) → Some n ≡ through_lf l → Through l n
through_some l n e = through_place l n (position is_lf l) refl e

free_place : (l : List ℕ) (place : Option ℕ) → place ≡ position is_lf l → None ≡ option_map (λ i. i + 1) place → lf_free l ≡ true
free_place l None is e = no_place l None is refl
free_place l (Some i) is e = cc

pub through_none : (l : List ℕ) → None ≡ through_lf l → lf_free l ≡ true
through_none l e = free_place l (position is_lf l) refl e

pub before_lf_free : (l : List ℕ) → lf_free l ≡ true → before_lf l ≡ l
before_lf_free l h = ap (λ n. take n l) (leading_every (other 10) l h) ∙ take_all (length l) l (omega arith)

ends_place : (input : List ℕ) (place : Option ℕ) → place ≡ position is_lf input → EndsLine input (option_map (λ i. i + 1) place)
ends_place input None e = λ l free. lines_free (l ++ input) (every_append (other 10) l input free (no_place input None e refl))
ends_place input (Some i) e = λ l free.
    ap (λ t. lines_of (l ++ t)) (cut_front input i e) ∙ ap lines_of (sym (append_assoc l (before_lf input) (10 ∷ drop (i + 1) input)))
    ∙ lines_cut (l ++ before_lf input) (drop (i + 1) input) (every_append (other 10) l (before_lf input) free (every_front (other 10) input))

pub ends_line : (input : List ℕ) → EndsLine input (through_lf input)
ends_line input = ends_place input (position is_lf input) refl
