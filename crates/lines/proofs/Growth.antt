-- What a buffer knows of a line when one more byte comes.
use Rattle.std.proofs.Common.{◌≡◌, ℕ, zero, suc, ◌+◌, min, Bool, true, false, cond, ◌&&◌, eqb, ltb, leb, List, [], ◌∷◌, ◌++◌, length, take, sym, refl, ap, ◌∙◌, arith}
use Rattle.std.proofs.lemmas.List.{length_push}
use Rattle.std.proofs.lemmas.Bool.{ltb-true, le-leb, eqb-true, ne_eqb, cond-false, and_parts, and_from}
use Rattle.std.proofs.lemmas.Bool.Decides.{nat_tests}
use Rattle.lines.specs.declared.line.Content.{Content}
use Rattle.lines.specs.declared.line.Content.TheVariants.{Blank, Readable, Unfit}
use Rattle.words.specs.Pieces.{every}
use Rattle.lines.specs.Lines.{space, printable, is_readable}
use Rattle.lines.specs.Buffers.{content_of}

and_assoc : (a b c : Bool) → (a && (b && c)) ≡ ((a && b) && c)
and_assoc true b c = refl
and_assoc false b c = refl

and_true : (a : Bool) → (a && true) ≡ a
and_true true = refl
and_true false = refl

pub every_push : (p : ℕ → Bool) (l : List ℕ) (b : ℕ) → every p (l ++ b ∷ []) ≡ (every p l && p b)
every_push p [] b = and_true (p b)
every_push p (x ∷ xs) b = ap (λ t. p x && t) (every_push p xs b) ∙ and_assoc (p x) (every p xs) (p b)

-- what a buffer keeps when one more byte comes
pub front_push : (n : ℕ) (l : List ℕ) (b : ℕ) → take n (take n l ++ b ∷ []) ≡ take n (l ++ b ∷ [])
front_push zero l b = refl
front_push (suc n) [] b = refl
front_push (suc n) (x ∷ xs) b = ap (λ t. x ∷ t) (front_push n xs b)

room : (e l p k : Bool) → (k ≡ true → l ≡ true) → ((e && l) && (p && k)) ≡ ((e && p) && k)
room true true p k h = refl
room true false true true h = h refl
room true false true false h = refl
room true false false k h = refl
room false l p k h = refl

readable_push : (l : List ℕ) (len b : ℕ) → len ≡ min 16384 (length l) → (is_readable l && (printable b && ltb len 16384)) ≡ is_readable (l ++ b ∷ [])
readable_push l len b count =
    let one : length (l ++ b ∷ []) ≡ length l + 1 = length_push l b in
    let here : ltb len 16384 ≡ leb (length (l ++ b ∷ [])) 16384 = grind (arith, nat_tests) in
    let more : ltb len 16384 ≡ true → leb (length l) 16384 ≡ true = λ e. le-leb (length l) 16384 (omega (arith, ltb-true len 16384 e)) in
    room (every printable l) (leb (length l) 16384) (printable b) (ltb len 16384) more
    ∙ ap (λ t. (every printable l && printable b) && t) here ∙ sym (ap (λ t. t && leb (length (l ++ b ∷ [])) 16384) (every_push printable l b))

spaces_printable : (l : List ℕ) → every space l ≡ true → every printable l ≡ true
spaces_printable [] h = refl
spaces_printable (x ∷ xs) h =
    let parts = and_parts (space x) (every space xs) h in
    and_from _ _ (ap printable (eqb-true x 32 parts.0)) (spaces_printable xs parts.1)

abbrev sort : Bool → Bool → Content
sort blank readable = cond blank Blank (cond readable Readable Unfit)

-- what the content becomes with a byte that may be a space, and one that a text may have here
abbrev next : Content → Bool → Bool → Content
next Blank blank fits = cond blank Blank (cond fits Readable Unfit)
next Readable blank fits = cond fits Readable Unfit
next Unfit blank fits = Unfit

sorted : (s r blank fits : Bool) → (s ≡ true → fits ≡ true → r ≡ true) → next (sort s r) blank fits ≡ sort (s && blank) (r && fits)
sorted true r true fits m = refl
sorted true true false fits m = refl
sorted true false false true m = let z = m refl refl in cc
sorted true false false false m = refl
sorted false true blank fits m = refl
sorted false false blank fits m = refl

-- the content of a line with one more byte, where `kept` of its bytes are kept
module _ (k : Content) (l : List ℕ) (b kept : ℕ) (is : k ≡ content_of l) (count : kept ≡ min 16384 (length l)) where
  goes_on : (j : Content) → k ≡ j → next j (eqb b 32) (printable b && ltb kept 16384) ≡ content_of (l ++ b ∷ [])
  goes_on j e =
      let fits = printable b && ltb kept 16384 in
      let room : every space l ≡ true → fits ≡ true → is_readable l ≡ true =
      λ s f. and_from _ _ (spaces_printable l s) (le-leb (length l) 16384 (omega (arith, count, ltb-true kept 16384 (and_parts (printable b) _ f).1))) in
      ap (λ x. next x (eqb b 32) fits) (sym e ∙ is) ∙ sorted (every space l) (is_readable l) (eqb b 32) fits room
      ∙ ap (λ t. sort t (is_readable l && fits)) (sym (every_push space l b)) ∙ ap (sort (every space (l ++ b ∷ []))) (readable_push l kept b count)

  pub text_first : k ≡ Blank → (b ≡ 32 → ⊥) → cond (printable b && ltb kept 16384) Readable Unfit ≡ content_of (l ++ b ∷ [])
  text_first e other = sym (cond-false _ _ _ (ne_eqb b 32 other)) ∙ goes_on Blank e

  pub text_on : k ≡ Readable → cond (printable b && ltb kept 16384) Readable Unfit ≡ content_of (l ++ b ∷ [])
  text_on e = goes_on Readable e
