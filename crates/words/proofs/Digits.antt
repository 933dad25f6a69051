-- A row read two digits at a time.
use Rattle.std.proofs.Common.{◌≡◌, ℕ, zero, suc, ◌+◌, ◌*◌, ◌/◌, ◌<◌, ◌≤◌, cond, eqb, List, [], ◌∷◌, ◌++◌, length, get_or, drop, Some, None, Option, sym, refl, ap, ◌∙◌, append_assoc, append-nil, arith}
use Rattle.std.specs.Option.{option_map}
use Rattle.std.specs.Simd.{first_chunks}
use Rattle.std.proofs.lemmas.List.{at_drop_more, at_drop_all}
use Rattle.words.specs.Digits.{byte_written, before, bytes_of}

abbrev pub byte_at : List (List ℕ) → ℕ → Option ℕ
byte_at pairs i = byte_written (get_or (get_or pairs i []) 0 0) (get_or (get_or pairs i []) 1 0)

-- the bytes of the pairs in front of what the digits after them write
abbrev pub written : List (List ℕ) → Option (List ℕ) → Option (List ℕ)
written [] last = last
written (p ∷ ps) last = before (byte_written (get_or p 0 0) (get_or p 1 0)) (written ps last)

in_pairs : (k : ℕ) (ds : List ℕ) → k * 2 ≤ length ds → bytes_of ds ≡ written (first_chunks 2 k ds) (bytes_of (drop (k * 2) ds))
in_pairs zero ds h = refl
in_pairs (suc k) [] h = absurd (omega arith)
in_pairs (suc k) (x ∷ []) h = absurd (omega arith)
in_pairs (suc k) (x ∷ y ∷ ds) h =
    let e : suc (suc (k * 2)) ≡ suc k * 2 = omega arith in
    ap (before (byte_written x y)) (in_pairs k ds (omega arith)) ∙ ap (λ n. before (byte_written x y) (written (first_chunks 2 k ds) (bytes_of (drop n (x ∷ y ∷ ds))))) e

nothing_before : (o : Option (List ℕ)) → o ≡ option_map (λ r. [] ++ r) o
nothing_before None = refl
nothing_before (Some x) = refl

onto : (bs : List ℕ) (b : ℕ) (r : Option (List ℕ)) → option_map (λ x. bs ++ x) (before (Some b) r) ≡ option_map (λ x. (bs ++ b ∷ []) ++ x) r
onto bs b None = refl
onto bs b (Some x) = ap (λ l. Some l) (sym (append_assoc bs (b ∷ []) x))

last_digits : (bs odd : List ℕ) → length odd < 2 → option_map (λ x. bs ++ x) (bytes_of odd) ≡ cond (eqb (length odd) 0) (Some bs) None
last_digits bs [] h = ap Some (append-nil bs)
last_digits bs (x ∷ []) h = refl
last_digits bs (x ∷ y ∷ ds) h = absurd (omega arith)

module _ (ds : List ℕ) (pairs : List (List ℕ)) (odd : List ℕ) where
  -- the first i pairs of digits write the bytes bs
  pub record Read (i : ℕ) (bs : List ℕ) : Type 0 where
    pub sofar : bytes_of ds ≡ option_map (λ r. bs ++ r) (written (drop i pairs) (bytes_of odd))

  pub read_none : (bs : List ℕ) → bs ≡ [] → pairs ≡ first_chunks 2 (length ds / 2) ds → odd ≡ drop (length ds / 2 * 2) ds → Read 0 bs
  read_none bs e p o = record {
    sofar = in_pairs (length ds / 2) ds (omega arith) ∙ ap (λ ps. written ps (bytes_of (drop (length ds / 2 * 2) ds))) (sym p) ∙ ap (λ l. written pairs (bytes_of l)) (sym o)
        ∙ nothing_before (written pairs (bytes_of odd)) ∙ sym (ap (λ l. option_map (λ r. l ++ r) (written pairs (bytes_of odd))) e);
  }

  module _ (i : ℕ) (bs : List ℕ) (read : Read i bs) where
    next : i < length pairs → bytes_of ds ≡ option_map (λ r. bs ++ r) (before (byte_at pairs i) (written (drop (i + 1) pairs) (bytes_of odd)))
    next h = read.sofar ∙ at_drop_more (λ ps. option_map (λ r. bs ++ r) (written ps (bytes_of odd))) pairs i [] h

    pub read_more : (b : ℕ) (cs : List ℕ) → i < length pairs → byte_at pairs i ≡ Some b → cs ≡ bs ++ b ∷ [] → Read (i + 1) cs
    read_more b cs h e p =
        let rest = written (drop (i + 1) pairs) (bytes_of odd) in
        record { sofar = next h ∙ ap (λ o. option_map (λ r. bs ++ r) (before o rest)) e ∙ onto bs b rest ∙ ap (λ l. option_map (λ x. l ++ x) rest) (sym p) }

    pub read_refused : i < length pairs → byte_at pairs i ≡ None → None ≡ bytes_of ds
    read_refused h e = sym (next h ∙ ap (λ o. option_map (λ r. bs ++ r) (before o (written (drop (i + 1) pairs) (bytes_of odd)))) e)

    pub read_all : length pairs ≤ i → length odd < 2 → cond (eqb (length odd) 0) (Some bs) None ≡ bytes_of ds
    read_all h short = sym (read.sofar ∙ at_drop_all (λ ps. option_map (λ r. bs ++ r) (written ps (bytes_of odd))) pairs i h ∙ last_digits bs odd short)
