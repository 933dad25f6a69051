-- The first piece of a list, and the pieces after it.
use Rattle.std.proofs.Common.{◌≡◌, ℕ, ◌+◌, Bool, true, false, cond, not, eqb, List, [], ◌∷◌, take, drop, sym, refl, ap, ◌∙◌, one-add}
use Rattle.std.specs.List.{prefix_len}
use Rattle.words.specs.Pieces.{other, onto, pieces}

-- the pieces behind the place of s that l begins with, if it is not empty
abbrev pub later : ℕ → List ℕ → List (List ℕ)
later s [] = []
later s (b ∷ bs) = pieces s bs

module _ (s : ℕ) where
  abbrev pub front : List ℕ → ℕ
  front l = prefix_len (other s) l

  one_on : (t : Bool) (b : ℕ) (bs : List ℕ) → pieces s bs ≡ take (front bs) bs ∷ later s (drop (front bs) bs) →
      cond t ([] ∷ pieces s bs) (onto b (pieces s bs)) ≡ take (cond (not t) (1 + front bs) 0) (b ∷ bs) ∷ later s (drop (cond (not t) (1 + front bs) 0) (b ∷ bs))
  one_on true b bs ih = refl
  one_on false b bs ih = ap (onto b) ih ∙ sym (ap (λ n. take n (b ∷ bs) ∷ later s (drop n (b ∷ bs))) (one-add (front bs)))

  pub pieces_front : (l : List ℕ) → pieces s l ≡ take (front l) l ∷ later s (drop (front l) l)
  pieces_front [] = refl
  pieces_front (b ∷ bs) = one_on (eqb b s) b bs (pieces_front bs)
