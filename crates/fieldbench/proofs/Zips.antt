-- A pass in place, element by element: the first n answers and then the values that are left.
use Rattle.std.proofs.Common.{◌≡◌, ℕ, zero, suc, ◌+◌, ◌<◌, ◌≤◌, List, [], ◌∷◌, length, get_or, set, sym, refl, ap, ◌∙◌, add-one, arith}
use Rattle.fieldbench.specs.Passes.{zipped}

module _ {F X : Type 0} (f : F → X → F) where
  abbrev pub zipped_first : ℕ → List F → List X → List F
  zipped_first zero xs ys = xs
  zipped_first (suc n) [] ys = []
  zipped_first (suc n) (x ∷ xs) [] = x ∷ xs
  zipped_first (suc n) (x ∷ xs) (y ∷ ys) = f x y ∷ zipped_first n xs ys

  zipped_more : (i : ℕ) (xs : List F) (ys : List X) (x : F) (y : X) → i < length xs → i < length ys → x ≡ get_or (zipped_first i xs ys) i x → y ≡ get_or ys i y → set (zipped_first i xs ys) i (f x y) ≡ zipped_first (suc i) xs ys
  zipped_more i [] ys x y h k at by = absurd (omega arith)
  zipped_more i (a ∷ xs) [] x y h k at by = absurd (omega arith)
  zipped_more zero (a ∷ xs) (b ∷ ys) x y h k at by = ap (λ z. f z y ∷ xs) at ∙ ap (λ z. f a z ∷ xs) by
  zipped_more (suc i) (a ∷ xs) (b ∷ ys) x y h k at by = ap (λ zs. f a b ∷ zs) (zipped_more i xs ys x y (omega arith) (omega arith) at by)

  pub zipped_turn : (i : ℕ) (xs : List F) (ys : List X) (vs : List F) (x : F) (y : X) (z : F) → i < length xs → i < length ys → vs ≡ zipped_first i xs ys → x ≡ get_or vs i x → y ≡ get_or ys i y → z ≡ f x y → set vs i z ≡ zipped_first (i + 1) xs ys
  zipped_turn i xs ys vs x y z h k inv at by e =
      ap (set vs i) e ∙ ap (λ w. set w i (f x y)) inv ∙ zipped_more i xs ys x y h k (at ∙ ap (λ w. get_or w i x) inv) by
      ∙ ap (λ n. zipped_first n xs ys) (sym (add-one i))

  zipped_past : (n : ℕ) (xs : List F) (ys : List X) → length xs ≤ n → zipped_first n xs ys ≡ zipped f xs ys
  zipped_past zero [] ys h = refl
  zipped_past zero (x ∷ xs) ys h = absurd (omega arith)
  zipped_past (suc n) [] ys h = refl
  zipped_past (suc n) (x ∷ xs) [] h = refl
  zipped_past (suc n) (x ∷ xs) (y ∷ ys) h = ap (λ zs. f x y ∷ zs) (zipped_past n xs ys (omega arith))

  pub zipped_all : (n : ℕ) (xs : List F) (ys : List X) (vs : List F) → length xs ≤ n → vs ≡ zipped_first n xs ys → vs ≡ zipped f xs ys
  zipped_all n xs ys vs h inv = inv ∙ zipped_past n xs ys h
