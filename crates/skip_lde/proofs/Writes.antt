-- Loops that write one place after another: what stands before the place is done, the rest is as it was.
use Rattle.std.proofs.Common.{◌≡◌, ℕ, ◌+◌, ◌-◌, ◌*◌, ◌/◌, ◌<◌, ◌≤◌, ◌≢◌, List, ◌++◌, length, get_or, take, drop, set, sym, ap, ◌∙◌, inl, inr, arith, get_or-set_other, get_or-set_same, below_more}
use borrow.Rule.Slice.PartMut.{put_mid, post_of}
use Rattle.std.proofs.lemmas.List.{get_or_append_left, get_or-append-add, get_or-append_right, get_or-take, get_or-drop, length-take-le}
use Rattle.std.proofs.lemmas.Nat.{mul-le, mul-add-lt, div-add-mod'}
use Rattle.std.proofs.lemmas.Bool.{cases_lt}

module _ {F : Type 0} (z : F) (xs : List F) (i : ℕ) (y : F) where
  pub written : (f : ℕ → F) → i < length xs → ((k : ℕ) → k < i → get_or xs k z ≡ f k) → y ≡ f i → (k : ℕ) → k < i + 1 → get_or (set xs i y) k z ≡ f k
  written f l done e =
      below_more (λ k. get_or (set xs i y) k z ≡ f k) i
      (λ k h. let d : k ≢ i = omega arith in get_or-set_other xs i k y z d ∙ done k h)
      (get_or-set_same xs i y z l ∙ e)

  pub unwritten : (g : ℕ → F) → ((k : ℕ) → i ≤ k → get_or xs k z ≡ g k) → (k : ℕ) → i + 1 ≤ k → get_or (set xs i y) k z ≡ g k
  unwritten g rest k h = let d : k ≢ i = omega arith in get_or-set_other xs i k y z d ∙ rest k (omega arith)

-- a list ys written over the places of xs from a on
module _ {F : Type 0} (a w : ℕ) (xs ys : List F) (z : F) (l : a ≤ length xs) where
  pub within_part : (k : ℕ) → k < length ys → get_or (put_mid a w xs ys) (a + k) z ≡ get_or ys k z
  within_part k h =
      let e = length-take-le a xs l in
      ap (λ m. get_or (put_mid a w xs ys) (m + k) z) (sym e) ∙ get_or-append-add (take a xs) (ys ++ post_of a w xs) k z ∙ get_or_append_left ys (post_of a w xs) z k h

  pub before_part : (p : ℕ) → p < a → get_or (put_mid a w xs ys) p z ≡ get_or xs p z
  before_part p h =
      let e = length-take-le a xs l in
      get_or_append_left (take a xs) (ys ++ post_of a w xs) z p (omega arith) ∙ get_or-take a xs p z h

-- row r of n places, after the rows before it
pub row_written : {F : Type 0} (z : F) (xs ys : List F) (at w r n : ℕ) (f : ℕ → ℕ → F) → at ≡ r * n → at ≤ length xs → n ≤ length ys
    → ((q i : ℕ) → q < r → i < n → get_or xs (q * n + i) z ≡ f q i) → ((i : ℕ) → i < n → get_or ys i z ≡ f r i)
    → (q i : ℕ) → q < r + 1 → i < n → get_or (put_mid at w xs ys) (q * n + i) z ≡ f q i
row_written z xs ys at w r n f e l m before here q i h k = elim (cases_lt q r) [
  | inl d ↦ before_part at w xs ys z l (q * n + i) (omega (arith, mul-add-lt q n i r d k)) ∙ before q i d k
  | inr d ↦
      let s : q ≡ r = omega arith in
      let p : q * n + i ≡ at + i = ap (λ x. x * n + i) s ∙ omega arith in
      ap (λ x. get_or (put_mid at w xs ys) x z) p ∙ within_part at w xs ys z l i (omega arith) ∙ here i k ∙ ap (λ x. f x i) (sym s)
]

-- row r of the whole rows among b places
pub row_within : (r w b : ℕ) → r < b / w → r * w + w ≤ b
row_within r w b h = let d = div-add-mod' b w in let m = mul-le (r + 1) w (b / w) w (omega arith) (omega arith) in omega arith

-- row r of c rows
pub row_among : (r n c : ℕ) → r < c → r * n + n ≤ c * n
row_among r n c h = let m = mul-le (r + 1) n c n (omega arith) (omega arith) in omega arith

-- a list of three parts: the middle one from a on, and the last one as it stands in the rest zs
pub middle_part : {F : Type 0} (z : F) (xs ys zs : List F) (a : ℕ) → length xs ≡ a → (k : ℕ) → k < length ys → get_or (xs ++ (ys ++ zs)) (a + k) z ≡ get_or ys k z
middle_part z xs ys zs a e k h =
    ap (λ m. get_or (xs ++ (ys ++ zs)) (m + k) z) (sym e) ∙ get_or-append-add xs (ys ++ zs) k z ∙ get_or_append_left ys zs z k h

pub last_part : {F : Type 0} (z : F) (xs ys zs : List F) (a n : ℕ) → length xs ≡ a → length ys ≡ n → (p : ℕ) → a + n ≤ p → get_or (xs ++ (ys ++ drop n zs)) p z ≡ get_or (xs ++ zs) p z
last_part z xs ys zs a n e f p h =
    let k : n + (p - a - n) ≡ p - a = omega arith in
    get_or-append_right xs (ys ++ drop n zs) a p z e (omega arith) ∙ get_or-append_right ys (drop n zs) n (p - a) z f (omega arith)
    ∙ get_or-drop n zs (p - a - n) z ∙ ap (λ i. get_or zs i z) k ∙ sym (get_or-append_right xs zs a p z e (omega arith))

-- place i of row r, in the first v rows of n places
pub earlier_row : {F : Type 0} (z : F) (xs ys : List F) (v n r i : ℕ) → xs ≡ take (v * n) ys → r < v → i < n → get_or (take (r * n + n - r * n) (drop (r * n) xs)) i z ≡ get_or ys (r * n + i) z
earlier_row z xs ys v n r i e h k =
    let w : r * n + n - r * n ≡ n = omega arith in
    ap (λ m. get_or (take m (drop (r * n) xs)) i z) w ∙ get_or-take n (drop (r * n) xs) i z k ∙ get_or-drop (r * n) xs i z
    ∙ ap (λ l. get_or l (r * n + i) z) e ∙ get_or-take (v * n) ys (r * n + i) z (omega (arith, mul-add-lt r n i v h k))
