-- One number more, and one byte or element more, drawn in turn.
use Rattle.std.proofs.Common.{◌≡◌, ◌≢◌, ℕ, ◌+◌, ◌%◌, ◌<◌, List, [], ◌∷◌, ◌++◌, All, length, take, set, sym, subst, ap, ◌∙◌, add-one}
use Rattle.std.proofs.lemmas.List.{take_more_set}
use Rattle.std.proofs.lemmas.List.Elements.{All-push}
use Rattle.fields.specs.Field.{Operations}
use Rattle.fields.specs.Tower.{Level}
use Rattle.measuring.specs.Splitmix.{next_state, mixed, state_after, low_bytes, Drawn, DrawnInTurn}

pub one_later : (s n t u : ℕ) → t ≡ state_after s n → u ≡ next_state t → u ≡ state_after s (n + 1)
one_later s n t u at next = subst (λ m. u ≡ state_after s m) (sym (add-one n)) (next ∙ ap next_state at)

pub byte_more : (s n t : ℕ) (xs : List ℕ) (r : ℕ) → n < length xs → t ≡ state_after s n → take n xs ≡ low_bytes s n → r ≡ mixed (next_state t) → take (n + 1) (set xs n (r % 256)) ≡ low_bytes s (n + 1)
byte_more s n t xs r within at before number =
    take_more_set xs n (r % 256) within ∙ ap (λ bs. bs ++ r % 256 ∷ []) before ∙ ap (λ b. low_bytes s n ++ b % 256 ∷ []) (number ∙ ap (λ u. mixed (next_state u)) at)
    ∙ ap (low_bytes s) (sym (add-one n))

pub drawn_more : {F : Type 0} (o : Operations F) (l : Level F) (s n t : ℕ) (xs : List F) (y : F) → n < length xs → t ≡ state_after s n → DrawnInTurn o l s n (take n xs) → Drawn o l (mixed (next_state t)) y → DrawnInTurn o l s (n + 1) (take (n + 1) (set xs n y))
drawn_more o l s n t xs y within at before drawn =
    subst (λ m. DrawnInTurn o l s m (take (n + 1) (set xs n y))) (sym (add-one n)) (take n xs, y, before, subst (λ u. Drawn o l (mixed (next_state u)) y) at drawn, take_more_set xs n y within)

pub nonzero_more : {F : Type 0} (zero : F) (n : ℕ) (xs : List F) (y : F) → n < length xs → All (λ x. x ≢ zero) (take n xs) → y ≢ zero → All (λ x. x ≢ zero) (take (n + 1) (set xs n y))
nonzero_more zero n xs y within before last = subst (All (λ x. x ≢ zero)) (sym (take_more_set xs n y within)) (All-push (λ x. x ≢ zero) (take n xs) y before last)
