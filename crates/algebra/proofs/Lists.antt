-- Sums over a list: equal, additive, scaled, joined, swapped, and by places.
use Rattle.std.proofs.Common.{◌≡◌, ℕ, List, [], ◌∷◌, ◌++◌, map, length, get_or, sym, refl, ap, ◌∙◌, ap₂}
use Rattle.fields.specs.Field.{Operations, FieldLaws}
use Rattle.fields.specs.Rings.{zero_sum, product_zero}
use Rattle.algebra.specs.Sums.{sum_below, sum_over}
use Rattle.algebra.proofs.Identities.{ring}
use Rattle.algebra.proofs.Sums.{sum_none, sum_add, sum_from_first}

module _ {F X : Type 0} {o : Operations F} (L : FieldLaws o) where
  open o use {zero as 𝟘, sum as ◌⊕◌, product as ◌⊗◌}

  infixl 30 ◌⊕◌
  infixl 40 ◌⊗◌
  pub sum_over_same : (f g : X → F) (xs : List X) → ((x : X) → f x ≡ g x) → sum_over o f xs ≡ sum_over o g xs
  sum_over_same f g [] h = refl
  sum_over_same f g (x ∷ xs) h = ap₂ ◌⊕◌ (h x) (sum_over_same f g xs h)

  pub sum_over_add : (f g : X → F) (xs : List X) → sum_over o (λ x. f x ⊕ g x) xs ≡ sum_over o f xs ⊕ sum_over o g xs
  sum_over_add f g [] = sym (L.ring.sum_zero 𝟘)
  sum_over_add f g (x ∷ xs) = ap (λ w. (f x ⊕ g x) ⊕ w) (sum_over_add f g xs) ∙ simp (ring, L.ring)

  pub sum_over_scale : (c : F) (f : X → F) (xs : List X) → sum_over o (λ x. c ⊗ f x) xs ≡ c ⊗ sum_over o f xs
  sum_over_scale c f [] = sym (product_zero L.ring c)
  sum_over_scale c f (x ∷ xs) = ap (λ w. c ⊗ f x ⊕ w) (sum_over_scale c f xs) ∙ sym (L.ring.product_sum _ _ _)

  pub sum_over_append : (f : X → F) (xs ys : List X) → sum_over o f (xs ++ ys) ≡ sum_over o f xs ⊕ sum_over o f ys
  sum_over_append f [] ys = sym (zero_sum L.ring _)
  sum_over_append f (x ∷ xs) ys = ap (λ w. f x ⊕ w) (sum_over_append f xs ys) ∙ sym (L.ring.sum_assoc _ _ _)

  pub sum_over_swap : (n : ℕ) (f : X → ℕ → F) (xs : List X) → sum_over o (λ x. sum_below o n (f x)) xs ≡ sum_below o n (λ i. sum_over o (λ x. f x i) xs)
  sum_over_swap n f [] = sym (sum_none L n (λ i. 𝟘) (λ i l. refl))
  sum_over_swap n f (x ∷ xs) = ap (λ w. sum_below o n (f x) ⊕ w) (sum_over_swap n f xs) ∙ sym (sum_add L n (f x) (λ i. sum_over o (λ z. f z i) xs))

  pub sum_over_places : (f : X → F) (xs : List X) (d : X) → sum_over o f xs ≡ sum_below o (length xs) (λ i. f (get_or xs i d))
  sum_over_places f [] d = refl
  sum_over_places f (x ∷ xs) d = ap (λ w. f x ⊕ w) (sum_over_places f xs d) ∙ sym (sum_from_first L (length xs) (λ i. f (get_or (x ∷ xs) i d)))

module _ {F X Y : Type 0} (o : Operations F) where
  pub sum_over_map : (f : Y → F) (g : X → Y) (xs : List X) → sum_over o f (map g xs) ≡ sum_over o (λ x. f (g x)) xs
  sum_over_map f g [] = refl
  sum_over_map f g (x ∷ xs) = ap (o.sum (f (g x))) (sum_over_map f g xs)
