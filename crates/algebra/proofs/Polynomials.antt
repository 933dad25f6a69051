-- Arithmetic of coefficient lists: sum, multiple and product, with their values and lengths.
use Rattle.std.proofs.Common.{◌≡◌, ℕ, zero, suc, ◌+◌, ◌≤◌, List, [], ◌∷◌, length, get_or, sym, refl, ap, ◌∙◌, ap₂, arith}
use Rattle.fields.specs.Field.{Operations, FieldLaws}
use Rattle.fields.specs.Rings.{zero_sum, product_zero, zero_product}
use Rattle.algebra.specs.Polynomials.{value_at}
use Rattle.algebra.proofs.Identities.{ring}

module _ {F : Type 0} (o : Operations F) where
  abbrev pub added : List F → List F → List F
  added [] q = q
  added (a ∷ p) [] = a ∷ p
  added (a ∷ p) (b ∷ q) = o.sum a b ∷ added p q

  abbrev pub scaled : F → List F → List F
  scaled c [] = []
  scaled c (a ∷ p) = o.product c a ∷ scaled c p

  abbrev pub multiplied : List F → List F → List F
  multiplied [] q = []
  multiplied (a ∷ p) q = added (scaled a q) (o.zero ∷ multiplied p q)

  pub length_added : (p q : List F) (n : ℕ) → length p ≤ n → length q ≤ n → length (added p q) ≤ n
  length_added [] q n h k = k
  length_added (a ∷ p) [] n h k = h
  length_added (a ∷ p) (b ∷ q) zero h k = absurd (omega arith)
  length_added (a ∷ p) (b ∷ q) (suc n) h k = let r : length (added p q) ≤ n = length_added p q n (omega arith) (omega arith) in omega arith

  pub length_scaled : (c : F) (p : List F) → length (scaled c p) ≡ length p
  length_scaled c [] = refl
  length_scaled c (a ∷ p) = ap suc (length_scaled c p)

  -- degrees n and m give degree n + m
  pub length_multiplied : (p q : List F) (n m : ℕ) → length p ≤ suc n → length q ≤ suc m → length (multiplied p q) ≤ suc (n + m)
  length_multiplied [] q n m h k = omega arith
  length_multiplied (a ∷ []) q n m h k = length_added (scaled a q) (o.zero ∷ []) (suc (n + m)) (rw length_scaled (omega arith)) (omega arith)
  length_multiplied (a ∷ b ∷ p) q zero m h k = absurd (omega arith)
  length_multiplied (a ∷ b ∷ p) q (suc n) m h k =
      let r : length (multiplied (b ∷ p) q) ≤ suc (n + m) = length_multiplied (b ∷ p) q n m (omega arith) k in
      length_added (scaled a q) (o.zero ∷ multiplied (b ∷ p) q) (suc (suc n + m)) (rw length_scaled (omega arith)) (omega arith)

module _ {F : Type 0} {o : Operations F} (L : FieldLaws o) where
  open o use {zero as 𝟘, sum as ◌⊕◌, product as ◌⊗◌}

  infixl 30 ◌⊕◌
  infixl 40 ◌⊗◌
  pub get_d_added : (p q : List F) (i : ℕ) → get_or (added o p q) i 𝟘 ≡ get_or p i 𝟘 ⊕ get_or q i 𝟘
  get_d_added [] q i = sym (zero_sum L.ring _)
  get_d_added (a ∷ p) [] i = sym (L.ring.sum_zero _)
  get_d_added (a ∷ p) (b ∷ q) zero = refl
  get_d_added (a ∷ p) (b ∷ q) (suc i) = get_d_added p q i

  pub value_added : (p q : List F) (x : F) → value_at o (added o p q) x ≡ value_at o p x ⊕ value_at o q x
  value_added [] q x = sym (zero_sum L.ring _)
  value_added (a ∷ p) [] x = sym (L.ring.sum_zero _)
  value_added (a ∷ p) (b ∷ q) x = ap (λ w. (a ⊕ b) ⊕ x ⊗ w) (value_added p q x) ∙ simp (ring, L.ring)

  pub value_scaled : (c : F) (p : List F) (x : F) → value_at o (scaled o c p) x ≡ c ⊗ value_at o p x
  value_scaled c [] x = sym (product_zero L.ring c)
  value_scaled c (a ∷ p) x = ap (λ w. c ⊗ a ⊕ x ⊗ w) (value_scaled c p x) ∙ simp (ring, L.ring)

  multiplied_step : (a x u v : F) → a ⊗ v ⊕ (𝟘 ⊕ x ⊗ (u ⊗ v)) ≡ (a ⊕ x ⊗ u) ⊗ v
  multiplied_step a x u v = simp (ring, L.ring)

  pub value_multiplied : (p q : List F) (x : F) → value_at o (multiplied o p q) x ≡ value_at o p x ⊗ value_at o q x
  value_multiplied [] q x = sym (zero_product L.ring _)
  value_multiplied (a ∷ p) q x =
      value_added (scaled o a q) (𝟘 ∷ multiplied o p q) x
      ∙ ap₂ (λ v w. v ⊕ (𝟘 ⊕ x ⊗ w)) (value_scaled a q x) (value_multiplied p q x)
      ∙ multiplied_step a x (value_at o p x) (value_at o q x)
