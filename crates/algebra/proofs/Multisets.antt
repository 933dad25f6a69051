-- A sum over a list depends on how often each element stands in it, and not on their order.
use Rattle.std.proofs.Common.{◌≡◌, ℕ, ◌+◌, ◌<◌, Bool, true, false, cond, List, [], ◌∷◌, sym, refl, ap, ◌∙◌, ap₂, arith}
use Rattle.std.proofs.lemmas.Bool.{cond-true, cond-false}
use Rattle.fields.specs.Field.{Operations, FieldLaws}
use Rattle.fields.specs.Rings.{sum_left_comm}
use Rattle.algebra.specs.Sums.{sum_over}
use Rattle.algebra.specs.Multisets.{TellsSame, occurrences, AsOften}

-- without the first x
abbrev without : {X : Type 0} → (X → X → Bool) → X → List X → List X
without same x [] = []
without same x (y ∷ ys) = cond (same x y) ys (y ∷ without same x ys)

module _ {X : Type 0} {same : X → X → Bool} (D : TellsSame same) where
  occurrences_without : (x z : X) (ys : List X) → 0 < occurrences same x ys → occurrences same z ys ≡ cond (same z x) 1 0 + occurrences same z (without same x ys)
  occurrences_without x z [] h = absurd (omega arith)
  occurrences_without x z (y ∷ ys) h = go (occurrences_without x z ys) (same x y) refl
    where
      go : (0 < occurrences same x ys → occurrences same z ys ≡ cond (same z x) 1 0 + occurrences same z (without same x ys)) → (b : Bool) → same x y ≡ b → occurrences same z (y ∷ ys) ≡ cond (same z x) 1 0 + occurrences same z (without same x (y ∷ ys))
      go rest true e = ap₂ (λ w l. cond (same z w) 1 0 + occurrences same z l) (sym ((D x y).0 e)) (sym (cond-true _ _ _ e))
      go rest false e =
          let none : ◌≡◌ {A = ℕ} (cond (same x y) 1 0) 0 = cond-false _ _ _ e in
          let later : 0 < occurrences same x ys = omega arith in
          let r = rest later in
          let moved : occurrences same z (y ∷ ys) ≡ cond (same z x) 1 0 + (cond (same z y) 1 0 + occurrences same z (without same x ys)) = omega arith in
          moved ∙ ap (λ l. cond (same z x) 1 0 + occurrences same z l) (sym (cond-false _ _ _ e))

  module _ {F : Type 0} {o : Operations F} (L : FieldLaws o) (f : X → F) where
    sum_over_without : (x : X) (ys : List X) → 0 < occurrences same x ys → sum_over o f ys ≡ o.sum (f x) (sum_over o f (without same x ys))
    sum_over_without x [] h = absurd (omega arith)
    sum_over_without x (y ∷ ys) h = go (sum_over_without x ys) (same x y) refl
      where
        go : (0 < occurrences same x ys → sum_over o f ys ≡ o.sum (f x) (sum_over o f (without same x ys))) → (b : Bool) → same x y ≡ b → sum_over o f (y ∷ ys) ≡ o.sum (f x) (sum_over o f (without same x (y ∷ ys)))
        go rest true e = ap₂ (λ w l. o.sum (f w) (sum_over o f l)) (sym ((D x y).0 e)) (sym (cond-true _ _ _ e))
        go rest false e =
            let none : ◌≡◌ {A = ℕ} (cond (same x y) 1 0) 0 = cond-false _ _ _ e in
            let later : 0 < occurrences same x ys = omega arith in
            ap (o.sum (f y)) (rest later) ∙ sum_left_comm L.ring _ _ _ ∙ ap (λ l. o.sum (f x) (sum_over o f l)) (sym (cond-false _ _ _ e))

    pub sum_over_as_often : (xs ys : List X) → AsOften same xs ys → sum_over o f xs ≡ sum_over o f ys
    sum_over_as_often [] [] h = refl
    sum_over_as_often [] (y ∷ ys) h = let none : 0 ≡ 1 + occurrences same y ys = h y ∙ ap (λ b. cond b 1 0 + occurrences same y ys) ((D y y).1 refl) in absurd (omega arith)
    sum_over_as_often (x ∷ xs) ys h =
        let here : 1 + occurrences same x xs ≡ occurrences same x ys = ap (λ b. cond b 1 0 + occurrences same x xs) (sym ((D x x).1 refl)) ∙ h x in
        let there : 0 < occurrences same x ys = omega arith in
        let rest : AsOften same xs (without same x ys) = λ z. let a = h z in let b = occurrences_without x z ys there in omega arith in
        ap (o.sum (f x)) (sum_over_as_often xs (without same x ys) rest) ∙ sym (sum_over_without x ys there)
