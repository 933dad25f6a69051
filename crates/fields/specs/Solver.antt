-- A decision procedure for the equations of commutative rings in which x + x = 0: `by_normal_form`.
-- An equation is read by running an operation at the carrier of expressions, `expressions`.
use Rattle.std.specs.Prelude.{◌≡◌, ℕ, Bool, true, false, T, List, [], ◌∷◌, get_or, None, ◌==◌, nat_le, nat_lt, slice_index_or, refl}
use Rattle.std.proofs.Common.{sym, ap, ◌∙◌, eqb→eq}
use Rattle.fields.specs.Field.{Operations, Ring}
use Rattle.fields.specs.Rings.{zero_sum, sum_left_comm, sum_self_left, one_product, product_zero, zero_product, product_left_comm, sum_product}

-- expressions; a variable is a number
pub data Term : Type 0 where
  var : ℕ → Term
  nil : Term
  unit : Term
  plus : Term → Term → Term
  times : Term → Term → Term

abbrev pub expressions : Operations Term
expressions = record { zero = nil; one = unit; sum = plus; product = times; inverse = λ x. None; equals = λ x y. false }

-- a monomial is its variables in order, a polynomial its monomials in order, each once
abbrev insert : ℕ → List ℕ → List ℕ
insert x [] = x ∷ []
insert x (y ∷ m) = elim (nat_le x y) [ true ↦ x ∷ y ∷ m | false ↦ y ∷ insert x m ]

abbrev join : List ℕ → List ℕ → List ℕ
join [] m = m
join (x ∷ n) m = insert x (join n m)

abbrev same : List ℕ → List ℕ → Bool
same [] [] = true
same [] (y ∷ n) = false
same (x ∷ m) [] = false
same (x ∷ m) (y ∷ n) = elim (x == y) [ true ↦ same m n | false ↦ false ]

abbrev before : List ℕ → List ℕ → Bool
before [] [] = false
before [] (y ∷ n) = true
before (x ∷ m) [] = false
before (x ∷ m) (y ∷ n) = elim (x == y) [ true ↦ before m n | false ↦ nat_lt x y ]

abbrev put : List ℕ → List (List ℕ) → List (List ℕ)
put m [] = m ∷ []
put m (n ∷ p) = elim (same m n) [ true ↦ p | false ↦ elim (before m n) [ true ↦ m ∷ n ∷ p | false ↦ n ∷ put m p ] ]

abbrev merge : List (List ℕ) → List (List ℕ) → List (List ℕ)
merge [] q = q
merge (m ∷ p) q = put m (merge p q)

abbrev scale : List ℕ → List (List ℕ) → List (List ℕ)
scale m [] = []
scale m (n ∷ p) = put (join m n) (scale m p)

abbrev spread : List (List ℕ) → List (List ℕ) → List (List ℕ)
spread [] q = []
spread (m ∷ p) q = merge (scale m q) (spread p q)

abbrev pub normal : Term → List (List ℕ)
normal (var x) = (x ∷ []) ∷ []
normal nil = []
normal unit = [] ∷ []
normal (plus s t) = merge (normal s) (normal t)
normal (times s t) = spread (normal s) (normal t)

same_eq : (m n : List ℕ) → T (same m n) → m ≡ n
same_eq [] [] h = refl
same_eq [] (y ∷ n) h = absurd h
same_eq (x ∷ m) [] h = absurd h
same_eq (x ∷ m) (y ∷ n) h = go (x == y) (eqb→eq x y) (same_eq m n) h
  where
    go : (b : Bool) → (T b → x ≡ y) → (T (same m n) → m ≡ n) → T (elim b [ true ↦ same m n | false ↦ false ]) → (x ∷ m) ≡ (y ∷ n)
    go true e ih k = let p = e tt in let q = ih k in cc
    go false e ih k = absurd k

module _ {F : Type 0} (o : Operations F) (env : List F) where
  open o use {zero as 𝟘, one as 𝟙, sum as ◌⊕◌, product as ◌⊗◌}

  infixl 30 ◌⊕◌
  infixl 40 ◌⊗◌
  abbrev pub value : Term → F
  value (var x) = slice_index_or env x 𝟘
  value nil = 𝟘
  value unit = 𝟙
  value (plus s t) = value s ⊕ value t
  value (times s t) = value s ⊗ value t

  abbrev mono : List ℕ → F
  mono [] = 𝟙
  mono (x ∷ m) = get_or env x 𝟘 ⊗ mono m

  abbrev total : List (List ℕ) → F
  total [] = 𝟘
  total (m ∷ p) = mono m ⊕ total p

  module _ (R : Ring o) where
    insert_is : (x : ℕ) (m : List ℕ) → mono (insert x m) ≡ get_or env x 𝟘 ⊗ mono m
    insert_is x [] = refl
    insert_is x (y ∷ m) =
        elim (nat_le x y) as (λ b. mono (elim b [ true ↦ x ∷ y ∷ m | false ↦ y ∷ insert x m ]) ≡ get_or env x 𝟘 ⊗ (get_or env y 𝟘 ⊗ mono m))
        [ true ↦ refl | false ↦ ap (λ w. get_or env y 𝟘 ⊗ w) (insert_is x m) ∙ product_left_comm R _ _ _ ]

    join_is : (n m : List ℕ) → mono (join n m) ≡ mono n ⊗ mono m
    join_is [] m = sym (one_product R _)
    join_is (x ∷ n) m = insert_is x (join n m) ∙ ap (λ w. get_or env x 𝟘 ⊗ w) (join_is n m) ∙ sym (R.product_assoc _ _ _)

    put_is : (m : List ℕ) (p : List (List ℕ)) → total (put m p) ≡ mono m ⊕ total p
    put_is m [] = refl
    put_is m (n ∷ p) = go (same m n) (same_eq m n) (before m n) (put_is m p)
      where
        go : (b : Bool) → (T b → m ≡ n) → (b' : Bool) → total (put m p) ≡ mono m ⊕ total p
            → total (elim b [ true ↦ p | false ↦ elim b' [ true ↦ m ∷ n ∷ p | false ↦ n ∷ put m p ] ]) ≡ mono m ⊕ (mono n ⊕ total p)
        go true h b' ih = sym (sum_self_left R (mono m) (total p)) ∙ ap (λ k. mono m ⊕ (mono k ⊕ total p)) (h tt)
        go false h true ih = refl
        go false h false ih = ap (λ w. mono n ⊕ w) ih ∙ sum_left_comm R _ _ _

    merge_is : (p q : List (List ℕ)) → total (merge p q) ≡ total p ⊕ total q
    merge_is [] q = sym (zero_sum R _)
    merge_is (m ∷ p) q = put_is m (merge p q) ∙ ap (λ w. mono m ⊕ w) (merge_is p q) ∙ sym (R.sum_assoc _ _ _)

    scale_is : (m : List ℕ) (p : List (List ℕ)) → total (scale m p) ≡ mono m ⊗ total p
    scale_is m [] = sym (product_zero R _)
    scale_is m (n ∷ p) = put_is (join m n) (scale m p) ∙ ap (λ w. mono (join m n) ⊕ w) (scale_is m p) ∙ ap (λ w. w ⊕ mono m ⊗ total p) (join_is m n) ∙ sym (R.product_sum _ _ _)

    spread_is : (p q : List (List ℕ)) → total (spread p q) ≡ total p ⊗ total q
    spread_is [] q = sym (zero_product R _)
    spread_is (m ∷ p) q = merge_is (scale m q) (spread p q) ∙ ap (λ w. total (scale m q) ⊕ w) (spread_is p q) ∙ ap (λ w. w ⊕ total p ⊗ total q) (scale_is m q) ∙ sym (sum_product R _ _ _)

    normal_is : (t : Term) → total (normal t) ≡ value t
    normal_is (var x) = R.sum_zero _ ∙ R.product_one _
    normal_is nil = refl
    normal_is unit = R.sum_zero _
    normal_is (plus s t) = merge_is (normal s) (normal t) ∙ ap (λ w. w ⊕ total (normal t)) (normal_is s) ∙ ap (λ w. value s ⊕ w) (normal_is t)
    normal_is (times s t) = spread_is (normal s) (normal t) ∙ ap (λ w. w ⊗ total (normal t)) (normal_is s) ∙ ap (λ w. value s ⊗ w) (normal_is t)

-- expressions of one normal form have one value
pub by_normal_form : {F : Type 0} {o : Operations F} → Ring o → (env : List F) (s t : Term) → normal s ≡ normal t → value o env s ≡ value o env t
by_normal_form {o = o} R env s t e = sym (normal_is o env R s) ∙ ap (total o env) e ∙ normal_is o env R t
