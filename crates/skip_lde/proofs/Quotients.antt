-- A Lagrange polynomial of S at a transmitted point is one quotient of points.
use Rattle.std.proofs.Common.{◌≡◌, ℕ, ◌+◌, ◌/◌, ◌^◌, ◌<◌, ◌≤◌, sym, ap, ◌∙◌, lt_of_lt_of_le, arith, pow_mono}
use Rattle.fields.specs.Field.{Operations, FieldLaws}
use Rattle.fields.specs.Tower.{Level, LevelLaws, width}
use Rattle.algebra.specs.Quotients.{quotient}
use Rattle.algebra.specs.Interpolation.{lagrange}
use Rattle.algebra.specs.Points.{point}
use Rattle.algebra.proofs.Spans.{points_spanned, spanned_apart, vanishing_point}
use Rattle.algebra.proofs.Subspaces.{lagrange_quotient}

pub quotient_lagrange : {F : Type 0} {o : Operations F} {l : Level F} (L : FieldLaws o) (V : LevelLaws o l) (s e j i : ℕ) → e ≤ width l → s ≤ e → j < 2 ^ s → 2 ^ s + i < 2 ^ e
    → quotient o (point o l ((2 ^ s + i) / 2 ^ s)) (o.sum (point o l (2 ^ s + i)) (point o l j)) ≡ lagrange o (2 ^ s) (point o l) j (point o l (2 ^ s + i))
quotient_lagrange {F} {o} {l} L V s e j i fits within h k =
    let T = points_spanned L V in
    let small : s ≤ width l = omega arith in
    let p : 2 ^ s ≤ 2 ^ e = pow_mono within in
    ap (λ w. quotient o w (o.sum (point o l (2 ^ s + i)) (point o l j))) (sym (vanishing_point L T s (2 ^ s + i) small (lt_of_lt_of_le k (pow_mono fits))))
    ∙ sym (lagrange_quotient L T s small j (point o l (2 ^ s + i)) h (spanned_apart L T e fits (2 ^ s + i) j k (omega arith) (omega arith)))
