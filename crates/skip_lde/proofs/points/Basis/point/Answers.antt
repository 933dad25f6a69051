use Rattle.std.proofs.Common.{◌≡◌, ℕ, ◌+◌, cond, length, sym, ap, ◌∙◌, add-one, arith}
use Rattle.std.proofs.lemmas.List.{get_or_read}
use Rattle.fields.specs.Field.{Operations}
use Rattle.fields.specs.Tower.{bit_set}
use Rattle.algebra.specs.Points.{basis_element_or_zero}
use Rattle.algebra.specs.Sums.{bit_sum}
use Rattle.algebra.proofs.Points.{point_bits}
use Rattle.skip_lde.proofs.points.Basis.point.Goals as goal

-- one bit more
more : {F : Type 0} (o : Operations F) (v : ℕ → F) (j r : ℕ) (s t x : F) → s ≡ bit_sum o r v j → x ≡ v r → t ≡ o.sum s (cond (bit_set j r) x o.zero) →
    t ≡ bit_sum o (r + 1) v j
more o v j r s t x p e q = q ∙ ap (λ y. o.sum s (cond (bit_set j r) y o.zero)) e ∙ ap (λ y. o.sum y (cond (bit_set j r) (v r) o.zero)) p ∙ ap (λ n. bit_sum o n v j) (sym (add-one r))

pub loop-r-preserved : goal.loop-r-preserved
loop-r-preserved g c =
    let o = g.F.Field.ops in
    let v = basis_element_or_zero o g.F.TowerLevel.level in
    let r = c.loop-r.r in
    let held : c.element-item.result ≡ v r = get_or_read _ _ _ c.loop-r-test.true c.element-item.is o.zero ∙ c.args.self.now.first r c.loop-r-test.true in
    more o v c.args.index r c.loop-r.point _ _ c.loop-r.invariant held c.with_bit-point.ensures

pub returns : goal.returns
returns g c =
    let o = g.F.Field.ops in
    let n = length c.args.self.now.elements.now in
    let all : c.loop-r.r ≡ n = omega arith in
    c.loop-r.invariant ∙ ap (λ n. bit_sum o n (basis_element_or_zero o g.F.TowerLevel.level) c.args.index) all
    ∙ sym (point_bits g.met.F.Field.laws g.met.F.TowerLevel.tower n c.args.index c.requires)
