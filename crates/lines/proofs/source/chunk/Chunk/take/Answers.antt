use Rattle.std.proofs.Common.{◌≡◌, ℕ, ◌+◌, ◌-◌, ◌≤◌, List, length, take, drop, sym, ap, ◌∙◌, arith, length-take}
use Rattle.std.proofs.lemmas.List.{drop-drop, drop-take}
use Rattle.lines.proofs.source.chunk.Chunk.take.Goals as goal

-- the bytes of xs from a up to e
abbrev part : List ℕ → ℕ → ℕ → List ℕ
part xs a e = take (e - a) (drop a xs)

part_drop : (xs : List ℕ) (a e n : ℕ) → n ≤ length (part xs a e) → a ≤ e → part xs (a + n) e ≡ drop n (part xs a e)
part_drop xs a e n fits order =
    let m = e - (a + n) in
    let long : e - a ≡ n + m = omega (arith, length-take (e - a) (drop a xs), fits) in
    ap (take m) (sym (drop-drop n a xs)) ∙ sym (drop-take n m (drop a xs)) ∙ sym (ap (λ k. drop n (take k (drop a xs))) long)

pub returns : goal.returns
returns c =
    let s = c.self.inside in
    let fits : c.args.count ≤ length (part s.bytes s.start s.end) = omega (arith, ap length c.self.view_is, c.requires) in
    part_drop s.bytes s.start s.end c.args.count fits c.self.invariant.0 ∙ ap (drop c.args.count) c.self.view_is
