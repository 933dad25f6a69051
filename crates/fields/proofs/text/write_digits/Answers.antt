use Rattle.std.proofs.Common.{◌≡◌, suc, ◌+◌, ◌*◌, ◌/◌, ◌%◌, ◌^◌, ◌-◌, ◌<◌, false, ◌∷◌, length, drop, sym, ap, ◌∙◌, arith}
use Rattle.std.proofs.Math.Nat.{div-div-eq-div-mul}
use Rattle.std.proofs.lemmas.Nat.{pow-add}
use Rattle.std.proofs.lemmas.List.{drop-set, length-set}
use Rattle.std.specs.Fmt.{digit_glyph}
use Rattle.fields.proofs.text.write_digits.Goals as goal

pub loop-place-preserved : goal.loop-place-preserved
loop-place-preserved c =
    let q = c.loop-place.invariant in
    let k = q.0 in
    let n = c.args.number in
    let i = c.loop-place.place - 1 in
    let xs = c.loop-place.text in
    let some : i < length xs = omega (arith, q.1) in
    let next : i + 1 ≡ c.loop-place.place = omega arith in
    let power : 2 ^ (4 * k) * 16 ≡ 2 ^ (4 * suc k) = sym (pow-add 2 (4 * k) 4) ∙ ap (λ j. 2 ^ j) (omega arith) in
    let digit : c.glyph.result ≡ digit_glyph false (n / 2 ^ (4 * k) % 16) = c.glyph.ensures ∙ ap (λ r. digit_glyph false (r % 16)) q.2 in (
      suc k,
      omega (arith, q.1, length-set xs i c.glyph.result),
      ap (λ r. r / 16) q.2 ∙ div-div-eq-div-mul n (2 ^ (4 * k)) 16 ∙ ap (λ d. n / d) power,
      drop-set xs i c.glyph.result some ∙ (λ t. digit t ∷ (ap (λ j. drop j xs) next ∙ q.3) t),
    )
