use Rattle.std.proofs.Common.{◌≡◌, ◌≤◌, [], ◌∷◌, ◌++◌, length, sym, ap, ◌∙◌, arith, length-take}
use Rattle.std.proofs.lemmas.List.{length_push, take_all, take_more_set, take-append-le}
use Rattle.lines.proofs.line.kept.Kept.push.Goals as goal

pub returns-then-self-lt-LINE_LIMIT : goal.returns-then-self-lt-LINE_LIMIT
returns-then-self-lt-LINE_LIMIT c =
    let k = c.self.inside in
    let old = c.args.self.now in
    let b = c.args.byte in
    let count : length old ≤ k.len = omega (arith, ap length c.self.view_is, length-take k.len k.bytes) in
    let fits : length (old ++ b ∷ []) ≤ 16384 = omega (arith, length_push old b) in
    take_more_set k.bytes k.len b (omega arith) ∙ ap (λ t. t ++ b ∷ []) c.self.view_is ∙ sym (take_all 16384 (old ++ b ∷ []) fits)

pub returns-else-self-lt-LINE_LIMIT : goal.returns-else-self-lt-LINE_LIMIT
returns-else-self-lt-LINE_LIMIT c =
    let k = c.self.inside in
    let old = c.args.self.now in
    let b = c.args.byte in
    let long : length old ≡ 16384 = omega (arith, ap length c.self.view_is, length-take k.len k.bytes) in
    sym (take-append-le 16384 old (b ∷ []) (omega arith) ∙ take_all 16384 old (omega arith))
