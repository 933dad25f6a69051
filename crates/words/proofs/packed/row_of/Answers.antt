use Rattle.std.proofs.Common.{◌≡◌, ℕ, Bool, true, false, cond, Some, None, Vec, Global, vec_items, refl, sym, ap, ◌∙◌, arith}
use Rattle.std.specs.Bool.{then_some}
use Rattle.std.specs.Option.{option_map}
use Rattle.words.proofs.Digits.{read_none, read_more, read_refused, read_all}
use Rattle.words.proofs.packed.row_of.Goals as goal

row_items : (full : Bool) (row : Vec ℕ Global) → option_map vec_items (then_some full row) ≡ cond full (Some (vec_items row)) None
row_items true row = refl
row_items false row = refl

pub loop-high-init : goal.loop-high-init
loop-high-init c = read_none c.args.digits.now _ _ _ c.new-row.ensures.items c.as_chunks.ensures.front c.as_chunks.ensures.back

pub returns-in_default : goal.returns-in_default
returns-in_default c = read_refused _ _ _ _ _ c.loop-high.invariant c.loop-high-test.true (sym c.byte_of.ensures ∙ c.in_default.is)

pub loop-high-preserved : goal.loop-high-preserved
loop-high-preserved c = read_more _ _ _ _ _ c.loop-high.invariant c.in-Some.byte _ c.loop-high-test.true (sym c.byte_of.ensures ∙ c.in-Some.is) c.in_ok-push.ensures.items

pub returns : goal.returns
returns c =
    let all = read_all _ _ _ _ _ c.loop-high.invariant c.loop-high-test.false (omega (arith, c.as_chunks.ensures.back_len)) in
    ap (option_map vec_items) (c.then_some.ensures ∙ ap (λ b. then_some b c.loop-high.row) c.is_empty.ensures) ∙ row_items _ c.loop-high.row ∙ all
