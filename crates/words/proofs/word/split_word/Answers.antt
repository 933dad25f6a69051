use Rattle.std.proofs.Common.{◌≡◌, ℕ, Option, List, not, length, sym, ap, ◌∙◌, arith}
use Rattle.std.proofs.lemmas.List.Sums.{prefix_len-le-length}
use Rattle.std.specs.List.{position, position_or_len}
use Rattle.std.specs.Option.{unwrap_or}
use Rattle.words.specs.Words.{is_space}
use Rattle.words.proofs.Fronts.{first_or_len}
use Rattle.words.proofs.Words.{no_word, one_word}
use Rattle.words.proofs.word.split_word.Goals as goal

long : (rest : List ℕ) (end : Option ℕ) → end ≡ position is_space rest → unwrap_or end (length rest) ≡ position_or_len is_space rest
long rest end e = ap (λ o. unwrap_or o (length rest)) e ∙ first_or_len is_space rest

pub split_at-requires-2 : goal.split_at-requires-2
split_at-requires-2 c = omega (arith, prefix_len-le-length (λ b. not (is_space b)) c.split_at.result.1.now, c.unwrap_or-length.ensures, long c.split_at.result.1.now _ c.next_space.ensures)

pub returns-in_err-start : goal.returns-in_err-start
returns-in_err-start c =
    let none = no_word c.args.text.now (sym c.in_err-start.was ∙ c.word_start.ensures) in
    rw c.from_residual.ensures (record { words = none.0; parts = none.1 })

pub returns : goal.returns
returns c =
    let one = one_word c.args.text.now _ _ _ (sym c.in_ok-start.was ∙ c.word_start.ensures) c.split_at.ensures.back (c.unwrap_or-length.ensures ∙ long c.split_at.result.1.now _ c.next_space.ensures) in
    rw (c.split_at-2.ensures.front, c.split_at-2.ensures.back) (record { words = one.0; parts = (one.1, one.2) })
