use Rattle.std.proofs.Common.{◌≡◌, true, ◌∷◌, ◌++◌, sym, refl, ap, ◌∙◌, subst}
use Rattle.words.specs.Pieces.{other}
use Rattle.lines.specs.Lines.{before_lf, through_lf, lf_free}
use Rattle.lines.specs.Buffers.{Holds}
use Rattle.words.proofs.Fronts.{every_front}
use Rattle.lines.proofs.Cuts.{through_some, through_none, before_lf_free}
use Rattle.lines.proofs.source.LineSource.take.Goals as goal

pub take-requires : goal.take-requires
take-requires c = (through_some c.args.self.now.chunk _ (sym c.in-Some.is ∙ c.feed.ensures.taken ∙ ap through_lf c.left.ensures)).within

pub returns-in-Some : goal.returns-in-Some
returns-in-Some c =
    let left = c.args.self.now.chunk in
    let cut = (through_some left _ (sym c.in-Some.is ∙ c.feed.ensures.taken ∙ ap through_lf c.left.ensures)).cut in
    record {
      taken = (
        before_lf left,
        cut ∙ sym (ap (λ r. before_lf left ++ 10 ∷ r) c.take.ensures),
        record { free = every_front (other 10) left; holds = λ l h. subst (λ r. Holds c.feed.new.self (l ++ before_lf r)) c.left.ensures (c.feed.ensures.holds l h) },
      );
      kept = (refl, refl);
    }

pub returns-in-None : goal.returns-in-None
returns-in-None c =
    let left = c.args.self.now.chunk in
    let free : lf_free left ≡ true = through_none left (sym c.in-None.is ∙ c.feed.ensures.taken ∙ ap through_lf c.left.ensures) in
    record {
      taken = (
        c.clear.ensures,
        record { free = free; holds = λ l h. subst (λ r. Holds c.feed.new.self (l ++ r)) (ap before_lf c.left.ensures ∙ before_lf_free left free) (c.feed.ensures.holds l h) },
      );
      kept = (refl, refl);
    }
