use Rattle.std.proofs.Common.{cond, sym, ap, ◌∙◌, rules}
use Rattle.lines.specs.declared.line.Content.TheVariants.{Readable, Unfit}
use Rattle.lines.proofs.Growth.{text_first, text_on}
use Rattle.lines.proofs.line.Content.with_byte.Goals as goal

pub returns-then-fits : goal.returns-then-fits
returns-then-fits c = λ l is count.
    let first = text_first c.args.self l c.args.byte c.args.kept is count in
    let on = text_on c.args.self l c.args.byte c.args.kept is count in
    ap (λ f. cond f Readable Unfit) (sym c.if-fits.true ∙ c.fits.ensures) ∙ search (rules, first, on)

pub returns-else-fits : goal.returns-else-fits
returns-else-fits c = λ l is count.
    let first = text_first c.args.self l c.args.byte c.args.kept is count in
    let on = text_on c.args.self l c.args.byte c.args.kept is count in
    ap (λ f. cond f Readable Unfit) (sym c.if-fits.false ∙ c.fits.ensures) ∙ search (rules, first, on)
