-- In an arm of a name of seven letters the operation is that name.
use Rattle.std.proofs.Common.{rules, arith, ◌≡◌}
use Rattle.std.specs.Prelude.{codes}
use Rattle.std.proofs.lemmas.Slice.Eq.{text_from_reads}
use Rattle.field_requests.specs.Requests.{question_for}
use Rattle.field_requests.proofs.request.question_of.Goals as goal

pub returns-in-product : goal.returns-in-product
unfolding question_for
returns-in-product c =
    let name : c.args.operation.now ≡ codes "product" =
    text_from_reads _ _ (omega arith) (omega arith, (omega arith, (omega arith, (omega arith, (omega arith, (omega arith, (omega arith, tt))))))) in
    rw name (search rules)

pub returns-in-inverse : goal.returns-in-inverse
unfolding question_for
returns-in-inverse c =
    let name : c.args.operation.now ≡ codes "inverse" =
    text_from_reads _ _ (omega arith) (omega arith, (omega arith, (omega arith, (omega arith, (omega arith, (omega arith, (omega arith, tt))))))) in
    rw name (search rules)
