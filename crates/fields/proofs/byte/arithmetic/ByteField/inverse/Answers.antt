use Rattle.std.proofs.Common.{Some, sym, ap, ◌∙◌, arith}
use Rattle.std.specs.Option.{option_map}
use Rattle.fields.specs.Bytes.{byte, passing, inverts}
use Rattle.fields.specs.Powers.{inverse_found, zero_inverse}
use Rattle.fields.proofs.byte.arithmetic.ByteField.inverse.Goals as goal

pub returns : goal.returns
returns c = ap Some c.new.ensures ∙ ap (option_map byte) (sym (inverse_found c.args.self.value _ _ (omega arith) c.args.self.ok c.log.ensures c.exp.ensures))

pub returns-then-self-eq0 : goal.returns-then-self-eq0
returns-then-self-eq0 c = sym (ap (λ x. option_map byte (passing (inverts x) 256)) c.if-self-eq0.true ∙ ap (option_map byte) zero_inverse)
