use Rattle.std.proofs.Common.{rules}
use Rattle.fields.specs.Powers.{product_by_logs}
use Rattle.fields.proofs.byte.arithmetic.ByteField.product.Goals as goal

pub returns : goal.returns
returns c = let e = product_by_logs _ _ _ _ c.log.ensures c.log-2.ensures in search rules
