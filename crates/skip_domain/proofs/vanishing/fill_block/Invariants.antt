use Rattle.std.proofs.Common.{◌≡◌, ℕ, ◌<◌, get_or}
use Rattle.skip_domain.proofs.vanishing.fill_block.Given as goal

abbrev pub invariant-loop-element : goal.invariant-loop-element
invariant-loop-element g l = (k : ℕ) → k < l.element-index → get_or l.block k g.F.Field.ops.zero ≡ l.value
