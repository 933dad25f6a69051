use Rattle.std.proofs.Common.{◌≡◌, take}
use Rattle.measuring.specs.Splitmix.{state_after, low_bytes}
use Rattle.measuring.proofs.generator.Generator.fill_bytes.Given as goal

abbrev pub invariant-loop-byte : goal.invariant-loop-byte
invariant-loop-byte l = (l.self.state ≡ state_after l.initial.self.state l.byte-index) × (take l.byte-index l.drawn ≡ low_bytes l.initial.self.state l.byte-index)
