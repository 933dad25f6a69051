use Rattle.std.proofs.Common.{◌≡◌, ℕ, ◌+◌, List, ◌++◌, take, drop}
use Rattle.std.specs.List.{position_or_len}
use Rattle.lines.specs.Lines.{is_lf}
use Rattle.lines.specs.Buffers.{Holds}
use Rattle.lines.proofs.line.LineBuffer.feed.Given as goal

abbrev pub invariant-loop-i : goal.invariant-loop-i
invariant-loop-i l =
    (l.i + position_or_len is_lf (drop l.i l.input) ≡ position_or_len is_lf l.input)
    × ((k : List ℕ) → Holds l.initial.self k → Holds l.self (k ++ take l.i l.input))
