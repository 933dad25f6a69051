-- What a line source does with one chunk.
use Rattle.std.specs.Prelude.{◌≡◌, ℕ, Bool, true, false, List, [], ◌∷◌, ◌++◌}
use Rattle.lines.specs.declared.source.LineSource.{LineSource}
use Rattle.lines.specs.Lines.{lf_free}
use Rattle.lines.specs.Buffers.{Holds}
use Rattle.lines.specs.Sources.{unread}

-- the bytes p were taken from s for its line, to which t has them added
pub record Taken (s t : LineSource) (p : List ℕ) : Type 0 where
  pub free : lf_free p ≡ true
  pub holds : (l : List ℕ) → Holds s.buffer l → Holds t.buffer (l ++ p)

-- the line ended at a line feed, or nothing is left
abbrev pub Took : LineSource → LineSource → Bool → Type 0
Took s t true = (p : List ℕ) × (unread s ≡ p ++ 10 ∷ unread t) × Taken s t p
Took s t false = (unread t ≡ []) × Taken s t (unread s)

-- there is a next chunk, or the input has ended
abbrev pub Refilled : LineSource → LineSource → Bool → Type 0
Refilled s t true = s.ended ≡ false
Refilled s t false = (t.ended ≡ true) × (unread s ≡ [] → unread t ≡ [])
