-- What a step of a line source does with the bytes that it had read and those that came in.
use Rattle.std.specs.Prelude.{◌≡◌, ℕ, ◌+◌, Bool, true, false, cond, List, [], ◌∷◌, ◌++◌, Ok, Err, Result}
use Rattle.lines.specs.declared.source.LineSource.{LineSource}
use Rattle.lines.specs.Lines.{lines_of}
use Rattle.lines.specs.Buffers.{Makes}

-- the bytes that were read and are not yet part of a line
abbrev pub unread : LineSource → List ℕ
unread s = s.chunk

-- nothing comes once the input has ended
abbrev pub MayCome : LineSource → List ℕ → Type 0
MayCome s l = s.ended ≡ true → l ≡ []

-- t gives the first line of the bytes l and whatever may still come, and the other lines are still to be given
pub record Next (l : List ℕ) (t : LineSource) : Type 0 where
  pub bytes : List ℕ
  pub makes : Makes t.buffer bytes
  pub first : (later : List ℕ) → MayCome t later → lines_of (l ++ later) ≡ bytes ∷ lines_of (unread t ++ later)

-- there are no bytes, so no line, and the input has ended
pub record Finished (l : List ℕ) (t : LineSource) : Type 0 where
  pub nothing : l ≡ []
  pub left : unread t ≡ []
  pub over : t.ended ≡ true
  pub makes : Makes t.buffer []

abbrev pub Went : List ℕ → LineSource → Bool → Type 0
Went l t true = Next l t
Went l t false = Finished l t

-- a step from s to t said whether there is a line, after some bytes came in
abbrev pub Stepped : LineSource → LineSource → Bool → Type 0
Stepped s t more = (came : List ℕ) × MayCome s came × Went (unread s ++ came) t more

-- how many lines there were, when there were n before the step
abbrev pub counted : {E : Type 0} → ℕ → Result Bool E → ℕ
counted n (Ok more) = n + cond more 1 0
counted n (Err e) = n
