-- What a line buffer stands for.
use Rattle.std.specs.Prelude.{◌≡◌, ℕ, cond, List, take}
use Rattle.lines.specs.declared.line.Line.{Line}
use Rattle.lines.specs.declared.line.Line.TheVariants.{Passed, Unreadable, Text}
use Rattle.lines.specs.declared.line.Content.{Content}
use Rattle.lines.specs.declared.line.Content.TheVariants.{Blank, Readable, Unfit}
use Rattle.lines.specs.declared.line.LineBuffer.{LineBuffer}
use Rattle.words.specs.Pieces.{every}
use Rattle.lines.specs.Lines.{Class, passed_over, not_readable, text_of, space, is_readable, ends_in_cr, without_cr}

abbrev pub shown : Line → Class
shown Passed = passed_over
shown Unreadable = not_readable
shown (Text t) = text_of t.now

-- what the bytes l are so far: nothing but spaces, readable, or neither
abbrev pub content_of : List ℕ → Content
content_of l = cond (every space l) Blank (cond (is_readable l) Readable Unfit)

-- the line that b gives has the bytes l
pub record Makes (b : LineBuffer) (l : List ℕ) : Type 0 where
  pub front : b.bytes ≡ take 16384 l
  pub is : b.content ≡ content_of l

-- b has taken the bytes l of a line that may go on: a carriage return at their end waits for the byte after it
pub record Holds (b : LineBuffer) (l : List ℕ) : Type 0 where
  pub body : Makes b (without_cr l)
  pub waits : b.held ≡ ends_in_cr l
