-- What a buffer that makes a line tells of its class.
use Rattle.std.proofs.Common.{◌≡◌, ℕ, Bool, true, false, cond, ◌||◌, eqb, leb, List, length, get_or, sym, refl, ap, ◌∙◌, arith}
use Rattle.std.proofs.lemmas.List.{get_or-take, take_all}
use Rattle.std.proofs.lemmas.Bool.{and_parts, leb-true}
use Rattle.lines.specs.declared.line.Content.{Content}
use Rattle.lines.specs.declared.line.Content.TheVariants.{Blank, Readable, Unfit}
use Rattle.lines.specs.declared.line.LineBuffer.{LineBuffer}
use Rattle.words.specs.Pieces.{every}
use Rattle.lines.specs.Lines.{Class, passed_over, not_readable, text_of, space, printable, idle, is_readable, classified}
use Rattle.lines.specs.Buffers.{content_of, Makes}

abbrev pub class_of : Content → List ℕ → Class
class_of Blank l = passed_over
class_of Readable l = text_of l
class_of Unfit l = not_readable

sorted_class : (c s r : Bool) (l : List ℕ) → false ≡ (c || s) → class_of (cond s Blank (cond r Readable Unfit)) l ≡ cond (c || s) passed_over (cond r (text_of l) not_readable)
sorted_class true s r l e = cc
sorted_class false true r l e = cc
sorted_class false false true l e = refl
sorted_class false false false l e = refl

sorted_readable : (s r : Bool) → Readable ≡ cond s Blank (cond r Readable Unfit) → r ≡ true
sorted_readable true r e = cc
sorted_readable false true e = refl
sorted_readable false false e = cc

idle_class : (i : Bool) (k : Class) → true ≡ i → passed_over ≡ cond i passed_over k
idle_class true k e = refl
idle_class false k e = cc

sorted_idle : (c s r : Bool) → (cond s Blank (cond r Readable Unfit) ≡ Blank → ⊥) → c ≡ (c || s)
sorted_idle c true r other = absurd (other refl)
sorted_idle true false r other = refl
sorted_idle false false r other = refl

pub idle_other : {k : Content} (l : List ℕ) → k ≡ content_of l → (k ≡ Blank → ⊥) → eqb (get_or l 0 0) 35 ≡ idle l
idle_other l is other = sorted_idle _ (every space l) (is_readable l) (λ e. other (is ∙ e))

pub passed : (l : List ℕ) → true ≡ idle l → passed_over ≡ classified l
passed l e = idle_class (idle l) _ e

module _ {b : LineBuffer} {l : List ℕ} (m : Makes b l) where
  pub class : (k : Content) → b.content ≡ k → false ≡ idle l → class_of k l ≡ classified l
  class k e other = ap (λ x. class_of x l) (sym e ∙ m.is) ∙ sorted_class _ (every space l) (is_readable l) l other

  pub whole : b.content ≡ Readable → b.bytes ≡ l
  whole e =
      let fits : is_readable l ≡ true = sorted_readable _ _ (sym e ∙ m.is) in
      m.front ∙ take_all 16384 l (leb-true (length l) 16384 (and_parts (every printable l) (leb (length l) 16384) fits).1)

  pub first : get_or b.bytes 0 0 ≡ get_or l 0 0
  first = ap (λ t. get_or t 0 0) m.front ∙ get_or-take 16384 l 0 0 (omega arith)
