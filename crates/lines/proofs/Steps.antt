-- A line that is put together from several chunks.
use Rattle.std.proofs.Common.{◌≡◌, ℕ, Bool, true, false, List, [], ◌∷◌, ◌++◌, sym, refl, ap, ◌∙◌, subst, append_assoc, append-nil}
use Rattle.std.proofs.lemmas.Bool.{both_ways, true≢false, false≢true}
use Rattle.lines.specs.declared.source.LineSource.{LineSource}
use Rattle.words.specs.Pieces.{some, other}
use Rattle.lines.specs.Lines.{without_cr, only_line, lines_of, lf_free}
use Rattle.lines.specs.Buffers.{Makes, Holds}
use Rattle.lines.specs.Sources.{unread, MayCome, Next, Went}
use Rattle.lines.specs.Steps.{Took, Refilled}
use Rattle.words.proofs.Fronts.{every_append}
use Rattle.lines.proofs.Cuts.{lines_cut, lines_free}

-- from s on, the bytes `came` came in, and t has the bytes `line` of a line so far
pub record Reading (s t : LineSource) : Type 0 where
  pub came : List ℕ
  pub line : List ℕ
  pub may : MayCome s came
  pub holds : Holds t.buffer line
  pub free : lf_free line ≡ true
  pub whole : unread s ++ came ≡ line ++ unread t
  pub ended : s.ended ≡ true → t.ended ≡ true
  pub number : t.number ≡ s.number

pub reading_none : (s : LineSource) → Holds s.buffer [] → Reading s s
reading_none s h = record {
  came = [];
  line = [];
  may = λ _. refl;
  holds = h;
  free = refl;
  whole = append-nil (unread s);
  ended = λ e. e;
  number = refl;
}

module _ {s t : LineSource} (r : Reading s t) where
  -- the line with all that t had
  abbrev pub all_of : List ℕ
  all_of = r.line ++ unread t

  pub all_holds : (u v : LineSource) → Took t u false → v.buffer ≡ u.buffer → Holds v.buffer all_of
  all_holds u v took b = subst (λ x. Holds x all_of) (sym b) (took.1.holds r.line r.holds)

  -- a further chunk
  pub reading_more : (u v : LineSource) → Took t u false → u.ended ≡ t.ended → u.number ≡ t.number → u.ended ≡ false → v.buffer ≡ u.buffer → v.number ≡ u.number → Reading s v
  reading_more u v took e n open-yet b m =
      let still : s.ended ≡ true → ⊥ = λ over. both_ways u.ended open-yet (e ∙ r.ended over) in
      record {
        came = r.came ++ unread v;
        line = all_of;
        may = λ over. absurd (still over);
        holds = all_holds u v took b;
        free = every_append (other 10) r.line (unread t) r.free took.1.free;
        whole = sym (append_assoc (unread s) r.came (unread v)) ∙ ap (λ x. x ++ unread v) r.whole;
        ended = λ over. absurd (still over);
        number = m ∙ n ∙ r.number;
      }

  -- a line feed
  pub next_line : (u : LineSource) → Took t u true → Next (unread s ++ r.came) u
  next_line u took =
      let p = took.0 in
      record {
        bytes = without_cr (r.line ++ p);
        makes = (took.2.holds r.line r.holds).body;
        first = λ later _.
            ap (λ x. lines_of (x ++ later)) (r.whole ∙ ap (λ x. r.line ++ x) took.1 ∙ sym (append_assoc r.line p (10 ∷ unread u)))
            ∙ ap lines_of (append_assoc (r.line ++ p) (10 ∷ unread u) later)
            ∙ lines_cut (r.line ++ p) (unread u ++ later) (every_append (other 10) r.line p r.free took.2.free);
      }

  module _ (free : lf_free (unread t) ≡ true) (v : LineSource) (over : v.ended ≡ true) (left : unread v ≡ []) (makes : Makes v.buffer all_of) where
    last_went : (k : List ℕ) → all_of ≡ k → Went (unread s ++ r.came) v (some k)
    last_went [] e = record { nothing = r.whole ∙ e; left = left; over = over; makes = subst (Makes v.buffer) e makes }
    last_went (b ∷ bs) e =
        let only : lines_of all_of ≡ all_of ∷ [] = lines_free all_of (every_append (other 10) r.line (unread t) r.free free) ∙ ap only_line e ∙ sym (ap (λ k. k ∷ []) e) in
        record {
          bytes = all_of;
          makes = makes;
          first = λ later m.
              ap (λ x. lines_of ((unread s ++ r.came) ++ x)) (m over) ∙ ap lines_of (append-nil (unread s ++ r.came) ∙ r.whole) ∙ only
              ∙ sym (ap (λ x. all_of ∷ lines_of (x ++ later)) left ∙ ap (λ x. all_of ∷ lines_of x) (m over));
        }

    -- the end of the input
    pub last_line : (is-line : Bool) → is-line ≡ some all_of → Went (unread s ++ r.came) v is-line
    last_line is-line e = subst (Went (unread s ++ r.came) v) (sym e) (last_went all_of refl)

pub refilled_on : (u v : LineSource) (more : Bool) → more ≡ true → Refilled u v more → u.ended ≡ false
refilled_on u v true e h = h
refilled_on u v false e h = absurd (false≢true e)

pub refilled_over : (u v : LineSource) (more : Bool) → more ≡ false → Refilled u v more → Refilled u v false
refilled_over u v true e h = absurd (true≢false e)
refilled_over u v false e h = h
