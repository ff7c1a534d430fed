-- What is printed of the documents of a term.
use Rattle.std.proofs.Common.{◌≡◌, ℕ, ◌≤◌, List, ◌++◌, codes, Some, None, Option, refl, sym, ap, subst, ◌∙◌, arith}
use Rattle.std.specs.Prelude.{filter}
use Rattle.std.specs.Fmt.{decimal}
use Rattle.std.specs.List.{flat_map}
use Rattle.lu_types.specs.declared.term.TermInfo.{TermInfo}
use Rattle.lu_model.specs.Index.{IndexedTerm}
use Rattle.term_index.specs.Seeking.{most_seek_steps}
use Rattle.check_index.specs.Segments.{SegmentValue}
use Rattle.check_index.specs.Opened.{IsTermOf}
use Rattle.seg_reader.specs.Terms.{term_at, term_named}
use Rattle.seg_reader.specs.Postings.{PostingsWalk, may_answer, postings_of, most_steps_to}
use Rattle.lu_listing.specs.InnerEntries.{AreReachedLines}
use Rattle.lu_listing.specs.Lines.{line, ◌▹◌}
use Rattle.lu_listing.specs.Listing.{entry_line}
use Rattle.lu_listing.specs.Reached.{postings_lines, IsWithinJump, JumpIsBound, IsReachedText}

-- where there is no such term
pub text-of_none : (s : SegmentValue) (place : ℕ) (field text : List ℕ) (from seek : ℕ) → term_named s.index field text ≡ None → seek ≤ most_seek_steps s.dictionary
    → IsReachedText s place field text from (line (codes "segment" ▹ decimal place) ++ line (codes "seek" ▹ decimal seek))
text-of_none s place field text from seek named found = record {
  seek = seek;
  advance = 0;
  found = found;
  jumped = subst (λ (t : Option IndexedTerm). JumpIsBound s from t 0) (sym named) refl;
  lines_are = ap (λ (t : Option IndexedTerm). postings_lines s.index place from t seek 0) (sym named);
}

-- the lines of the entries of a term that are reached
pub text-of_term : (s : SegmentValue) (place : ℕ) (field text : List ℕ) (from seek n : ℕ) (info : TermInfo) (walk : PostingsWalk) (bound : ℕ) (lines : List ℕ) → IsTermOf s n info → term_named s.index field text ≡ Some (term_at s n)
    → seek ≤ most_seek_steps s.dictionary → walk ≡ postings_of s n info s.index.deleted → bound ≤ most_steps_to walk from → AreReachedLines walk from bound lines
    → IsReachedText s place field text from (line (codes "segment" ▹ decimal place) ++ (line (codes "seek" ▹ decimal seek) ++ lines))
text-of_term s place field text from seek n info walk bound lines term named found is small reached = record {
  seek = seek;
  advance = reached.advance;
  found = found;
  jumped = subst (λ (t : Option IndexedTerm). JumpIsBound s from t reached.advance) (sym named) jump;
  lines_are =
      ap (λ (t : List ℕ). line (codes "segment" ▹ decimal place) ++ (line (codes "seek" ▹ decimal seek) ++ t))
      (reached.lines_are ∙ ap (λ (w : PostingsWalk). line (codes "advance" ▹ decimal reached.advance) ++ flat_map (entry_line (codes "doc")) (filter (may_answer w.hidden 0 from) w.entries)) is)
      ∙ ap (λ (t : Option IndexedTerm). postings_lines s.index place from t seek reached.advance) (sym named);
}
  where
    within : reached.advance ≤ most_steps_to walk from
    within = omega (arith, reached.within, small)

    jump : IsWithinJump s (term_at s n) from reached.advance
    jump = record { number = n; info = info; is_sought = refl; is_term = term; bound = subst (λ (w : PostingsWalk). reached.advance ≤ most_steps_to w from) is within }
