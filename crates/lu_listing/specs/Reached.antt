-- The documents of a term from one on, as they are printed with the steps that it took to reach them (docs/FORMAT.md, "Printed texts").
use Rattle.std.specs.Prelude.{◌≡◌, ℕ, ◌≤◌, List, ◌++◌, codes, filter, Option, Some, None}
use Rattle.std.specs.Fmt.{decimal}
use Rattle.std.specs.List.{flat_map}
use Rattle.lu_types.specs.declared.term.TermInfo.{TermInfo}
use Rattle.lu_model.specs.Index.{IndexedTerm, Index}
use Rattle.term_index.specs.Seeking.{most_seek_steps}
use Rattle.check_index.specs.Segments.{SegmentValue}
use Rattle.check_index.specs.Opened.{IsTermOf}
use Rattle.seg_reader.specs.Terms.{term_at, term_named}
use Rattle.seg_reader.specs.Postings.{may_answer, postings_of, most_steps_to}
use Rattle.lu_listing.specs.Lines.{line, ◌▹◌}
use Rattle.lu_listing.specs.Listing.{entry_line}

-- the lines behind that of the steps of the jump: the entries of the term whose documents are live and not below this one
abbrev pub reached_lines : Index → ℕ → IndexedTerm → List ℕ
reached_lines x from t = flat_map (entry_line (codes "doc")) (filter (may_answer x.deleted 0 from) t.entries)

-- what is printed of a segment with this place behind so many steps of the search for the term, and so many of the jump to the first of the documents
abbrev pub postings_lines : Index → ℕ → ℕ → Option IndexedTerm → ℕ → ℕ → List ℕ
postings_lines x place from None seek advance = line (codes "segment" ▹ decimal place) ++ line (codes "seek" ▹ decimal seek)
postings_lines x place from (Some t) seek advance =
    line (codes "segment" ▹ decimal place) ++ (line (codes "seek" ▹ decimal seek) ++ (line (codes "advance" ▹ decimal advance) ++ reached_lines x from t))

-- so many steps are within the bound of the jump of this term of the segment
pub record IsWithinJump (s : SegmentValue) (t : IndexedTerm) (from advance : ℕ) : Type 0 where
  pub number : ℕ
  pub info : TermInfo
  pub is_sought : term_at s number ≡ t
  pub is_term : IsTermOf s number info
  pub bound : advance ≤ most_steps_to (postings_of s number info s.index.deleted) from

-- the jump's bound where there is a term to jump in; else there is no jump
abbrev pub JumpIsBound : SegmentValue → ℕ → Option IndexedTerm → ℕ → Type 0
JumpIsBound s from None advance = advance ≡ 0
JumpIsBound s from (Some t) advance = IsWithinJump s t from advance

-- what `postings` prints of a segment for a field, a text and a first document: within the bounds of the search and of the jump
pub record IsReachedText (s : SegmentValue) (place : ℕ) (field text : List ℕ) (from : ℕ) (lines : List ℕ) : Type 0 where
  pub seek : ℕ
  pub advance : ℕ
  pub found : seek ≤ most_seek_steps s.dictionary
  pub jumped : JumpIsBound s from (term_named s.index field text) advance
  pub lines_are : lines ≡ postings_lines s.index place from (term_named s.index field text) seek advance
