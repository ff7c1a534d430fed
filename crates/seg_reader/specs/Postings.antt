-- A walk over the entries of a term: which entry is answered next, and in how many steps (docs/FORMAT.md, "Indexes").
use Rattle.std.specs.Prelude.{ℕ, ◌+◌, Bool, true, not, ◌&&◌, nat_le, nat_lt, List, [], length, filter, Option, Some, None}
use Rattle.std.specs.List.{find}
use Rattle.lu_types.specs.Occurrences.{Occurrence}
use Rattle.lu_types.specs.declared.term.TermInfo.{TermInfo}
use Rattle.lu_model.specs.Index.{KeptOccurrences, given, omitted, IndexedEntry}
use Rattle.freq_skips.specs.Points.{most_steps}
use Rattle.doc_marks.specs.Marking.{is_in}
use Rattle.check_index.specs.Segments.{SegmentValue}
use Rattle.check_index.specs.Opened.{ruled_term}
use Rattle.seg_reader.specs.Terms.{term_at}

-- a walk: the entries of the term, the documents that are passed over, the first document that may be answered next, the entry where the walk
-- stands, those of its occurrences that were not answered yet, how many documents the segment has, the most steps that a search of the term's skip
-- data takes, and the interval of these
pub record PostingsWalk : Type 0 where
  pub entries : List IndexedEntry
  pub hidden : List ℕ
  pub from : ℕ
  pub here : Option IndexedEntry
  pub left : List Occurrence
  pub size : ℕ
  pub search : ℕ
  pub interval : ℕ

-- the occurrences that are kept
abbrev pub occurrences_kept : KeptOccurrences → List Occurrence
occurrences_kept (given occurrences) = occurrences
occurrences_kept omitted = []

-- a walk over the entries of the term with a number, of which the dictionary says this, that passes over these documents; it stands before the first
abbrev pub postings_of : SegmentValue → ℕ → TermInfo → List ℕ → PostingsWalk
postings_of s n info hidden = record {
  entries = (term_at s n).entries;
  hidden = hidden;
  from = 0;
  here = None;
  left = [];
  size = s.index.size;
  search = most_steps (ruled_term s info);
  interval = s.dictionary.numbers.skip_interval;
}

-- ---- which entry is next

-- the entry is not before this document, nor below the target
abbrev pub is_ahead : ℕ → ℕ → IndexedEntry → Bool
is_ahead from target e = nat_le from e.document && nat_le target e.document

-- and its document is not passed over
abbrev pub may_answer : List ℕ → ℕ → ℕ → IndexedEntry → Bool
may_answer hidden from target e = is_ahead from target e && not (is_in e.document hidden)

-- the entry that is answered next: the first one ahead that is not passed over
abbrev pub next_entry : PostingsWalk → ℕ → Option IndexedEntry
next_entry w target = find (may_answer w.hidden w.from target) w.entries

-- the walk behind that answer; once nothing was answered, nothing more is
abbrev pub answered : PostingsWalk → Option IndexedEntry → PostingsWalk
answered w (Some e) = record w { from = e.document + 1; here = Some e; left = occurrences_kept e.occurrences }
answered w None = record w { from = w.size; here = None; left = [] }

-- the entries that may still be answered, in order
abbrev pub entries_left : PostingsWalk → List IndexedEntry
entries_left w = filter (may_answer w.hidden w.from 0) w.entries

-- ---- the steps

-- the document is below that of the answer; every document is where there is none
abbrev pub is_before : Option IndexedEntry → ℕ → Bool
is_before None document = true
is_before (Some e) document = nat_lt document e.document

-- the entries ahead that are passed over on the way to the answer
abbrev pub passed_over : PostingsWalk → ℕ → List IndexedEntry
passed_over w target = filter (λ e. is_ahead w.from target e && (is_in e.document w.hidden && is_before (next_entry w target) e.document)) w.entries

-- the most steps to the answer: those of the search, as many entries as stand between two data, the entries passed over, and two
abbrev pub most_steps_to : PostingsWalk → ℕ → ℕ
most_steps_to w target = w.search + (w.interval + (length (passed_over w target) + 2))
