-- Deleted documents, as they are lent from the bytes of a `.del`.
use Rattle.std.specs.Prelude.{◌≡◌, ℕ, ◌≤◌, List, [], length, drop, Ok}
use Rattle.lu_grammar.specs.Bytes.{IsBytes, Cursor}
use Rattle.lu_grammar.specs.Plans.{read_plan}
use Rattle.doc_marks.specs.Marking.{marked, AreRising}
use Rattle.doc_marks.specs.Deletions.{body_bytes, no_pairs, pairs_plan, pairs_documents}
use Rattle.doc_marks.specs.declared.segment.Segment.{Segment}
use Rattle.doc_marks.specs.declared.form.Form.{Form}
use Rattle.doc_marks.specs.declared.form.Form.TheVariants.{Nothing, Dense, Sparse}

-- how many documents a segment has, and which of them are deleted
pub record Deletions : Type 0 where
  pub size : ℕ
  pub documents : List ℕ

-- behind the three numbers of the sparse form
abbrev pub behind_header : List ℕ → Cursor
behind_header del = record { place = 12; rest = drop 12 del }

-- the documents that are marked
abbrev pub deleted_in : Form → Segment → List ℕ
deleted_in Nothing s = []
deleted_in (Dense body) s = marked body.now
deleted_in (Sparse del) s = pairs_documents s.size s.count (behind_header del.now)

-- the bytes are there, and were read
abbrev pub IsReadForm : Form → Segment → Type 0
IsReadForm Nothing s = Unit {0}
IsReadForm (Dense body) s = length body.now ≡ body_bytes s.size
IsReadForm (Sparse del) s =
    (12 ≤ length del.now) × IsBytes del.now × ((to : Cursor) × (read_plan (pairs_plan s.size s.count s.count no_pairs) (behind_header del.now) ≡ Ok (pairs_documents s.size s.count (behind_header del.now), to)))

-- deleted documents of the segment: rising, below its size, and as many as are counted
pub record IsSoundForm (form : Form) (s : Segment) : Type 0 where
  pub read : IsReadForm form s
  pub rise : AreRising 0 s.size (deleted_in form s)
  pub number : length (deleted_in form s) ≡ s.count
