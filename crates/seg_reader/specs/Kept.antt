-- What a reader keeps beside the files of its segment.
use Rattle.std.specs.Prelude.{◌≡◌, Bool, List}
use Rattle.doc_marks.specs.Marking.{flags_of}
use Rattle.term_index.specs.Seeking.{Searched, searched, names_of}
use Rattle.check_index.specs.Segments.{SegmentValue}

-- the marks are those of the deleted documents, and the terms that are sought are those of the segment
pub record AreOf (s : SegmentValue) (marks : List Bool) (index : Searched) : Type 0 where
  pub deleted : marks ≡ flags_of 0 s.index.size s.index.deleted
  pub sought : index ≡ searched s.dictionary (names_of s.index.fields)
