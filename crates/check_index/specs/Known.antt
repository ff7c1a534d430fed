-- What is known of the terms of a segment that was checked (format page, "Indexes").
use Rattle.std.specs.Prelude.{◌≡◌, ℕ, length}
use Rattle.lu_types.specs.declared.term.TermInfo.{TermInfo}
use Rattle.check_index.specs.Segments.{SegmentValue}
use Rattle.check_index.specs.Opened.{IsTermOf, data_of, KeepsPositions, occurrences_of}

-- there are data and occurrences of each term of the dictionary: as many entries as the dictionary says, and the occurrences of each of these where
-- the field keeps positions
pub record AreKnown (s : SegmentValue) : Type 0 where
  pub lists : length s.lists ≡ length s.dictionary.terms
  pub occurrences : length s.occurrences ≡ length s.dictionary.terms
  pub entries : (n : ℕ) (info : TermInfo) → IsTermOf s n info → length (data_of s n).postings ≡ info.doc_freq
  pub kept : (n : ℕ) (info : TermInfo) → IsTermOf s n info → KeepsPositions s info → length (occurrences_of s n) ≡ info.doc_freq
