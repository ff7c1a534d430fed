-- What the parts of a segment that was checked stand for, and how they belong together (format page, "Indexes").
use Rattle.std.specs.Prelude.{◌≡◌, ℕ, ◌<◌, ◌^◌, false, List, [], length, Some, IfSome, slice_get, slice_index_or, option_map, option_copied}
use Rattle.lu_types.specs.declared.term.TermInfo.{TermInfo}
use Rattle.term_index.specs.Seeking.{AreChecked}
use Rattle.lu_types.specs.Bits as bit
use Rattle.lu_types.specs.Bits.{has_bit}
use Rattle.lu_types.specs.Tables.{bits_at}
use Rattle.lu_types.specs.Occurrences.{Occurrence}
use Rattle.lu_types.specs.Terms.{term_rules}
use Rattle.freq_skips.specs.declared.rules.RuledTerm.{RuledTerm}
use Rattle.freq_skips.specs.Terms.{TermData, ruled_by}
use Rattle.freq_skips.specs.Walks.{WalkState}
use Rattle.freq_skips.specs.Points.{KnownTerm, IsPoint}
use Rattle.freq_skips.specs.declared.skip_point.SkipPoint.{SkipPoint}
use Rattle.term_dict.specs.Facts.{AreGoodTerms}
use Rattle.positions.specs.Cursors.{CursorState, IsAmong}
use Rattle.lu_model.specs.Valid.{IsValid}
use Rattle.check_index.specs.declared.standing.OpenContents.{OpenContents}
use Rattle.check_index.specs.declared.standing.OpenColumns.{OpenColumns}
use Rattle.check_index.specs.Terms.{listed_terms, lists_in, AreListed}
use Rattle.check_index.specs.Positions.{occurrences_in, ArePositions}
use Rattle.check_index.specs.Vectors.{HaveSome, vectors_seen}
use Rattle.check_index.specs.Segments.{Contents, Columns, SegmentValue, segment_value}

-- what the open files of a segment of so many documents stand for
abbrev pub contents_of : ℕ → OpenContents → Contents
contents_of size o = record {
  fields = o.fields;
  stored = o.stored;
  terms = listed_terms o.terms.terms (lists_in o.fields size o.terms.terms o.terms.frq.now);
  occurrences = occurrences_in o.fields size o.terms.terms (lists_in o.fields size o.terms.terms o.terms.frq.now) (option_copied o.prx);
}

abbrev pub columns_of : ℕ → OpenColumns → Columns
columns_of size o = record { norms = o.norms; deleted = o.live.documents; vectors = vectors_seen size o.vectors }

-- they belong together
pub record IsTied (size : ℕ) (contents : OpenContents) (columns : OpenColumns) : Type 0 where
  pub valid : IsValid (segment_value size (contents_of size contents) (columns_of size columns)).index
  pub checked : AreChecked contents.terms.tii.now contents.terms.terms contents.fields
  pub listed : AreListed contents.fields size contents.terms.terms contents.terms.frq.now (lists_in contents.fields size contents.terms.terms contents.terms.frq.now)
  pub good : AreGoodTerms contents.fields size contents.terms.terms
  pub small : length contents.terms.frq.now < 2 ^ 31
  pub posted : ArePositions contents.fields size contents.terms.terms (lists_in contents.fields size contents.terms.terms contents.terms.frq.now) (option_copied contents.prx)
  pub norms : length columns.norms ≡ length contents.fields
  pub live : columns.live.size ≡ size
  pub vectors : IfSome columns.vectors HaveSome

-- the dictionary says this of the term with a number
abbrev pub IsTermOf : SegmentValue → ℕ → TermInfo → Type 0
IsTermOf s n info = option_map (λ t. t.info) (slice_get s.dictionary.terms n) ≡ Some info

-- nothing read of a term
abbrev pub no_data : TermData
no_data = record { postings = []; levels = [] }

-- a term by what the dictionary says of it, with what its entries are read by
abbrev pub ruled_term : SegmentValue → TermInfo → RuledTerm
ruled_term s info = ruled_by info (term_rules s.dictionary.numbers (bits_at s.index.fields info.field) s.index.size)

-- what stands in `.frq` of the term with a number
abbrev pub data_of : SegmentValue → ℕ → TermData
data_of s n = slice_index_or s.lists n no_data

-- a walk over the entries of the term with a number, of which the dictionary says this, before the first
abbrev pub entries_of : SegmentValue → ℕ → TermInfo → WalkState
entries_of s n info = record { term = ruled_term s info; value = data_of s n; passed = 0 }

-- the skip data of the term
abbrev pub skips_of : SegmentValue → ℕ → TermInfo → KnownTerm
skips_of s n info = record { term = ruled_term s info; value = data_of s n }

-- the point is the term's start, or one that its skip data give
abbrev pub IsPointOf : SegmentValue → ℕ → TermInfo → SkipPoint → Type 0
IsPointOf s n info point = IsTermOf s n info × IsPoint (ruled_term s info) (data_of s n) point

-- the field of the term keeps positions
abbrev pub KeepsPositions : SegmentValue → TermInfo → Type 0
KeepsPositions s info = has_bit bit.omit_tf (bits_at s.index.fields info.field) ≡ false

-- a cursor over these occurrences of the term stands where a point leads, and no document is open
abbrev pub StandsAt : SegmentValue → ℕ → TermInfo → SkipPoint → List (List Occurrence) → CursorState → Type 0
StandsAt s n info point occurrences cursor = IsAmong (ruled_term s info) (data_of s n) occurrences point.passed [] cursor

-- the occurrences of the term, entry by entry
abbrev pub occurrences_of : SegmentValue → ℕ → List (List Occurrence)
occurrences_of s n = slice_index_or s.occurrences n []
