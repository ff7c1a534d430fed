-- The entries of the index as the program reads them, beside a walk over the terms.
use Rattle.std.specs.Prelude.{◌≡◌, ℕ, ◌+◌, ◌<◌, ◌^◌, List, take, Option, Some, None, Ok, Err}
use Rattle.lu_grammar.specs.Bytes.{Cursor}
use Rattle.lu_types.specs.declared.term.TermInfo.{TermInfo}
use Rattle.lu_grammar.specs.Records.{record_at}
use Rattle.term_dict.specs.declared.heading.Heading.{Heading}
use Rattle.lu_types.specs.declared.term.TermNumbers.{TermNumbers}
use Rattle.term_dict.specs.Checks.{record_of}
use Rattle.term_dict.specs.Headings.{Line, heading, entry, header, heading_of}
use Rattle.term_dict.specs.Entries.{TermRecord, term_record_of, IsBounded}
use Rattle.term_dict.specs.Terms.{DictionaryTerm}
use Rattle.term_dict.specs.Dictionary.{Dictionary}
use Rattle.term_dict.specs.Index.{IndexEntry, index_heading_conditions, IndexProgress, index_kind, with_entry, index_entry_term, indexed_place}
use Rattle.term_dict.specs.Walk.{TermWalk, term_passed}
use Rattle.term_index.specs.declared.checking.LastPoint.{LastPoint}
use Rattle.term_index.specs.declared.point.IndexPoint.{IndexPoint}

-- what an entry of the program says
abbrev pub index_point_of : IndexPoint → IndexEntry
index_point_of p = record { term = term_record_of p.term; step = p.step }

-- its numbers are within their limits
abbrev pub IsBoundedPoint : IndexPoint → Type 0
IsBoundedPoint p = IsBounded p.term × (p.step < 2 ^ 63)

-- so many bytes of the last texts of two walks are the same
abbrev pub ShareFront : ℕ → List ℕ → TermWalk → Type 0
ShareFront n text w = take n text ≡ take n (term_passed w).text

-- what an entry says after what the last one said
abbrev pub info_after : TermInfo → TermRecord → TermInfo
info_after last e = record { field = e.field; doc_freq = e.doc_freq; freq = last.freq + e.freq; prox = last.prox + e.prox; skip = e.skip }

-- the term of the last entry of the program
abbrev pub last_term_of : LastPoint → DictionaryTerm
last_term_of p = record { text = p.text.items; info = p.info }

-- the last term that a walk passed, of which this is said
abbrev pub wanted_of : TermInfo → TermWalk → DictionaryTerm
wanted_of info w = record { text = (term_passed w).text; info = info }

-- so many entries passed, the term of the last, and its place
abbrev pub progress : ℕ → DictionaryTerm → ℕ → IndexProgress
progress n last place = record { passed = n; last = last; place = place }

-- the next entry stands between two places and is good; or the rule is broken first
abbrev pub IsNextPoint : Dictionary → IndexProgress → Cursor → Cursor → Option ℕ → Type 0
IsNextPoint d s old new None = (e : IndexEntry) × (record_of (index_kind d) s old ≡ Ok (entry e, new)) × (with_entry s e ≡ progress (s.passed + 1) (index_entry_term d s.passed) (indexed_place d s.passed))
IsNextPoint d s old new (Some rule) = record_of (index_kind d) s old ≡ Err rule

-- a good header of the index of terms with these numbers stands between two places; or the rule is broken first
abbrev pub IsIndexHeader : TermNumbers → Cursor → Cursor → Option ℕ → Type 0
IsIndexHeader numbers old new None = (h : Heading) × (record_at {R = Line IndexEntry} header (λ line. index_heading_conditions numbers (heading_of line)) old ≡ Ok (heading h, new))
IsIndexHeader numbers old new (Some rule) = record_at {R = Line IndexEntry} header (λ line. index_heading_conditions numbers (heading_of line)) old ≡ Err rule
