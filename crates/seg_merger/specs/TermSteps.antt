-- How far a merge of terms has come, and what its steps answer.
use Rattle.std.specs.Prelude.{◌≡◌, ◌<◌, ◌≤◌, ℕ, Bool, List, [], ◌∷◌, ◌++◌, length, map, filter, Option, Some, None, Result, Ok, Err}
use Rattle.lu_types.specs.Occurrences.{Occurrence}
use Rattle.lu_types.specs.declared.kind.FileKind.TheVariants.{Prx}
use Rattle.lu_model.specs.Index.{Term, IndexedEntry}
use Rattle.lu_model.specs.Valid.{IsSmall}
use Rattle.segment_files.specs.Postings.{PostingIntervals, KeptTerm, kept_term, parts_of, prx_bytes}
use Rattle.posting_files.specs.States.{PostingState, ArePostings, IsTermBegun, IsEntryBegun}
use Rattle.seg_writer.specs.declared.fault.WriteFault.{WriteFault}
use Rattle.seg_writer.specs.declared.fault.WriteFault.TheVariants.{Doc, TooLarge, OutOfMemory}
use Rattle.seg_merger.specs.TermSources.{SourceTerm, first_term, number_of_first}
use Rattle.seg_merger.specs.TermRests.{AreEntries, has_entries}
use Rattle.seg_merger.specs.declared.terms.merging.MergedField.{MergedField}

-- ---- terms

-- the writer holds some of all these terms, and the others are left
abbrev pub IsOn : PostingIntervals → ℕ → List KeptTerm → List KeptTerm → PostingState → Type 0
IsOn intervals limit all left s = (done : List KeptTerm) × ArePostings intervals limit done s × (done ++ left ≡ all)

-- why not all terms were written: their positions pass the limit, or there was no memory
abbrev pub FailsOn : PostingIntervals → ℕ → List KeptTerm → WriteFault → Type 0
FailsOn intervals limit all (Doc number fault) = ⊥
FailsOn intervals limit all (TooLarge kind) = (kind ≡ Prx) × (limit < length (parts_of intervals all).prx)
FailsOn intervals limit all OutOfMemory = Unit {0}

-- after a step the writer still holds some of all these terms, and these are left; or the merge fails
abbrev pub GoesOn : {X : Type 0} → PostingIntervals → ℕ → List KeptTerm → List KeptTerm → PostingState → Result X WriteFault → Type 0
GoesOn intervals limit all left new (Ok x) = IsOn intervals limit all left new
GoesOn intervals limit all left new (Err fault) = FailsOn intervals limit all fault

-- the term with this text and these entries in a field, if it has an entry
abbrev pub term_if_any : MergedField → List ℕ → List IndexedEntry → List KeptTerm
term_if_any field text entries = map (kept_term field.bits) (filter has_entries (record { field = field.number; text = text; entries = entries } ∷ []))

-- a first term was kept, and this is the number of its field; or there is none
abbrev pub TakesHead : List SourceTerm → Term → Option ℕ → Type 0
TakesHead left kept None = left ≡ []
TakesHead left kept (Some number) = (first_term left ≡ Some kept) × (number ≡ number_of_first left)

-- ---- entries of a term

-- a term is begun in the files, behind these terms, in a field that keeps so much
pub record TermPlace : Type 0 where
  pub intervals : PostingIntervals
  pub limit : ℕ
  pub terms : List KeptTerm
  pub omit : Bool
  pub payloads : Bool

-- the writer holds these entries of it
abbrev pub HasTermEntries : TermPlace → List IndexedEntry → PostingState → Type 0
HasTermEntries at entries s = IsTermBegun at.intervals at.limit at.terms at.omit at.payloads entries s

-- besides, these occurrences of an entry that is begun
abbrev pub HasEntryOccurrences : TermPlace → List IndexedEntry → List Occurrence → PostingState → Type 0
HasEntryOccurrences at entries now s = IsEntryBegun at.intervals at.limit at.terms at.omit at.payloads entries now s

-- the writer holds some of all these entries, and the others are left
abbrev pub IsInTerm : TermPlace → List IndexedEntry → List IndexedEntry → PostingState → Type 0
IsInTerm at all left s = (done : List IndexedEntry) × HasTermEntries at done s × (done ++ left ≡ all)

-- why not all entries were written: their positions pass the limit, or there was no memory
abbrev pub FailsInTerm : TermPlace → List IndexedEntry → WriteFault → Type 0
FailsInTerm at all (Doc number fault) = ⊥
FailsInTerm at all (TooLarge kind) = (kind ≡ Prx) × (at.limit < length ((parts_of at.intervals at.terms).prx ++ prx_bytes at.payloads all))
FailsInTerm at all OutOfMemory = Unit {0}

-- after a step the writer still holds some of all these entries, and these are left; or the merge fails
abbrev pub GoesOnInTerm : {X : Type 0} → TermPlace → List IndexedEntry → List IndexedEntry → PostingState → Result X WriteFault → Type 0
GoesOnInTerm at all left new (Ok x) = IsInTerm at all left new
GoesOnInTerm at all left new (Err fault) = FailsInTerm at all fault

-- a term is begun, and these entries are left that a field with these bits keeps
abbrev pub IsGoing : ℕ → List IndexedEntry → PostingState → Type 0
IsGoing bits left s = (at : TermPlace) × (all : List IndexedEntry) × IsInTerm at all left s × AreEntries bits all

-- ---- occurrences of an entry

-- occurrences can be written behind a position
abbrev pub AreWritable : ℕ → List Occurrence → Type 0
AreWritable position [] = Unit {0}
AreWritable position (o ∷ os) = (position ≤ o.position) × IsSmall o.position × IsSmall (length o.payload) × AreWritable o.position os
