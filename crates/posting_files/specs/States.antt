-- Writers of terms, and of which terms they hold the canonical files.
use Rattle.std.specs.Prelude.{◌≡◌, ◌<◌, ◌⊎◌, ℕ, Bool, false, cond, List, [], ◌∷◌, ◌++◌, length, map, nat_le, None, Some, Result, Ok, Err}
use Rattle.lu_model.specs.Index.{IndexedEntry}
use Rattle.lu_types.specs.Occurrences.{Occurrence as IndexedOccurrence}
use Rattle.freq_skips.specs.declared.writer.Handed.{Handed}
use Rattle.freq_skips.specs.Written.{entries_bytes}
use Rattle.freq_skips.specs.Writing as frq
use Rattle.freq_skips.specs.Writing.{FrqWriting, bytes_so_far, skip_delta}
use Rattle.positions.specs.Writing as prx
use Rattle.positions.specs.Writing.{WriterState, HoldsTerm, HoldsDocument}
use Rattle.term_dict.specs.Terms.{DictionaryTerm}
use Rattle.term_dict.specs.Writing.{TermsWritten, no_terms_written, with_written}
use Rattle.lu_types.specs.declared.kind.FileKind.TheVariants.{Prx, Frq, Tis, Tii}
use Rattle.lu_types.specs.declared.kind.FileKind.{FileKind}
use Rattle.lu_types.specs.declared.named_file.NamedFile.{NamedFile}
use Rattle.posting_files.specs.declared.writer.PostingFiles.{PostingFiles}
use Rattle.posting_files.specs.declared.fault.PostingFault.{PostingFault}
use Rattle.posting_files.specs.declared.fault.PostingFault.TheVariants.{TooLarge, OutOfMemory}
use Rattle.segment_files.specs.Written.{first_past}
use Rattle.segment_files.specs.Postings.{PostingIntervals, PostingParts, KeptTerm, lines_written, tis_bytes, tii_bytes, parts_of, frq_writing, handed_from, prx_entries, prx_occurrence}

-- ---- the files of terms and entries

-- a writer of terms and entries: the greatest length of a file, the writers of both, and the place in `.frq` of the term that was begun last
pub record ListState : Type 0 where
  pub limit : ℕ
  pub terms : TermsWritten
  pub freq : FrqWriting
  pub place : ℕ

-- `.frq` is within the limit so far; once it is not, nothing more is written of terms and entries
abbrev pub is_within_limit : ListState → Bool
is_within_limit s = nat_le (length (bytes_so_far s.freq)) s.limit

-- of no terms
abbrev pub no_lists : ℕ → PostingIntervals → ListState
no_lists limit intervals = record {
  limit = limit;
  terms = no_terms_written intervals.index intervals.skip intervals.levels;
  freq = record { interval = intervals.skip; most = intervals.levels; bytes = []; omit = false; payloads = false; entries = [] };
  place = 0;
}

-- a term is begun
abbrev pub list_begun : ListState → Bool → Bool → ListState
list_begun s omit payloads =
    cond (is_within_limit s) (record { limit = s.limit; terms = s.terms; freq = frq.entries_begun s.freq omit payloads; place = length s.freq.bytes }) s

-- an entry is added
abbrev pub list_added : ListState → Handed → ListState
list_added s h = cond (is_within_limit s) (record { limit = s.limit; terms = s.terms; freq = frq.entry_added s.freq h; place = s.place }) s

-- the line of a term that is finished
abbrev pub finished_line : ListState → ℕ → List ℕ → ℕ → DictionaryTerm
finished_line s field text prox = record {
  text = text;
  info = record { field = field; doc_freq = length s.freq.entries; freq = s.place; prox = prox; skip = skip_delta s.freq };
}

-- a term is finished under a text, its positions from this place on
abbrev pub list_finished : ListState → ℕ → List ℕ → ℕ → ListState
list_finished s field text prox = cond (is_within_limit s)
    (record { limit = s.limit; terms = with_written s.terms (finished_line s field text prox); freq = frq.finished s.freq; place = s.place }) s

-- the settings and the lines of the dictionary are these
pub record HoldsLines (intervals : PostingIntervals) (parts : PostingParts) (s : ListState) : Type 0 where
  pub terms : s.terms ≡ lines_written intervals parts.lines

-- both files are those of these parts, and no term is begun
pub record HoldsLists (intervals : PostingIntervals) (parts : PostingParts) (s : ListState) : Type 0 where
  pub lines : HoldsLines intervals parts s
  pub interval : s.freq.interval ≡ intervals.skip
  pub most : s.freq.most ≡ intervals.levels
  pub bytes : s.freq.bytes ≡ parts.frq
  pub none : s.freq.entries ≡ []

-- the same, but a term is begun behind these parts and has these entries so far
pub record HoldsTermLists (intervals : PostingIntervals) (parts : PostingParts) (omit payloads : Bool) (entries : List IndexedEntry) (s : ListState) : Type 0 where
  pub lines : HoldsLines intervals parts s
  pub freq : s.freq ≡ frq_writing intervals omit payloads parts.frq entries
  pub place : s.place ≡ length parts.frq

-- `.frq` passed the limit, as these bytes do
pub record IsPast (bytes : List ℕ) (s : ListState) : Type 0 where
  pub stopped : is_within_limit s ≡ false
  pub long : s.limit < length bytes

-- both files are those of these parts so far, as far as `.frq` is within the limit
abbrev pub AreLists : PostingIntervals → PostingParts → ListState → Type 0
AreLists intervals parts s = HoldsLists intervals parts s ⊎ IsPast parts.frq s

-- the bytes of entries behind these parts
abbrev pub frq_so_far : PostingParts → Bool → Bool → List IndexedEntry → List ℕ
frq_so_far parts omit payloads entries = parts.frq ++ entries_bytes omit 0 (handed_from payloads 0 entries)

-- the same, but a term is begun behind these parts and has these entries so far
abbrev pub AreTermLists : PostingIntervals → PostingParts → Bool → Bool → List IndexedEntry → ListState → Type 0
AreTermLists intervals parts omit payloads entries s =
    HoldsTermLists intervals parts omit payloads entries s ⊎ IsPast (frq_so_far parts omit payloads entries) s

-- ---- all files

-- a writer of all files of terms: that of terms and entries, and that of positions
pub record PostingState : Type 0 where
  pub lists : ListState
  pub prox : WriterState

-- of no terms
abbrev pub no_postings : ℕ → PostingIntervals → PostingState
no_postings limit intervals = record {
  lists = no_lists limit intervals;
  prox = record { bytes = []; payloads = false; start = 0; before = None; position = 0 };
}

-- a term is begun
abbrev pub term_begun : PostingState → Bool → Bool → PostingState
term_begun s omit payloads = record { lists = list_begun s.lists omit payloads; prox = prx.occurrences_begun s.prox payloads }

-- an entry is begun
abbrev pub entry_begun : PostingState → PostingState
entry_begun s = record { lists = s.lists; prox = prx.document_begun s.prox }

-- the entry that is begun has one more occurrence
abbrev pub occurrence_put : PostingState → IndexedOccurrence → PostingState
occurrence_put s o = record { lists = s.lists; prox = prx.occurrence_added s.prox (prx_occurrence o) }

-- an entry is handed to the writer of `.frq`
abbrev pub entry_put : PostingState → Handed → PostingState
entry_put s h = record { lists = list_added s.lists h; prox = s.prox }

-- a term is finished
abbrev pub term_finished : PostingState → ℕ → List ℕ → PostingState
term_finished s field text = record { lists = list_finished s.lists field text s.prox.start; prox = s.prox }

-- the limit is passed by the positions
abbrev pub IsProxPast : PostingState → Type 0
IsProxPast s = s.lists.limit < length s.prox.bytes

-- what a step answers: the writer is as wanted; or its positions pass the limit; or there was no memory
abbrev pub PostingSteps : PostingState → PostingState → PostingState → Result (Unit {0}) PostingFault → Type 0
PostingSteps wanted old new (Ok done) = new ≡ wanted
PostingSteps wanted old new (Err (TooLarge kind)) = (kind ≡ Prx) × IsProxPast old
PostingSteps wanted old new (Err OutOfMemory) = Unit {0}

-- the same, where a step answers a number
abbrev pub StepsTo : (ℕ → Type 0) → PostingState → Result ℕ PostingFault → Type 0
StepsTo wanted old (Ok n) = wanted n
StepsTo wanted old (Err (TooLarge kind)) = (kind ≡ Prx) × IsProxPast old
StepsTo wanted old (Err OutOfMemory) = Unit {0}

-- all files are those of these terms so far
pub record ArePostings (intervals : PostingIntervals) (limit : ℕ) (terms : List KeptTerm) (s : PostingState) : Type 0 where
  pub bound : s.lists.limit ≡ limit
  pub lists : AreLists intervals (parts_of intervals terms) s.lists
  pub prx : s.prox.bytes ≡ (parts_of intervals terms).prx

-- the same, but a term is begun behind these and has these entries so far
pub record IsTermBegun (intervals : PostingIntervals) (limit : ℕ) (terms : List KeptTerm) (omit payloads : Bool) (entries : List IndexedEntry) (s : PostingState) : Type 0 where
  pub bound : s.lists.limit ≡ limit
  pub lists : AreTermLists intervals (parts_of intervals terms) omit payloads entries s.lists
  pub prx : HoldsTerm s.prox payloads (parts_of intervals terms).prx (prx_entries entries)

-- the same, but an entry is begun besides and has these occurrences so far
pub record IsEntryBegun (intervals : PostingIntervals) (limit : ℕ) (terms : List KeptTerm) (omit payloads : Bool) (entries : List IndexedEntry) (now : List IndexedOccurrence) (s : PostingState) : Type 0 where
  pub bound : s.lists.limit ≡ limit
  pub lists : AreTermLists intervals (parts_of intervals terms) omit payloads entries s.lists
  pub prx : HoldsDocument s.prox payloads (parts_of intervals terms).prx (prx_entries entries) (map prx_occurrence now)

-- ---- at the end

-- a file of a kind
abbrev pub named : FileKind → List ℕ → NamedFile
named kind bytes = record { kind = kind; bytes = bytes }

-- the files of terms, in the order in which they are written
abbrev pub in_written_order : List ℕ → List ℕ → TermsWritten → List NamedFile
in_written_order prx frq terms = named Prx prx ∷ named Frq frq ∷ named Tis (tis_bytes terms) ∷ named Tii (tii_bytes terms) ∷ []

-- those that a writer holds
abbrev pub held_files : PostingState → List NamedFile
held_files s = in_written_order s.prox.bytes (bytes_so_far s.lists.freq) s.lists.terms

-- those of terms
abbrev pub canonical_postings : PostingIntervals → List KeptTerm → List NamedFile
canonical_postings intervals terms = let parts = parts_of intervals terms in in_written_order parts.prx parts.frq (lines_written intervals parts.lines)

-- the files that a call gave
abbrev pub given_files : PostingFiles → List NamedFile
given_files f = named Prx f.prx ∷ named Frq f.frq ∷ named Tis f.tis ∷ named Tii f.tii ∷ []

-- what the writer's end answers, of which these are the files: them, where none passes the limit; the kind of the first that does; or that there was no memory
abbrev pub Finishes : ℕ → List NamedFile → Result PostingFiles PostingFault → Type 0
Finishes limit files (Ok f) = (first_past limit files ≡ None) × (given_files f ≡ files)
Finishes limit files (Err (TooLarge kind)) = first_past limit files ≡ Some kind
Finishes limit files (Err OutOfMemory) = Unit {0}
