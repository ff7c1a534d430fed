-- The entries of a text, out of a column.
use Rattle.std.specs.Prelude.{◌≡◌, ◌<◌, ◌≤◌, ◌^◌, ◌⊎◌, ◌==◌, ℕ, suc, Bool, true, false, cond, List, [], ◌∷◌, ◌++◌, length, map, drop, All, slice_index_or, Result, Ok, Err}
use Rattle.lu_types.specs.DocFaults.{AreSoundTokens}
use Rattle.lu_types.specs.Joins.{is_empty}
use Rattle.std.specs.List.{AllByRecursion}
use Rattle.lu_types.specs.declared.document.Document.{Document}
use Rattle.lu_types.specs.declared.document.IndexedField.{IndexedField}
use Rattle.lu_types.specs.declared.document.Token.{Token}
use Rattle.lu_types.specs.declared.kind.FileKind.TheVariants.{Prx}
use Rattle.lu_model.specs.Contents.{tokens_with}
use Rattle.lu_model.specs.Index.{KeptOccurrences, given, omitted, IndexedEntry}
use Rattle.lu_types.specs.Occurrences.{Occurrence}
use Rattle.freq_skips.specs.Written.{last_doc}
use Rattle.segment_files.specs.Postings.{PostingIntervals, KeptTerm, parts_of, prx_bytes}
use Rattle.posting_files.specs.States.{PostingState, ArePostings, IsTermBegun, is_within_limit}
use Rattle.seg_writer.specs.Columns.{IsNumberable, tokens_in_field, uses_from}
use Rattle.seg_writer.specs.declared.appearance.Appearance.{Appearance}
use Rattle.seg_writer.specs.declared.inverted.Use.{Use}
use Rattle.seg_writer.specs.declared.fault.WriteFault.{WriteFault}
use Rattle.seg_writer.specs.declared.fault.WriteFault.TheVariants.{Doc, TooLarge, OutOfMemory}

-- ---- occurrences

-- the occurrence that a token is
abbrev pub occurrence_of_token : Token → Occurrence
occurrence_of_token token = record { position = token.position; payload = token.payload }

-- what a field that omits positions, or not, keeps of the occurrences of some tokens in a list
abbrev pub listed_occurrences : Bool → List Token → List Occurrence
listed_occurrences omit tokens = cond omit [] (map occurrence_of_token tokens)

-- what it keeps of them in an entry
abbrev pub entry_occurrences : Bool → List Token → KeptOccurrences
entry_occurrences omit tokens = cond omit omitted (given (map occurrence_of_token tokens))

-- the entry of a document in which these tokens have the text
abbrev pub entry_with : Bool → ℕ → List Token → IndexedEntry
entry_with omit document tokens = record { document = document; occurrences = entry_occurrences omit tokens }

-- the entry of a document, where some of its tokens have the text
abbrev pub entry_if_any : Bool → ℕ → List Token → List IndexedEntry
entry_if_any omit document tokens = cond (is_empty tokens) [] (entry_with omit document tokens ∷ [])

-- the entries of a text in a column
abbrev pub entries_of_text : Bool → List ℕ → List Appearance → List IndexedEntry
entries_of_text omit text [] = []
entries_of_text omit text (a ∷ column) = entry_if_any omit a.doc (tokens_with text (tokens_in_field a)) ++ entries_of_text omit text column

-- ---- uses

-- no token
abbrev pub no_token : Token
no_token = record { text = []; position = 0; start = 0; end = 0; payload = [] }

-- the tokens that some uses are, among those of their field
abbrev pub tokens_at : List Token → List Use → List Token
tokens_at tokens uses = map (λ here. slice_index_or tokens here.token no_token) uses

-- how many of the first uses are in the field with a number
abbrev pub run_length : ℕ → List Use → ℕ
run_length entry [] = 0
run_length entry (here ∷ uses) = cond (here.entry == entry) (suc (run_length entry uses)) 0

-- some uses are among these tokens, which are sound in their order, and have their positions
pub record IsRun (tokens : List Token) (run : List Use) : Type 0 where
  pub within : All (λ here. here.token < length tokens) run
  pub sound : AreSoundTokens 0 (tokens_at tokens run)
  pub positions : All (λ here. here.position ≡ (slice_index_or tokens here.token no_token).position) run

-- no token has a payload, where that is so
abbrev pub IsBareUnless : Bool → List Token → Type 0
IsBareUnless payloads tokens = payloads ≡ false → All (λ token. token.payload ≡ []) tokens

-- the same of the tokens of each field
abbrev pub AreBareUnless : Bool → List Appearance → Type 0
AreBareUnless payloads column = All (λ a. IsBareUnless payloads (tokens_in_field a)) column

-- a column whose documents rise, and whose tokens are sound and can be numbered
pub record IsColumn (column : List Appearance) : Type 0 where
  pub numberable : IsNumberable column
  pub rise : (j k : ℕ) (d : Appearance) → j < k → k < length column → (slice_index_or column j d).doc < (slice_index_or column k d).doc
  pub small : All (λ a. a.doc < 2 ^ 31) column
  pub sound : All (λ a. AreSoundTokens 0 (tokens_in_field a)) column

-- ---- what a step answers

-- the writer holds the terms so far and these entries; or their positions pass the limit; or there was no memory
abbrev pub AddsEntries : PostingIntervals → ℕ → List KeptTerm → Bool → Bool → List IndexedEntry → PostingState → Result (Unit {0}) WriteFault → Type 0
AddsEntries intervals limit terms omit payloads entries new (Ok done) = IsTermBegun intervals limit terms omit payloads entries new
AddsEntries intervals limit terms omit payloads entries new (Err (Doc number fault)) = ⊥
AddsEntries intervals limit terms omit payloads entries new (Err (TooLarge kind)) = (kind ≡ Prx) × (limit < length ((parts_of intervals terms).prx ++ prx_bytes payloads entries))
AddsEntries intervals limit terms omit payloads entries new (Err OutOfMemory) = Unit {0}

-- the writer holds these terms; or their positions pass the limit; or there was no memory
abbrev pub AddsTerms : PostingIntervals → ℕ → List KeptTerm → PostingState → Result (Unit {0}) WriteFault → Type 0
AddsTerms intervals limit terms new (Ok done) = ArePostings intervals limit terms new
AddsTerms intervals limit terms new (Err (Doc number fault)) = ⊥
AddsTerms intervals limit terms new (Err (TooLarge kind)) = (kind ≡ Prx) × (limit < length (parts_of intervals terms).prx)
AddsTerms intervals limit terms new (Err OutOfMemory) = Unit {0}

-- ---- what may follow

-- the writer of `.frq`, while it is within the limit, may be handed this document
abbrev pub MayFollow : ℕ → PostingState → Type 0
MayFollow document s = is_within_limit s.lists ≡ true → (s.lists.freq.entries ≡ []) ⊎ (last_doc 0 s.lists.freq.entries < document)

-- a term is begun in a writer of terms, without entries
abbrev pub IsTermFresh : PostingState → Type 0
IsTermFresh s = (intervals : PostingIntervals) × (limit : ℕ) × (terms : List KeptTerm) × (omit : Bool) × (payloads : Bool) × IsTermBegun intervals limit terms omit payloads [] s

-- the writer writes terms, and none is begun
abbrev pub IsBetweenTerms : PostingState → Type 0
IsBetweenTerms s = (intervals : PostingIntervals) × (limit : ℕ) × (terms : List KeptTerm) × ArePostings intervals limit terms s

-- the document of the last entry, after a document
abbrev pub last_document : ℕ → List IndexedEntry → ℕ
last_document document [] = document
last_document document (e ∷ entries) = last_document e.document entries

-- of the uses of a text in a column these are left, and the entries of the fields before them were added
pub record IsPartly (column : List Appearance) (text : List ℕ) (omit : Bool) (rest : List Use) (old new : PostingState) : Type 0 where
  pub passed : ℕ
  pub entries : List IndexedEntry
  pub within : passed ≤ length column
  pub uses : rest ≡ uses_from text passed (drop passed column)
  pub all : entries ++ entries_of_text omit text (drop passed column) ≡ entries_of_text omit text column
  pub below : (k : ℕ) (d : Appearance) → passed ≤ k → k < length column → (entries ≡ []) ⊎ (last_document 0 entries < (slice_index_or column k d).doc)
  pub begun : (intervals : PostingIntervals) (limit : ℕ) (terms : List KeptTerm) (omit_tf payloads : Bool) → IsTermBegun intervals limit terms omit_tf payloads [] old
      → IsTermBegun intervals limit terms omit_tf payloads entries new

-- the tokens of a field can be numbered, and are sound
pub record IsWritableField (field : IndexedField) : Type 0 where
  pub few : length field.tokens < 2 ^ 31
  pub sound : AreSoundTokens 0 field.tokens

-- so are those of each indexed field of documents
abbrev pub AreWritableDocuments : List Document → Type 0
AreWritableDocuments docs = All (λ doc. AllByRecursion IsWritableField doc.indexed) docs
