-- A writer of `.prx`, and what it holds.
use Rattle.std.specs.Prelude.{◌≡◌, ◌≤◌, ◌<◌, ◌^◌, ℕ, Bool, false, List, [], ◌∷◌, ◌++◌, length, Option, Some, None}
use Rattle.lu_grammar.specs.Bytes.{IsBytes}
use Rattle.lu_types.specs.Occurrences.{Occurrence}
use Rattle.positions.specs.Written.{written_record, record_bytes, occurrences_bytes, last_length, last_position}

-- a writer: the bytes of the file so far; of the term that is begun whether its field has payloads, and where it starts; of the document that is begun the payload length and the position of the last occurrence
pub record WriterState : Type 0 where
  pub bytes : List ℕ
  pub payloads : Bool
  pub start : ℕ
  pub before : Option ℕ
  pub position : ℕ

-- a term is begun
abbrev pub occurrences_begun : WriterState → Bool → WriterState
occurrences_begun w payloads = record { bytes = w.bytes; payloads = payloads; start = length w.bytes; before = None; position = 0 }

-- a document is begun
abbrev pub document_begun : WriterState → WriterState
document_begun w = record { bytes = w.bytes; payloads = w.payloads; start = w.start; before = None; position = 0 }

-- an occurrence is added
abbrev pub occurrence_added : WriterState → Occurrence → WriterState
occurrence_added w o = record { bytes = w.bytes ++ record_bytes (written_record w.payloads w.before w.position o); payloads = w.payloads; start = w.start; before = Some (length o.payload); position = o.position }

-- the writer holds what was written before, and these occurrences of the term that is begun, entry by entry
pub record HoldsTerm (w : WriterState) (payloads : Bool) (written : List ℕ) (entries : List (List Occurrence)) : Type 0 where
  pub bytes : w.bytes ≡ written ++ occurrences_bytes payloads entries
  pub payloads_are : w.payloads ≡ payloads
  pub start : w.start ≡ length written

-- the same, where these are the occurrences of the document that is begun, and others those of the documents before
pub record HoldsDocument (w : WriterState) (payloads : Bool) (written : List ℕ) (entries : List (List Occurrence)) (now : List Occurrence) : Type 0 where
  pub holds : HoldsTerm w payloads written (entries ++ now ∷ [])
  pub before : w.before ≡ last_length None now
  pub position : w.position ≡ last_position 0 now
