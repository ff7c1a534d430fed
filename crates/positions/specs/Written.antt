-- The one written form of the occurrences of a term (format page, "Positions").
use Rattle.std.specs.Prelude.{◌≡◌, ◌<◌, ◌≤◌, ◌^◌, ℕ, suc, ◌+◌, ◌-◌, ◌*◌, Bool, true, false, not, ◌==◌, List, [], ◌∷◌, ◌++◌, length, take, Option, Some, None, if◌then◌else◌, slice_index_or}
use Rattle.std.specs.List.{flat_map}
use Rattle.lu_grammar.specs.Bytes.{IsBytes}
use Rattle.lu_grammar.specs.Parts.{vint, num, spelling}
use Rattle.lu_types.specs.Occurrences.{Occurrence}
use Rattle.freq_skips.specs.Entries.{no_posting}
use Rattle.freq_skips.specs.Levels.{level_count, stride, data_count}
use Rattle.freq_skips.specs.Walks.{point_at}
use Rattle.freq_skips.specs.Written.{optional_bytes}
use Rattle.positions.specs.Records.{OccurrenceRecord}
use Rattle.positions.specs.Occurrences.{PostedTerm}

-- the length of a payload is stated where it is not the one of the occurrence before; none is before the first of a document
abbrev pub restates : Option ℕ → ℕ → Bool
restates None n = true
restates (Some m) n = not (m == n)

-- the record of an occurrence in a field with payloads, so far above the position before
abbrev pub with_stated_length : Bool → ℕ → List ℕ → OccurrenceRecord
with_stated_length stated gap payload = if stated then record { delta = 2 * gap + 1; stated = Some (length payload); payload = payload } else record { delta = 2 * gap; stated = None; payload = payload }

-- the record of an occurrence so far above the position before, in a field with payloads or without, after one with this payload length in its document
abbrev pub written_parts : Bool → Option ℕ → ℕ → List ℕ → OccurrenceRecord
written_parts payloads before gap payload = if payloads then with_stated_length (restates before (length payload)) gap payload else record { delta = gap; stated = None; payload = payload }

-- the record of an occurrence, after one with this payload length and this position in its document
abbrev pub written_record : Bool → Option ℕ → ℕ → Occurrence → OccurrenceRecord
written_record payloads before last o = written_parts payloads before (o.position - last) o.payload

-- the bytes of a record
abbrev pub record_bytes : OccurrenceRecord → List ℕ
record_bytes r = spelling vint r.delta ++ (optional_bytes num r.stated ++ r.payload)

-- the bytes of the occurrences of a document, after one with this payload length and this position
abbrev pub document_occurrence_bytes : Bool → Option ℕ → ℕ → List Occurrence → List ℕ
document_occurrence_bytes payloads before last [] = []
document_occurrence_bytes payloads before last (o ∷ os) = record_bytes (written_record payloads before last o) ++ document_occurrence_bytes payloads (Some (length o.payload)) o.position os

-- the bytes of the occurrences of a term, in a field with payloads or without, entry by entry
unfoldable pub occurrences_bytes : Bool → List (List Occurrence) → List ℕ
occurrences_bytes payloads entries = flat_map (λ os. document_occurrence_bytes payloads None 0 os) entries

-- the payload length of the last occurrence of a document, none where there is none
abbrev pub last_length : Option ℕ → List Occurrence → Option ℕ
last_length before [] = before
last_length before (o ∷ os) = last_length (Some (length o.payload)) os

-- the position of the last occurrence of a document
abbrev pub last_position : ℕ → List Occurrence → ℕ
last_position last [] = last
last_position last (o ∷ os) = last_position o.position os

-- occurrences of a document that can be written, after a position: positions do not fall, and payloads are bytes, none in a field without payloads
abbrev pub AreGoodOccurrences : Bool → ℕ → List Occurrence → Type 0
AreGoodOccurrences payloads last [] = Unit {0}
AreGoodOccurrences payloads last (o ∷ os) = (last ≤ o.position) × (o.position < 2 ^ 31) × (length o.payload < 2 ^ 31) × IsBytes o.payload × (payloads ≡ false → o.payload ≡ []) × AreGoodOccurrences payloads o.position os

-- what is written of a term that starts at a place: as many documents as it has entries, each with as many occurrences as the frequency; and its skip data tell where the entries start that they belong to
pub record IsHanded (p : PostedTerm) (place : ℕ) (entries : List (List Occurrence)) : Type 0 where
  pub interval : 2 ≤ p.term.rules.skip_interval
  pub kept : p.term.rules.omit_tf ≡ false
  pub starts : place ≡ p.term.info.prox
  pub count : length entries ≡ p.term.info.doc_freq
  pub some : (k : ℕ) → k < length entries → 0 < length (slice_index_or entries k [])
  pub documents : (k : ℕ) → k < length entries → AreGoodOccurrences p.term.rules.payloads 0 (slice_index_or entries k [])
  pub frequencies : (k : ℕ) → k < p.term.info.doc_freq → (slice_index_or p.value.postings k no_posting).freq ≡ length (slice_index_or entries k [])
  pub sums : (level m : ℕ) → level < level_count p.term → m < data_count p.term level → (point_at p.value level m).prox ≡ length (occurrences_bytes p.term.rules.payloads (take (suc m * stride p.term level - 1) entries))
