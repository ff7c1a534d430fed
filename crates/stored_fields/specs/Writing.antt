-- The one spelling of stored documents, and what a writer of them holds (format page, "Stored documents").
use Rattle.std.specs.Prelude.{ℕ, ◌+◌, ◌^◌, ◌<◌, ◌≤◌, cond, Bool, List, [], ◌∷◌, ◌++◌, length, pos, All, Option, Some, None, ◌==◌, if◌then◌else◌}
use Rattle.std.specs.List.{flat_map}
use Rattle.lu_types.specs.declared.stored.Stored.{Stored}
use Rattle.lu_types.specs.declared.stored.Stored.TheVariants.{Text, Binary}
use Rattle.lu_types.specs.declared.stored.Window.{Window}
use Rattle.lu_grammar.specs.Parts.{int32, int64, num, bytes, text, IsValue, spelling}
use Rattle.stored_fields.specs.Format.{store_format, bit_tokenized, bit_binary}
use Rattle.lu_types.specs.StoredFields.{StoredField}
use Rattle.lu_types.specs.Stores.{windowed, header_length}
use Rattle.stored_fields.specs.Values.{StoredDocument, HasFields}

-- ---- what can be written

-- a text, or bytes, shorter than 2^31
abbrev pub IsStorableValue : Stored → Type 0
IsStorableValue (Text t) = IsValue text t
IsStorableValue (Binary bs) = IsValue num (length bs) × IsValue (bytes (length bs)) bs

-- the number of the field is one, and the value can be stored
abbrev pub IsStorableField : StoredField → Type 0
IsStorableField v = IsValue num v.field × IsStorableValue v.value

-- fewer than 2^31 values, each of which can be stored
abbrev pub IsStorableDocument : StoredDocument → Type 0
IsStorableDocument values = IsValue num (length values) × All IsStorableField values

-- each of the documents can be stored
abbrev pub AreStorable : List StoredDocument → Type 0
AreStorable documents = All IsStorableDocument documents

-- ---- how it is written

-- the bits of a value
abbrev pub value_bits : Bool → Stored → ℕ
value_bits tokenized (Text t) = cond tokenized bit_tokenized 0
value_bits tokenized (Binary bs) = cond tokenized bit_tokenized 0 + bit_binary

-- a text, or a length and as many bytes
abbrev pub content_bytes : Stored → List ℕ
content_bytes (Text t) = spelling text t
content_bytes (Binary bs) = spelling num (length bs) ++ bs

-- the number of the field, the bits, and the value
abbrev pub value_bytes : StoredField → List ℕ
value_bytes v = spelling num v.field ++ (value_bits v.tokenized v.value ∷ content_bytes v.value)

-- how many values a document has, and the values
abbrev pub document_bytes : StoredDocument → List ℕ
document_bytes values = spelling num (length values) ++ flat_map value_bytes values

-- `.fdt` of documents
abbrev pub fdt_bytes : List StoredDocument → List ℕ
fdt_bytes documents = spelling int32 store_format ++ flat_map document_bytes documents

-- where the documents start, the first at this place
abbrev pub places_from : ℕ → List StoredDocument → List ℕ
places_from place [] = []
places_from place (d ∷ ds) = place ∷ places_from (place + length (document_bytes d)) ds

-- the bytes of a place
abbrev pub place_bytes : ℕ → List ℕ
place_bytes place = spelling int64 (pos place)

-- `.fdx` of documents
abbrev pub fdx_bytes : List StoredDocument → List ℕ
fdx_bytes documents = spelling int32 store_format ++ flat_map place_bytes (places_from header_length documents)

-- a window of written documents can be checked: their places are below 2^31, the window is in the store, and the fields of its
-- documents are among so many
pub record IsCheckable (fields : ℕ) (window : Window) (documents : List StoredDocument) : Type 0 where
  pub short : length (fdt_bytes documents) < 2 ^ 31
  pub within : window.offset + window.count ≤ length documents
  pub named : All (HasFields fields) (windowed window documents)

-- ---- what the writer holds

-- a document that lacks values: how many it is to have, and those so far
pub record OpenDocument : Type 0 where
  pub announced : ℕ
  pub values : StoredDocument

-- the finished documents, and the one that is open, if there is one
pub record HeldDocuments : Type 0 where
  pub finished : List StoredDocument
  pub opened : Option OpenDocument

-- a document after others: open until it has all of its values, and finished then
abbrev pub with_document : List StoredDocument → OpenDocument → HeldDocuments
with_document finished d =
    if length d.values == d.announced then record { finished = finished ++ d.values ∷ []; opened = None }
    else record { finished = finished; opened = Some d }

-- one more document, of so many values
abbrev pub with_begun : ℕ → HeldDocuments → HeldDocuments
with_begun count held = with_document held.finished (record { announced = count; values = [] })

-- a document with one more value
abbrev pub one_longer : StoredField → OpenDocument → OpenDocument
one_longer v d = record { announced = d.announced; values = d.values ++ v ∷ [] }

-- an open document with one more value, after others; nothing more where none is open
abbrev pub with_longer : StoredField → List StoredDocument → Option OpenDocument → HeldDocuments
with_longer v finished None = record { finished = finished; opened = None }
with_longer v finished (Some d) = with_document finished (one_longer v d)

-- one more value of the open document
abbrev pub with_stored : StoredField → HeldDocuments → HeldDocuments
with_stored v held = with_longer v held.finished held.opened
