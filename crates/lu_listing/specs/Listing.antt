-- The listing of a segment: all that its index means (docs/FORMAT.md, "Printed texts").
use Rattle.std.specs.Prelude.{ℕ, Bool, true, false, List, [], ◌∷◌, ◌++◌, length, get_or, codes, Option, Some, None}
use Rattle.std.specs.Fmt.{decimal}
use Rattle.std.specs.List.{flat_map, range_with_len}
use Rattle.hex.specs.Hex.{encode_lower}
use Rattle.lu_prims.specs.Quoted.{quoted_text}
use Rattle.lu_types.specs.Occurrences.{Occurrence}
use Rattle.lu_model.specs.Index.{KeptOccurrences, given, omitted, IndexedEntry, IndexedTerm, Span, VectorTerm, FieldVector, Index}
use Rattle.doc_marks.specs.Marking.{is_in}
use Rattle.lu_listing.specs.Lines.{line, ◌▹◌, numbered, field_lines, stored_lines}

-- ---- documents

-- how a document stands, by whether it is deleted
abbrev pub state_text : Bool → List ℕ
state_text true = codes "deleted"
state_text false = codes "live"

-- a position behind what stands before it on the line
abbrev pub position_text : ℕ → List ℕ
position_text position = codes " @" ++ decimal position

-- from where to where a token stands, behind what stands before it on the line
abbrev pub span_text : Span → List ℕ
span_text span = codes " " ++ (decimal span.start ++ (codes "-" ++ decimal span.end))

-- the line of a term of a vector: its text, how often it stands in the field, and where
abbrev pub vector_term_line : VectorTerm → List ℕ
vector_term_line t =
    line ((codes "vterm" ▹ quoted_text t.text ▹ decimal t.frequency) ++ (flat_map position_text t.positions ++ flat_map span_text t.spans))

-- the lines of a vector: its field, its bits, and its terms
abbrev pub vector_text : FieldVector ℕ → List ℕ
vector_text v = line (codes "vector" ▹ decimal v.field ▹ decimal v.bits) ++ flat_map vector_term_line v.terms

-- the lines of a document of an index: its number, whether it is live, its stored values, and its vectors
abbrev pub document_text : Index → ℕ → List ℕ
document_text x number =
    line (codes "doc" ▹ decimal number ▹ state_text (is_in number x.deleted))
    ++ (stored_lines (get_or x.stored number []) ++ flat_map vector_text (get_or x.vectors number []))

-- ---- terms

-- the payload of an occurrence, behind its position; nothing where it is empty
abbrev pub payload_text : List ℕ → List ℕ
payload_text [] = []
payload_text (b ∷ bs) = codes ":" ++ encode_lower (b ∷ bs)

-- an occurrence, behind what stands before it on the line
abbrev pub occurrence_text : Occurrence → List ℕ
occurrence_text o = position_text o.position ++ payload_text o.payload

-- how often a term stands in a document and where, behind the document; nothing where that is omitted
abbrev pub kept_text : KeptOccurrences → List ℕ
kept_text (given occurrences) = codes " " ++ (decimal (length occurrences) ++ flat_map occurrence_text occurrences)
kept_text omitted = []

-- the line of an entry, which begins with this word: its document, and how often the term stands there and where
abbrev pub entry_line : List ℕ → IndexedEntry → List ℕ
entry_line word e = line ((word ▹ decimal e.document) ++ kept_text e.occurrences)

-- the lines of a term: its field, its text, in how many documents it stands, and its entries
abbrev pub term_text : IndexedTerm → List ℕ
term_text t = line (codes "term" ▹ decimal t.field ▹ quoted_text t.text ▹ decimal (length t.entries)) ++ flat_map (entry_line (codes "in")) t.entries

-- ---- segments

-- the line of the norms of a field, where it has norms: its number, and a byte for each document
abbrev pub norms_text : ℕ → Option (List ℕ) → List ℕ
norms_text number None = []
norms_text number (Some norms) = line (codes "norms" ▹ decimal number ▹ encode_lower norms)

-- the first line of a segment: its place in the commit, how many documents it has, and how many of these are deleted
abbrev pub segment_line : ℕ → Index → List ℕ
segment_line place x = line (codes "segment" ▹ decimal place ▹ decimal x.size ▹ decimal (length x.deleted))

-- the lines of all documents
abbrev pub documents_text : Index → List ℕ
documents_text x = flat_map (document_text x) (range_with_len 0 x.size)

-- the lines of a segment, which has this place in the commit
abbrev pub segment_text : ℕ → Index → List ℕ
segment_text place x =
    segment_line place x ++ (field_lines 0 x.fields ++ (documents_text x ++ (flat_map term_text x.terms ++ numbered norms_text 0 x.norms)))

-- the listing of some segments, from this place on
abbrev pub listing : ℕ → List Index → List ℕ
listing place indexes = numbered segment_text place indexes
