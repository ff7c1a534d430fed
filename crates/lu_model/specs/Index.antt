-- Terms in their order, and what the files of a segment stand for (format page, "Indexes").
use Rattle.std.specs.Prelude.{ℕ, List, [], length, Option}
use Rattle.std.specs.declared.cmp.Ordering.{Ordering}
use Rattle.std.specs.BTreeSet.{insert_key}
use Rattle.std.specs.List.{fold}
use Rattle.std.specs.Ordering.{ordering_then}
use Rattle.lu_prims.specs.Order.{text_cmp}
use Rattle.lu_types.specs.Occurrences.{Occurrence}
use Rattle.lu_types.specs.StoredFields.{StoredField}
use Rattle.lu_types.specs.Tables.{TableField}

-- a term: the name of its field, and its text
pub record Term : Type 0 where
  pub field : List ℕ
  pub text : List ℕ

-- how two terms stand to each other: by the names of their fields, then by their texts
abbrev pub term_cmp : Term → Term → Ordering
term_cmp a b = ordering_then (text_cmp a.field b.field) (text_cmp a.text b.text)

-- the items in their order, each once: each is put at its place among those before it, and one that ties with one of these adds nothing
unfoldable pub in_order : {X : Type 0} → (X → X → Ordering) → List X → List X
in_order cmp items = fold (insert_key cmp) [] items

-- what is known of a term in a document: its occurrences, or only that it stands there
pub data KeptOccurrences : Type 0 where
  given : List Occurrence → KeptOccurrences
  omitted : KeptOccurrences

-- how often the term stands in the document; 1 where that is omitted
abbrev pub frequency : KeptOccurrences → ℕ
frequency (given occurrences) = length occurrences
frequency omitted = 1

-- a document in which a term stands
pub record IndexedEntry : Type 0 where
  pub document : ℕ
  pub occurrences : KeptOccurrences

-- a term with its entries: the number of its field, and its text
pub record IndexedTerm : Type 0 where
  pub field : ℕ
  pub text : List ℕ
  pub entries : List IndexedEntry

-- from where to where a token stands in the text of its field
pub record Span : Type 0 where
  pub start : ℕ
  pub end : ℕ

-- a term of a vector: its text, how often it stands in the field, and where, as far as the vector keeps it
pub record VectorTerm : Type 0 where
  pub text : List ℕ
  pub frequency : ℕ
  pub positions : List ℕ
  pub spans : List Span

-- the vector of a document for a field, given by its number or by its name: whether positions (01) and offsets (02) are kept, and
-- its terms
pub record FieldVector (F : Type 0) : Type 0 where
  pub field : F
  pub bits : ℕ
  pub terms : List VectorTerm

-- an index: how many documents it has, its fields, the stored values of each document, its terms, for each field the norms if it
-- has norms (a byte for each document), the vectors of each document, and the numbers of the deleted documents
pub record Index : Type 0 where
  pub size : ℕ
  pub fields : List TableField
  pub stored : List (List StoredField)
  pub terms : List IndexedTerm
  pub norms : List (Option (List ℕ))
  pub vectors : List (List (FieldVector ℕ))
  pub deleted : List ℕ
