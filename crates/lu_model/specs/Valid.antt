-- Indexes that files can stand for (format page, "Indexes").
use Rattle.std.specs.Prelude.{◌≡◌, ◌≢◌, ◌<◌, ◌≤◌, ◌^◌, ℕ, true, false, List, [], length, map, All, AllPairs, Option, Some, None}
use Rattle.std.specs.List.{AllZip}
use Rattle.std.specs.List.Sorted.{IsStrictlySortedBy, IsNonDecreasing}
use Rattle.std.specs.Ordering.{nat_cmp}
use Rattle.lu_grammar.specs.Bytes.{IsBytes}
use Rattle.lu_prims.specs.Order.{text_cmp}
use Rattle.lu_types.specs.Bits.{has_bit}
use Rattle.lu_types.specs.Documents.{IsStored, stored_bytes}
use Rattle.lu_types.specs.Tables.{TableField, IsTable}
use Rattle.lu_types.specs.Bits as bit
use Rattle.lu_types.specs.declared.stored.Stored.{Stored}
use Rattle.lu_types.specs.declared.stored.Stored.TheVariants.{Text, Binary}
use Rattle.lu_types.specs.Occurrences.{Occurrence}
use Rattle.lu_model.specs.Index.{term_cmp, KeptOccurrences, given, omitted, IndexedTerm, VectorTerm, FieldVector, Index}
use Rattle.lu_model.specs.Contents.{field_at, has_norms, term_of}

-- below 2^31: a count, a length, a position or an offset
abbrev pub IsSmall : ℕ → Type 0
IsSmall n = n < 2 ^ 31

-- a text or bytes of a length that files can hold
abbrev pub IsStorable : Stored → Type 0
IsStorable value = IsStored value × IsSmall (length (stored_bytes value))

-- occurrences in a field with these bits: at least one, positions do not fall, and payloads only where the field has them
pub record AreOccurrences (bits : ℕ) (occurrences : List Occurrence) : Type 0 where
  pub some : 0 < length occurrences
  pub few : IsSmall (length occurrences)
  pub rise : IsNonDecreasing (map (λ o. o.position) occurrences)
  pub small : All (λ o. IsSmall o.position × IsStorable (Binary o.payload)) occurrences
  pub payloads : has_bit bit.payloads bits ≡ false → All (λ o. o.payload ≡ []) occurrences

-- what a field with these bits keeps of a term in a document: occurrences are omitted exactly where the field omits them
abbrev pub IsKept : ℕ → KeptOccurrences → Type 0
IsKept bits (given occurrences) = (has_bit bit.omit_tf bits ≡ false) × AreOccurrences bits occurrences
IsKept bits omitted = has_bit bit.omit_tf bits ≡ true

-- a term of an index with so many documents, in a field with these bits: it has an entry, and its documents rise
pub record IsIndexedTerm (size bits : ℕ) (term : IndexedTerm) : Type 0 where
  pub indexed : has_bit bit.indexed bits ≡ true
  pub text : IsStorable (Text term.text)
  pub some : 0 < length term.entries
  pub rise : IsStrictlySortedBy nat_cmp (map (λ entry. entry.document) term.entries)
  pub entries : All (λ entry. (entry.document < size) × IsKept bits entry.occurrences) term.entries

-- so many values are kept where the bit is set, and none where not
abbrev pub AreAsMany : {X : Type 0} → ℕ → ℕ → ℕ → List X → Type 0
AreAsMany bit bits count values = (has_bit bit bits ≡ true → length values ≡ count) × (has_bit bit bits ≡ false → values ≡ [])

-- a term of a vector with these bits
pub record IsVectorTerm (bits : ℕ) (term : VectorTerm) : Type 0 where
  pub text : IsStorable (Text term.text)
  pub some : 0 < term.frequency
  pub few : IsSmall term.frequency
  pub positions : AreAsMany 1 bits term.frequency term.positions
  pub spans : AreAsMany 2 bits term.frequency term.spans
  pub rise : IsNonDecreasing term.positions
  pub low : All IsSmall term.positions
  pub within : All (λ span. (span.start ≤ span.end) × IsSmall span.end) term.spans

-- a vector of a document
pub record IsVector (fields : List TableField) (vector : FieldVector ℕ) : Type 0 where
  pub field : has_bit bit.vectors (field_at vector.field fields).bits ≡ true
  pub bits : vector.bits < 4
  pub few : IsSmall (length vector.terms)
  pub rise : IsStrictlySortedBy text_cmp (map (λ term. term.text) vector.terms)
  pub terms : All (IsVectorTerm vector.bits) vector.terms

-- the norms of a field: a byte for each document exactly where the field has norms
abbrev pub AreNorms : ℕ → TableField → Option (List ℕ) → Type 0
AreNorms size field None = has_norms field.bits ≡ false
AreNorms size field (Some norms) = (has_norms field.bits ≡ true) × (length norms ≡ size) × IsBytes norms

-- an index that files can stand for
pub record IsValid (index : Index) : Type 0 where
  pub small : IsSmall index.size
  pub fields : IsTable index.fields
  pub names : All (λ field. IsStorable (Text field.name)) index.fields
  pub stored : length index.stored ≡ index.size
  pub few_values : All (λ values. IsSmall (length values)) index.stored
  pub values : All (All (λ value. (value.field < length index.fields) × IsStorable value.value)) index.stored
  pub few_terms : IsSmall (length index.terms)
  pub rise : IsStrictlySortedBy term_cmp (map (term_of index.fields) index.terms)
  pub terms : All (λ term. IsIndexedTerm index.size (field_at term.field index.fields).bits term) index.terms
  pub norms : AllZip (AreNorms index.size) index.fields index.norms
  pub vectors : length index.vectors ≡ index.size
  pub few_vectors : All (λ vectors. IsSmall (length vectors)) index.vectors
  pub apart : All (AllPairs (λ v w. v.field ≢ w.field)) index.vectors
  pub vector_fields : All (All (IsVector index.fields)) index.vectors
  pub deleted : IsStrictlySortedBy nat_cmp index.deleted
  pub deleted_below : All (λ document. document < index.size) index.deleted
