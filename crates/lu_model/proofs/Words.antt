-- Words that only proofs use.
use Rattle.std.specs.Prelude.{All, ◌≡◌, ◌≢◌, ◌⊎◌, ℕ, ◌-◌, ◌<◌, ◌==◌, Bool, not, ◌&&◌, cond, List, [], ◌∷◌, length, map, slice_index, Option, None, Some, option_map, unwrap_or}
use Rattle.std.specs.List.{AllByRecursion, list_any}
use Rattle.std.specs.Option.{option_and_then}
use Rattle.std.specs.Str.{IsUtf8, bytes_eq}
use Rattle.lu_types.specs.Bits.{has_bit}
use Rattle.lu_types.specs.DocFaults.{doc_fault}
use Rattle.lu_types.specs.Documents.{IsDocument}
use Rattle.lu_types.specs.Joins.{is_empty, has_vector, Covers}
use Rattle.lu_types.specs.StoredFields.{StoredField}
use Rattle.lu_types.specs.Tables.{TableField, IsTable}
use Rattle.lu_types.specs.Bits as bit
use Rattle.lu_types.specs.declared.document.Document.{Document}
use Rattle.lu_types.specs.declared.document.IndexedField.{IndexedField}
use Rattle.lu_types.specs.declared.document.Limits.{Limits}
use Rattle.lu_types.specs.declared.document.Token.{Token}
use Rattle.lu_types.specs.declared.stored.Stored.TheVariants.{Text}
use Rattle.lu_types.specs.declared.stored.StoredValue.{StoredValue}
use Rattle.lu_model.specs.Index.{Term, IndexedEntry, IndexedTerm, VectorTerm, FieldVector, Index}
use Rattle.lu_model.specs.Contents.{Content, missing_norm, bits_of, field_number, has_norms, kept, left_of, live_from, merge_of, name_of, tokens_with, under}
use Rattle.lu_model.specs.Valid.{IsSmall, IsStorable, IsValid}

-- ---- items of lists

-- the item is in the list
abbrev pub IsIn : {X : Type 0} → X → List X → Type 0
IsIn x [] = ⊥
IsIn x (y ∷ ys) = (x ≡ y) ⊎ IsIn x ys

-- both lists have the same items, in any order and however often
pub record HaveSame {X : Type 0} (xs ys : List X) : Type 0 where
  pub to : (x : X) → IsIn x xs → IsIn x ys
  pub from : (x : X) → IsIn x ys → IsIn x xs

-- a fact of each item
abbrev pub Each : {X : Type 0} → (X → Type 0) → List X → Type 0
Each P xs = AllByRecursion P xs

-- a fact of each item and each later one
abbrev pub EachPair : {X : Type 0} → (X → X → Type 0) → List X → Type 0
EachPair R [] = Unit {0}
EachPair R (x ∷ xs) = Each (R x) xs × EachPair R xs

-- ---- parts of definitions, by themselves

-- a term whose parts are texts
pub record IsTerm (term : Term) : Type 0 where
  pub field : IsUtf8 term.field
  pub text : IsUtf8 term.text

-- whether two terms are the same
abbrev pub same_term : Term → Term → Bool
same_term a b = bytes_eq a.field b.field && bytes_eq a.text b.text

-- a field that no table has
abbrev pub no_field : TableField
no_field = record { name = []; bits = 0 }

-- bit 80 is clear in each field
abbrev pub IsClear : List TableField → Type 0
IsClear table = (field : TableField) → IsIn field table → field.bits < 128

-- a stored value and a vector, the field by number
abbrev pub value_in : List TableField → StoredValue → StoredField
value_in table value = record { field = field_number value.field table; tokenized = value.tokenized; value = value.value }

abbrev pub vector_in : List TableField → (FieldVector (List ℕ)) → (FieldVector ℕ)
vector_in table vector = record { field = field_number vector.field table; bits = vector.bits; terms = vector.terms }

-- the entry of a numbered document under a term, if the term stands in it
abbrev pub entry_of : List TableField → Term → ℕ × Content → Option IndexedEntry
entry_of table term numbered =
    option_map (λ o. record { document = numbered.0; occurrences = kept (bits_of term.field table) o }) (numbered.1.occurrences term)

-- the norms of a field, one for each document, if the field has norms
abbrev pub norms_in : List Content → TableField → Option (List ℕ)
norms_in contents field =
    cond (has_norms field.bits) (Some (map (λ content. unwrap_or (content.norm field.name) missing_norm) contents)) None

-- a stored value of a table with so many fields
abbrev pub IsValue : ℕ → StoredField → Type 0
IsValue fields value = (value.field < fields) × IsStorable value.value

-- a stored value and a vector, the field by name
abbrev pub stored_by_name : List TableField → StoredField → StoredValue
stored_by_name table value = record { field = name_of table value.field; tokenized = value.tokenized; value = value.value }

abbrev pub vector_by_name : List TableField → FieldVector ℕ → FieldVector (List ℕ)
vector_by_name table vector = record { field = name_of table vector.field; bits = vector.bits; terms = vector.terms }

-- a text of a small length
abbrev pub IsText : List ℕ → Type 0
IsText text = IsStorable (Text text)

-- the field of the vector has vectors
abbrev pub has_vectors : List TableField → (FieldVector (List ℕ)) → Bool
has_vectors table vector = has_bit bit.vectors (bits_of vector.field table)

-- vectors of two fields
abbrev pub Apart : (FieldVector ℕ) → (FieldVector ℕ) → Type 0
Apart v w = v.field ≢ w.field

-- the terms of a field
abbrev pub terms_of : IndexedField → List Term
terms_of field = map (λ token. record { field = field.field; text = token.text }) field.tokens

-- the norm of a field that is found
abbrev pub norm_if_any : Option IndexedField → Option ℕ
norm_if_any found = option_and_then (λ field. field.norm) found

-- a field has a vector
abbrev pub has_vector_of : IndexedField → Bool
has_vector_of field = has_vector field.vector && not (is_empty field.tokens)

-- a term of a vector that keeps positions or not, and offsets or not
abbrev pub term_with : Bool → Bool → List Token → List ℕ → VectorTerm
term_with positions offsets tokens text =
    let found = tokens_with text tokens in record {
      text = text;
      frequency = length found;
      positions = cond positions (map (λ token. token.position) found) [];
      spans = cond offsets (map (λ token. record { start = token.start; end = token.end }) found) [];
    }

-- the term stands in the document
abbrev pub stands_at : ℕ → IndexedTerm → Bool
stands_at document term = list_any (λ entry. document == entry.document) term.entries

-- the entries of a term that is found
abbrev pub entries_if_any : Option IndexedTerm → List IndexedEntry
entries_if_any found = unwrap_or (option_map (λ term. term.entries) found) []

-- the norm of a document among norms
abbrev pub byte_of : ℕ → Option (List ℕ) → Option ℕ
byte_of document norms = option_map (λ bytes. slice_index bytes document) norms

-- how many documents that are not deleted stand from one number up to another
abbrev pub live_between : List ℕ → ℕ → ℕ → ℕ
live_between deleted from to = length (live_from deleted from (to - from))

-- ---- what laws ask for

-- a table, documents, and the numbers of those that are deleted
abbrev pub Source : Type 0
Source = List TableField × List Document × List ℕ

-- the table covers the documents, which are made of texts and bytes; bit 80 is clear in each field
abbrev pub IsSource : Source → Type 0
IsSource source = All (λ field. field.bits < 128) source.0 × Covers source.0 source.1 × All IsDocument source.1

-- the index of the documents, with these deleted
abbrev pub source_index : Source → Index
source_index source = record (under source.0 source.1) { deleted = source.2 }

-- the documents that are not deleted
abbrev pub left_docs : Source → List Document
left_docs source = left_of source.2 source.1

-- a document with few stored values and fields, and short values
pub record IsShort (doc : Document) : Type 0 where
  pub stored : IsSmall (length doc.stored)
  pub fields : IsSmall (length doc.indexed)
  pub values : Each (λ value. IsStorable value.value) doc.stored

-- documents that can be written under the table: it covers them, none has a fault, and they, their terms and what they hold are few
pub record CanBeWritten (table : List TableField) (docs : List Document) (limits : Limits) : Type 0 where
  pub fields : IsTable table
  pub names : Each (λ field. IsText field.name) table
  pub covers : Covers table docs
  pub documents : (doc : Document) → IsIn doc docs → IsDocument doc
  pub sound : (doc : Document) → IsIn doc docs → doc_fault doc limits ≡ None
  pub short : (doc : Document) → IsIn doc docs → IsShort doc
  pub few : IsSmall (length docs)
  pub few_terms : IsSmall (length (under table docs).terms)

-- the indexes are valid, and their merge has few documents, fields and terms
pub record CanBeMerged (indexes : List Index) : Type 0 where
  pub valid : Each IsValid indexes
  pub few : IsSmall (merge_of indexes).size
  pub few_fields : IsSmall (length (merge_of indexes).fields)
  pub few_terms : IsSmall (length (merge_of indexes).terms)
