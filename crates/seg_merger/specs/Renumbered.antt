-- What is written of the live documents of a segment, its fields by their new numbers.
use Rattle.std.specs.Prelude.{◌≡◌, ◌<◌, ◌^◌, ℕ, Bool, cond, List, [], ◌∷◌, ◌++◌, length, map, filter, flat_map, slice_index, slice_index_or, All, Option, None, option_map, unwrap_or}
use Rattle.doc_marks.specs.Norms.{nrm_spelling}
use Rattle.lu_types.specs.Bits as bit
use Rattle.lu_types.specs.Bits.{has_bit}
use Rattle.lu_types.specs.StoredFields.{StoredField}
use Rattle.lu_types.specs.Tables.{TableField}
use Rattle.lu_types.specs.declared.kind.FileKind.TheVariants.{Nrm}
use Rattle.lu_types.specs.declared.named_file.NamedFile.{NamedFile}
use Rattle.lu_model.specs.Contents.{field_at, field_number, live, missing_norm}
use Rattle.lu_model.specs.Index.{Index}
use Rattle.posting_files.specs.States.{named}
use Rattle.segment_files.specs.Parts.{have_norms, norm_columns}
use Rattle.stored_fields.specs.Writing.{HeldDocuments}
use Rattle.term_vectors.specs.Vectors.{StoredVector}

-- there is a new number for each field of an index, below 2^31
pub record AreNewNumbers (index : Index) (numbers : List ℕ) : Type 0 where
  pub many : length numbers ≡ length index.fields
  pub small : All (λ number. number < 2 ^ 31) numbers

-- ---- stored values

-- a stored value, its field by its new number
abbrev pub renumbered_value : List ℕ → StoredField → StoredField
renumbered_value numbers value = record { field = slice_index numbers value.field; tokenized = value.tokenized; value = value.value }

-- those of a document
abbrev pub renumbered_values : List ℕ → List StoredField → List StoredField
renumbered_values numbers values = map (renumbered_value numbers) values

-- those of each live document of an index
abbrev pub live_stored : List ℕ → Index → List (List StoredField)
live_stored numbers index = map (λ document. renumbered_values numbers (slice_index_or index.stored document [])) (live index)

-- a writer that has finished these documents besides
abbrev pub with_finished : List (List StoredField) → HeldDocuments → HeldDocuments
with_finished documents held = record { finished = held.finished ++ documents; opened = None }

-- ---- vectors

-- a vector, its field by its new number
abbrev pub renumbered_vector : List ℕ → StoredVector → StoredVector
renumbered_vector numbers vector = record { field = slice_index numbers vector.field; bits = vector.bits; terms = vector.terms }

-- whether the field of a vector has vectors in the joined table
abbrev pub is_vector_kept : List TableField → List ℕ → StoredVector → Bool
is_vector_kept table numbers vector = has_bit bit.vectors (field_at (slice_index numbers vector.field) table).bits

-- the vectors of a document whose fields have vectors in the joined table
abbrev pub kept_vectors : List TableField → List ℕ → List StoredVector → List StoredVector
kept_vectors table numbers vectors = map (renumbered_vector numbers) (filter (is_vector_kept table numbers) vectors)

-- those of each live document of an index
abbrev pub live_vectors : List TableField → List ℕ → Index → List (List StoredVector)
live_vectors table numbers index = map (λ document. kept_vectors table numbers (slice_index_or index.vectors document [])) (live index)

-- ---- norms

-- the norms of the field with a name, if it has norms
abbrev pub named_norms : List ℕ → Index → Option (List ℕ)
named_norms name index = slice_index_or index.norms (field_number name index.fields) None

-- the norm of a document; where there are none, a missing one
abbrev pub norm_of : Option (List ℕ) → ℕ → ℕ
norm_of norms document = unwrap_or (option_map (λ bytes. slice_index bytes document) norms) missing_norm

-- those of the live documents of an index
abbrev pub live_norms : Option (List ℕ) → Index → List ℕ
live_norms norms index = map (norm_of norms) (live index)

-- the norms of the field with a name in the live documents of all indexes
abbrev pub merged_norms : List Index → List ℕ → List ℕ
merged_norms indexes name = flat_map (λ index. live_norms (named_norms name index) index) indexes

-- the file of norms, where some field has norms
abbrev pub merged_norm_file : List TableField → List (Option (List ℕ)) → List NamedFile
merged_norm_file table norms = cond (have_norms table) (named Nrm (nrm_spelling (norm_columns norms)) ∷ []) []
