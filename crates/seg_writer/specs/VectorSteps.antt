-- A writer of vectors after whole terms, vectors and documents, and what it is handed of documents.
use Rattle.std.specs.Prelude.{◌+◌, ◌<◌, ◌^◌, ℕ, Bool, not, ◌&&◌, cond, List, [], length, map, filter, All, IsSome}
use Rattle.std.specs.List.{fold, AllByRecursion}
use Rattle.lu_types.specs.Bits.{has_bit}
use Rattle.lu_types.specs.Joins.{has_vector, is_empty, keeps_positions, keeps_offsets, bit_if}
use Rattle.lu_types.specs.Tables.{TableField, number_of}
use Rattle.lu_types.specs.declared.document.IndexedField.{IndexedField}
use Rattle.lu_types.specs.declared.document.Token.{Token}
use Rattle.lu_types.specs.declared.document.Vector.{Vector}
use Rattle.lu_model.specs.Contents.{field_number, vector_of}
use Rattle.lu_model.specs.Index.{FieldVector, Span, VectorTerm}
use Rattle.term_vectors.specs.Format.{bit_positions, bit_offsets}
use Rattle.term_vectors.specs.Vectors.{StoredVector}
use Rattle.term_vectors.specs.VectorWriting.{VectorWriting, with_document_begun, with_vector_begun, with_term_begun, with_position, with_span}
use Rattle.seg_writer.specs.Entries.{IsWritableField, tokens_at}
use Rattle.seg_writer.specs.declared.inverted.Inverted.{Inverted}

-- ---- a writer after what it was handed

-- after positions
abbrev pub with_positions : List ℕ → VectorWriting → VectorWriting
with_positions positions w = fold (λ v position. with_position position v) w positions

-- after spans
abbrev pub with_spans : List Span → VectorWriting → VectorWriting
with_spans spans w = fold (λ v span. with_span span v) w spans

-- after a term with all that is kept of it
abbrev pub with_whole_term : VectorTerm → VectorWriting → VectorWriting
with_whole_term t w = with_spans t.spans (with_positions t.positions (with_term_begun t.text t.frequency w))

-- after terms
abbrev pub with_whole_terms : List VectorTerm → VectorWriting → VectorWriting
with_whole_terms terms w = fold (λ v term. with_whole_term term v) w terms

-- after a vector with all its terms
abbrev pub with_whole_vector : StoredVector → VectorWriting → VectorWriting
with_whole_vector v w = with_whole_terms v.terms (with_vector_begun v.field v.bits (length v.terms) w)

-- after vectors
abbrev pub with_whole_vectors : List StoredVector → VectorWriting → VectorWriting
with_whole_vectors vectors w = fold (λ v vector. with_whole_vector vector v) w vectors

-- after a document with all its vectors
abbrev pub with_whole_document : List StoredVector → VectorWriting → VectorWriting
with_whole_document vectors w = with_whole_vectors vectors (with_document_begun (length vectors) w)

-- ---- what it is handed

-- from where to where a token stands
abbrev pub token_span : Token → Span
token_span token = record { start = token.start; end = token.end }

-- the positions of tokens, as far as a vector with these bits keeps them
abbrev pub kept_positions : ℕ → List Token → List ℕ
kept_positions bits tokens = cond (has_bit bit_positions bits) (map (λ token. token.position) tokens) []

-- where tokens stand, as far as a vector with these bits keeps it
abbrev pub kept_spans : ℕ → List Token → List Span
kept_spans bits tokens = cond (has_bit bit_offsets bits) (map token_span tokens) []

-- the term of a vector with these bits that a text with its uses is among the tokens of a field
abbrev pub term_of_uses : ℕ → List Token → Inverted → VectorTerm
term_of_uses bits tokens term = record {
  text = term.text.now;
  frequency = length term.uses.now;
  positions = kept_positions bits (tokens_at tokens term.uses.now);
  spans = kept_spans bits (tokens_at tokens term.uses.now);
}

-- the bits of a vector of this kind
abbrev pub kind_bits : Vector → ℕ
kind_bits kind = bit_if (keeps_positions kind) bit_positions + bit_if (keeps_offsets kind) bit_offsets

-- a vector of the field with a number
abbrev pub numbered_vector : ℕ → FieldVector (List ℕ) → StoredVector
numbered_vector number vector = record { field = number; bits = vector.bits; terms = vector.terms }

-- whether a field has a vector: one is asked for, and there is a token
abbrev pub has_field_vector : IndexedField → Bool
has_field_vector field = has_vector field.vector && not (is_empty field.tokens)

-- the vectors of the fields of a document, by the numbers of a table
abbrev pub vectors_of_fields : List TableField → List IndexedField → List StoredVector
vectors_of_fields table fields = map (λ field. numbered_vector (field_number field.field table) (vector_of field)) (filter has_field_vector fields)

-- ---- what may be handed

-- a text that can be written, with uses that can be counted and are among these tokens
pub record IsWritableText (tokens : List Token) (term : Inverted) : Type 0 where
  pub short : length term.text.now < 2 ^ 31
  pub few : length term.uses.now < 2 ^ 31
  pub within : All (λ here. here.token < length tokens) term.uses.now

-- the fields of a document can be counted, the tokens of each can be written, and the table has each
pub record AreWritableFields (table : List TableField) (fields : List IndexedField) : Type 0 where
  pub few : length fields < 2 ^ 31
  pub each : AllByRecursion IsWritableField fields
  pub there : All (λ field. IsSome (number_of field.field table)) fields
