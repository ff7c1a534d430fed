-- What is handed to a writer of vectors by a merge.
use Rattle.std.specs.Prelude.{◌≡◌, ◌<◌, ◌^◌, ℕ, List, length, All}
use Rattle.std.specs.List.{fold}
use Rattle.lu_types.specs.Tables.{TableField}
use Rattle.lu_model.specs.Index.{VectorTerm}
use Rattle.lu_model.specs.Valid.{IsVectorTerm}
use Rattle.term_vectors.specs.Format.{bit_positions, bit_offsets}
use Rattle.term_vectors.specs.Vectors.{StoredVector, kept_count}
use Rattle.term_vectors.specs.VectorWriting.{VectorWriting}
use Rattle.term_vectors.specs.Walks.{VectorTermWalk}
use Rattle.seg_writer.specs.VectorSteps.{with_whole_document}

-- each of these numbers is one of a field of the table
abbrev pub AreJoined : List TableField → List ℕ → Type 0
AreJoined table numbers = All (λ number. number < length table) numbers

-- the term that a walk passed last
abbrev pub passed_term : VectorTermWalk → VectorTerm
passed_term walk = record { text = walk.text; frequency = walk.frequency; positions = walk.positions; spans = walk.spans }

-- its text can be written, and none of what a vector with these bits keeps of it was taken
pub record IsKeptWalk (bits : ℕ) (walk : VectorTermWalk) : Type 0 where
  pub short : length walk.text < 2 ^ 31
  pub positions : length walk.positions ≡ kept_count bit_positions bits walk.frequency
  pub spans : length walk.spans ≡ kept_count bit_offsets bits walk.frequency

-- a vector of an index with so many fields
pub record IsOfFields (fields : ℕ) (vector : StoredVector) : Type 0 where
  pub there : vector.field < fields
  pub few : length vector.terms < 2 ^ 31
  pub terms : All (IsVectorTerm vector.bits) vector.terms

-- a writer after documents, each with all its vectors
abbrev pub with_vectors_of : List (List StoredVector) → VectorWriting → VectorWriting
with_vectors_of documents w = fold (λ v vectors. with_whole_document vectors v) w documents
