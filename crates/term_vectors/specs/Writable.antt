-- Vectors that can be written, and of which windows can be checked (format page, "Term vectors").
use Rattle.std.specs.Prelude.{◌≡◌, ◌≢◌, ◌<◌, ◌≤◌, ◌+◌, ◌^◌, true, List, length, map, All, AllPairs}
use Rattle.std.specs.List.Sorted.{IsStrictlySortedBy}
use Rattle.lu_prims.specs.Order.{text_cmp}
use Rattle.lu_types.specs.Tables.{TableField}
use Rattle.lu_types.specs.declared.stored.Window.{Window}
use Rattle.lu_model.specs.Valid.{IsSmall, IsVectorTerm}
use Rattle.term_vectors.specs.Fields.{has_vectors}
use Rattle.term_vectors.specs.Vectors.{StoredVector}
use Rattle.lu_types.specs.Stores.{windowed}
use Rattle.term_vectors.specs.VectorBytes.{tvd_bytes, tvf_bytes}

-- a vector that an index can have, whatever the table: its number is one, its bits mean something, and its terms rise
pub record IsWritableVector (v : StoredVector) : Type 0 where
  pub field : IsSmall v.field
  pub bits : v.bits < 4
  pub few : IsSmall (length v.terms)
  pub rise : IsStrictlySortedBy text_cmp (map (λ term. term.text) v.terms)
  pub terms : All (IsVectorTerm v.bits) v.terms

-- fewer than 2^31 vectors, of different fields, each of which can be written
pub record AreWritableVectors (vectors : List StoredVector) : Type 0 where
  pub few : IsSmall (length vectors)
  pub apart : AllPairs (λ v w. v.field ≢ w.field) vectors
  pub each : All IsWritableVector vectors

-- a window of written documents can be checked: their places are below 2^31, the window is in the store, and the fields of its vectors
-- have vectors
pub record IsCheckableWindow (fields : List TableField) (window : Window) (documents : List (List StoredVector)) : Type 0 where
  pub tvd_short : length (tvd_bytes documents) < 2 ^ 31
  pub tvf_short : length (tvf_bytes documents) < 2 ^ 31
  pub within : window.offset + window.count ≤ length documents
  pub named : All (All (λ v. has_vectors fields v.field ≡ true)) (windowed window documents)
