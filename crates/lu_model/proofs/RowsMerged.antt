-- Worked rows: deletions and merges.
use Rattle.std.proofs.Common.{◌≡◌, [], ◌∷◌, List, Some, None, true, refl}
use Rattle.std.specs.Str.{chars}
use Rattle.lu_types.specs.Joins.{join_field}
use Rattle.lu_types.specs.declared.document.Vector.TheVariants.{Off}
use Rattle.lu_model.specs.Contents.{after, index_of, index_of_documents, merge_of, without_term}
use Rattle.lu_model.specs.Index.{IndexedEntry, Index, in_order, omitted}
use Rattle.lu_model.proofs.RowWords.{bare, entry, f, field, found_by, g, hello_world, named, normed, term, token, x, y, z}

-- ---- two builds, a deletion and a merge

-- the first build: one document with `x`
first : Index
first = index_of_documents (found_by (field f (x ∷ []) ∷ []) ∷ [])

first_is : first ≡ record {
  size = 1;
  fields = record { name = f; bits = 0x01 } ∷ [];
  stored = [] ∷ [];
  terms = term 0 x (entry 0 (0 ∷ []) ∷ []) ∷ [];
  norms = Some (0x7C ∷ []) ∷ [];
  vectors = [] ∷ [];
  deleted = [];
}
unfolding first index_of in_order join_field chars
first_is = refl

-- the second: a document with `y` in one field and `x z` in the other, and one with `z`
second : Index
second = index_of_documents (found_by (field g (y ∷ []) ∷ field f (x ∷ z ∷ []) ∷ []) ∷ found_by (field f (z ∷ []) ∷ []) ∷ [])

second_is : second ≡ record {
  size = 2;
  fields = record { name = g; bits = 0x01 } ∷ record { name = f; bits = 0x01 } ∷ [];
  stored = [] ∷ [] ∷ [];
  terms =
      term 1 x (entry 0 (0 ∷ []) ∷ [])
      ∷ term 1 z (entry 0 (1 ∷ []) ∷ entry 1 (0 ∷ []) ∷ [])
      ∷ term 0 y (entry 0 (0 ∷ []) ∷ [])
      ∷ [];
  norms = Some (0x7C ∷ 0x7C ∷ []) ∷ Some (0x7C ∷ 0x7C ∷ []) ∷ [];
  vectors = [] ∷ [] ∷ [];
  deleted = [];
}
unfolding second index_of in_order join_field chars
second_is = refl

-- to delete the documents with `x` deletes one in each, and again none
deleted_once : (without_term (named f x) first).deleted ≡ 0 ∷ []
unfolding first index_of in_order join_field chars
deleted_once = refl

deleted_besides : (without_term (named f x) second).deleted ≡ 0 ∷ []
unfolding second index_of in_order join_field chars
deleted_besides = refl

deleted_again : without_term (named f x) (without_term (named f x) second) ≡ without_term (named f x) second
unfolding second index_of in_order join_field chars
deleted_again = refl

-- what was deleted stays deleted
deleted_before : (without_term (named f x) (record second { deleted = 1 ∷ [] })).deleted ≡ 0 ∷ 1 ∷ []
unfolding second index_of in_order join_field chars
deleted_before = refl

-- the merge: the document with `z` is left, and the fields stand as they come; `show` prints segment 0 1 0, field 0 01 "f",
-- field 1 01 "g", doc 0 live, term 0 "z" 1, in 0 1 @0, norms 0 7c, norms 1 7c
merged : Index
merged = merge_of (without_term (named f x) first ∷ without_term (named f x) second ∷ [])

merged_is : merged ≡ record {
  size = 1;
  fields = record { name = f; bits = 0x01 } ∷ record { name = g; bits = 0x01 } ∷ [];
  stored = [] ∷ [];
  terms = term 0 z (entry 0 (0 ∷ []) ∷ []) ∷ [];
  norms = Some (0x7C ∷ []) ∷ Some (0x7C ∷ []) ∷ [];
  vectors = [] ∷ [];
  deleted = [];
}
unfolding merged first second index_of in_order join_field chars
merged_is = refl

-- a merge of the merge is the merge
merged_again : merge_of (merged ∷ []) ≡ merged
unfolding merged first second index_of in_order join_field chars
merged_again = refl

-- stored values and vectors go with their documents
stored_again : merge_of (index_of_documents (hello_world ∷ []) ∷ []) ≡ index_of_documents (hello_world ∷ [])
unfolding index_of in_order join_field chars
stored_again = refl

-- fields keep the order in which they come
order_of_fields : merge_of (second ∷ []) ≡ second
unfolding second index_of in_order join_field chars
order_of_fields = refl

-- documents are numbered on from source to source
numbered_on : (merge_of (
    record (index_of_documents (found_by (field f (x ∷ []) ∷ []) ∷ found_by (field f (x ∷ []) ∷ []) ∷ found_by (field f (y ∷ x ∷ []) ∷ []) ∷ [])) { deleted = 1 ∷ [] }
    ∷ index_of_documents (found_by (field f (y ∷ []) ∷ []) ∷ found_by (field f (x ∷ []) ∷ []) ∷ []) ∷ [])).terms
    ≡ term 0 x (entry 0 (0 ∷ []) ∷ entry 1 (1 ∷ []) ∷ entry 3 (0 ∷ []) ∷ []) ∷ term 0 y (entry 1 (0 ∷ []) ∷ entry 2 (0 ∷ []) ∷ []) ∷ []
unfolding index_of in_order join_field chars
numbered_on = refl

-- ---- what a source lacks

-- the first source omits the norms of `f`, and has no `g`: its document gets the norm that stands for a missing one
missing_norms : merge_of (
    index_of_documents (found_by (bare f (token y 0 0 0 ∷ []) ∷ []) ∷ [])
    ∷ index_of_documents (found_by (normed f 5 ∷ normed g 6 ∷ []) ∷ []) ∷ []) ≡ record {
      size = 2;
      fields = record { name = f; bits = 0x01 } ∷ record { name = g; bits = 0x01 } ∷ [];
      stored = [] ∷ [] ∷ [];
      terms = term 0 y (entry 0 (0 ∷ []) ∷ []) ∷ [];
      norms = Some (124 ∷ 5 ∷ []) ∷ Some (124 ∷ 6 ∷ []) ∷ [];
      vectors = [] ∷ [] ∷ [];
      deleted = [];
    }
unfolding index_of in_order join_field chars
missing_norms = refl

-- where one source omits frequencies and positions, also by a deleted document alone, so does the merge
omitted_by_deleted : (merge_of (
    record (index_of_documents (found_by (record { field = f; norm = Some 1; omit_tf = true; vector = Off; tokens = [] } ∷ []) ∷ [])) { deleted = 0 ∷ [] }
    ∷ index_of_documents (found_by (field f (x ∷ x ∷ []) ∷ []) ∷ []) ∷ [])).terms
    ≡ term 0 x (record { document = 0; occurrences = omitted } ∷ []) ∷ []
unfolding index_of in_order join_field chars
omitted_by_deleted = refl

-- a table that was read may have bit 02 in a field that is not indexed
only_vectors : Index
only_vectors = record {
  size = 1;
  fields = record { name = f; bits = 0x02 } ∷ [];
  stored = [] ∷ [];
  terms = [];
  norms = None ∷ [];
  vectors = (record { field = 0; bits = 0; terms = [] } ∷ []) ∷ [];
  deleted = [];
}

-- where the field is indexed elsewhere without bit 02, its vectors are dropped
vectors_dropped : (merge_of (only_vectors ∷ index_of_documents (found_by (normed f 5 ∷ []) ∷ []) ∷ [])).vectors ≡ [] ∷ [] ∷ []
unfolding only_vectors index_of in_order join_field chars
vectors_dropped = refl

vectors_stay : (merge_of (only_vectors ∷ [])).vectors ≡ only_vectors.vectors
unfolding only_vectors index_of in_order join_field chars
vectors_stay = refl

-- ---- the way of a cursor, over three documents of which the second is deleted

entries : List IndexedEntry
entries = entry 0 (0 ∷ []) ∷ entry 1 (0 ∷ []) ∷ entry 2 (0 ∷ []) ∷ []

-- from the start to 0, once more to 0, and then there is none
advance_0 : after entries (1 ∷ []) 0 0 ≡ Some (entry 0 (0 ∷ []))
unfolding entries
advance_0 = refl

advance_0_again : after entries (1 ∷ []) 1 0 ≡ Some (entry 2 (0 ∷ []))
unfolding entries
advance_0_again = refl

advance_at_end : after entries (1 ∷ []) 3 0 ≡ None
unfolding entries
advance_at_end = refl

-- from the start to 1, and far
advance_1 : after entries (1 ∷ []) 0 1 ≡ Some (entry 2 (0 ∷ []))
unfolding entries
advance_1 = refl

advance_far : after entries (1 ∷ []) 0 2147483646 ≡ None
unfolding entries
advance_far = refl
