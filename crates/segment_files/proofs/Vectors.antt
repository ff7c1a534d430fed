-- The vectors are read as those of the index.
use Rattle.std.proofs.Common.{refl, ◌≡◌, ◌≢◌, ℕ, zero, suc, ◌^◌, ◌<◌, true, List, [], ◌∷◌, length, Some, sym, subst, arith, Bool, false}
use Rattle.std.specs.Prelude.{All, AllPairs}
use Rattle.lu_types.specs.Bits as bit
use Rattle.lu_types.specs.Bits.{has_bit}
use Rattle.lu_types.specs.FilePlans.{StandFor}
use Rattle.lu_types.specs.Stores.{whole_store}
use Rattle.lu_types.specs.Tables.{TableField}
use Rattle.lu_model.specs.Contents.{field_at}
use Rattle.lu_model.specs.Valid.{IsSmall, IsVector}
use Rattle.lu_model.proofs.Words.{Each}
use Rattle.lu_model.proofs.Each.{all-from_each, each-from_all}
use Rattle.stored_fields.specs.Values.{StoredDocument}
use Rattle.term_vectors.specs.declared.fields.StoreWindow.{StoreWindow}
use Rattle.term_vectors.specs.Places.{tvx_plan}
use Rattle.term_vectors.specs.Fields.{has_vectors, tvd_plan}
use Rattle.term_vectors.specs.Vectors.{StoredVector, tvf_plan}
use Rattle.term_vectors.specs.VectorBytes.{tvx_bytes, tvd_bytes, tvf_bytes}
use Rattle.term_vectors.specs.Stores.{vector_files}
use Rattle.term_vectors.specs.Writable.{IsWritableVector, AreWritableVectors}
use Rattle.term_vectors.proofs.WrittenFiles.{written_stand}
use Rattle.check_index.specs.Stands.{AreStoreVectors}
use Rattle.check_index.proofs.ReadBytes.{read-bytes}
use Rattle.check_index.proofs.ValidBits.{bits-same}
use Rattle.segment_files.specs.Stores.{canonical_store}
use Rattle.segment_files.proofs.Folders.{IfThere}
use Rattle.segment_files.proofs.Stored.{windowed-all}

-- a field with vectors is one that there is
field-there : (n : ℕ) (fields : List TableField) → has_bit bit.vectors (field_at n fields).bits ≡ true → n < length fields
field-there n [] h = cc
field-there zero (field ∷ fields) h = omega arith
field-there (suc n) (field ∷ fields) h = let rest = field-there n fields h in omega (arith, rest)

-- three files that stand for vectors, file by file
was-held : (fields : List TableField) (part : StoreWindow) (stored : List StoredDocument) (documents : List (List StoredVector))
    → StandFor (vector_files part.total part.window fields (Some (tvx_bytes documents)) (Some (tvd_bytes documents)) (Some (tvf_bytes documents))) documents → AreStoreVectors part fields (canonical_store true stored documents) documents
was-held fields part stored documents (places, reads, (slots, also, (all, held, is))) =
    record { places = places; places_held = reads; slots = slots; slots_held = also; all = all; vectors_held = held; windowed_is = is }

module _ (fields : List TableField) (few : length fields < 2 ^ 31) where
  writable-vectors : (vectors : List StoredVector) → Each (IsVector fields) vectors → Each IsWritableVector vectors
  writable-vectors [] h = tt
  writable-vectors (v ∷ vectors) h =
      let there = field-there v.field fields h.0.field in
      (record { field = omega (arith, there, few); bits = h.0.bits; few = h.0.few; rise = h.0.rise; terms = h.0.terms }, writable-vectors vectors h.1)

  named-vectors : (vectors : List StoredVector) → Each (IsVector fields) vectors → Each (λ (v : StoredVector). has_vectors fields v.field ≡ true) vectors
  named-vectors [] h = tt
  named-vectors (v ∷ vectors) h = (subst (λ (bits : ℕ). has_bit bit.vectors bits ≡ true) (sym (bits-same v.field fields)) h.0.field, named-vectors vectors h.1)

  -- what is so of the vectors of a document of a valid index
  pub record AreIndexVectors (vectors : List StoredVector) : Type 0 where
    pub few_vectors : IsSmall (length vectors)
    pub apart : AllPairs (λ v w. v.field ≢ w.field) vectors
    pub each : All (IsVector fields) vectors

  pub index-vectors : (documents : List (List StoredVector)) → Each (λ (d : List StoredVector). IsSmall (length d)) documents → Each (λ (d : List StoredVector). AllPairs (λ a b. a.field ≢ b.field) d) documents
      → Each (λ (d : List StoredVector). All (IsVector fields) d) documents → Each AreIndexVectors documents
  index-vectors [] few_vectors apart each = tt
  index-vectors (d ∷ documents) few_vectors apart each = (record { few_vectors = few_vectors.0; apart = apart.0; each = each.0 }, index-vectors documents few_vectors.1 apart.1 each.1)

  writable-documents : (documents : List (List StoredVector)) → Each AreIndexVectors documents → Each AreWritableVectors documents
  writable-documents [] h = tt
  writable-documents (d ∷ documents) h =
      (record { few = h.0.few_vectors; apart = h.0.apart; each = all-from_each IsWritableVector d (writable-vectors d (each-from_all (IsVector fields) d h.0.each)) }, writable-documents documents h.1)

  named-documents : (documents : List (List StoredVector)) → Each AreIndexVectors documents → Each (λ (d : List StoredVector). All (λ v. has_vectors fields v.field ≡ true) d) documents
  named-documents [] h = tt
  named-documents (d ∷ documents) h =
      (all-from_each (λ (v : StoredVector). has_vectors fields v.field ≡ true) d (named-vectors d (each-from_all (IsVector fields) d h.0.each)), named-documents documents h.1)

  -- the three files of a segment that has its store to itself
  pub vectors-read : (stored : List StoredDocument) (documents : List (List StoredVector)) → Each AreIndexVectors documents → length (tvd_bytes documents) < 2 ^ 31 → length (tvf_bytes documents) < 2 ^ 31
      → AreStoreVectors (record { total = length documents; window = whole_store (length documents) }) fields (canonical_store true stored documents) documents
  vectors-read stored documents good tvd_small tvf_small =
      let whole = whole_store (length documents) in
      let all = windowed-all documents in
      let part : StoreWindow = record { total = length documents; window = whole } in
      was-held fields part stored documents
      (subst (λ (seen : List (List StoredVector)). StandFor (vector_files (length documents) whole fields (Some (tvx_bytes documents)) (Some (tvd_bytes documents)) (Some (tvf_bytes documents))) seen) all
      (written_stand documents fields whole (all-from_each AreWritableVectors documents (writable-documents documents good)) (record {
        tvd_short = tvd_small;
        tvf_short = tvf_small;
        within = omega arith;
        named = subst (λ (seen : List (List StoredVector)). All (All (λ v. has_vectors fields v.field ≡ true)) seen) (sym all)
            (all-from_each (λ (d : List StoredVector). All (λ v. has_vectors fields v.field ≡ true) d) documents (named-documents documents good));
      })))

-- each vector of each document is one that an index can have
pub good-vectors : (fields : List TableField) (documents : List (List StoredVector)) → Each (λ (d : List StoredVector). All (IsVector fields) d) documents → Each (Each (IsVector fields)) documents
good-vectors fields [] h = tt
good-vectors fields (d ∷ documents) h = (each-from_all (IsVector fields) d h.0, good-vectors fields documents h.1)

-- the three files are bytes, where they are there
pub vectors-there : (fields : List TableField) (stored : List StoredDocument) (documents : List (List StoredVector)) (b : Bool)
    → (b ≡ true → AreStoreVectors (record { total = length documents; window = whole_store (length documents) }) fields (canonical_store true stored documents) documents)
    → IfThere (canonical_store b stored documents).tvx × IfThere (canonical_store b stored documents).tvd × IfThere (canonical_store b stored documents).tvf
vectors-there fields stored documents true h =
    let a = h refl in (
      read-bytes (tvx_plan (length documents)) (tvx_bytes documents) a.places a.places_held,
      read-bytes (tvd_plan fields (whole_store (length documents)) a.places) (tvd_bytes documents) a.slots a.slots_held,
      read-bytes (tvf_plan a.slots) (tvf_bytes documents) a.all a.vectors_held,
    )
vectors-there fields stored documents false h = (tt, tt, tt)
