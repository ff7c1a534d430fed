-- The three written files are read as the vectors that they were written of, through any window.
use Rattle.std.proofs.Common.{◌≡◌, ℕ, suc, ◌+◌, ◌-◌, ◌^◌, ◌<◌, ◌≤◌, Bool, true, false, List, [], ◌∷◌, length, drop, get_or, Some, refl, ap, subst, ◌∙◌, arith}
use Rattle.std.specs.Prelude.{All, ◌&&◌, nat_le, nat_lt}
use Rattle.std.specs.List.{flat_map}
use borrow.Author.Tests.{ltb-true, leb-true}
use Rattle.std.proofs.lemmas.List.{length-append, length-take, length-drop, get_or-take, get_or-drop}
use Rattle.lu_types.specs.Tables.{TableField}
use Rattle.lu_types.specs.declared.stored.Window.{Window}
use Rattle.lu_types.specs.FilePlans.{StandFor}
use Rattle.lu_grammar.specs.Plans.{read_file}
use Rattle.lu_grammar.proofs.Codecs.{ok_of, Reads-from, read_file-Writes}
use Rattle.term_vectors.specs.Places.{tvx_plan}
use Rattle.term_vectors.specs.Fields.{has_vectors, is_within, tvd_plan}
use Rattle.term_vectors.specs.Vectors.{StoredVector, tvf_plan}
use Rattle.lu_types.specs.Stores.{windowed}
use Rattle.term_vectors.specs.Stores.{vector_files}
use Rattle.term_vectors.specs.VectorBytes.{vector_header_bytes, vectors_bytes, tvf_bytes, document_fields_bytes, tvd_bytes, written_places, tvx_bytes}
use Rattle.term_vectors.specs.Writable.{AreWritableVectors, IsCheckableWindow}
use Rattle.term_vectors.proofs.WritesVectors.{all_slots, writes-tvf}
use Rattle.term_vectors.proofs.WritesFields.{AreNamedFrom, writes-tvd}
use Rattle.term_vectors.proofs.WritesPlaces.{writes-tvx}
use Rattle.term_vectors.proofs.WrittenBytes.{of_tvx, of_tvd, of_tvf}

-- the field has vectors
abbrev HasNamedFields : List TableField → List StoredVector → Type 0
HasNamedFields fields d = All (λ v. has_vectors fields v.field ≡ true) d

-- a document in the window is named
named_within : (fields : List TableField) (window : Window) (ds : List (List StoredVector)) → IsCheckableWindow fields window ds → (i : ℕ) → is_within window i ≡ true → HasNamedFields fields (get_or ds i [])
named_within fields window ds h i holds = go (nat_le window.offset i) (nat_lt i (window.offset + window.count)) refl refl holds
  where
    go : (a b : Bool) → nat_le window.offset i ≡ a → nat_lt i (window.offset + window.count) ≡ b → a && b ≡ true → HasNamedFields fields (get_or ds i [])
    go false b is also h = cc
    go true false is also h = cc
    go true true is also holds =
        let low : window.offset ≤ i = leb-true window.offset i is in
        let high : i < window.offset + window.count = ltb-true i (window.offset + window.count) also in
        let k = i - window.offset in
        let inside : k < window.count = omega arith in
        let back : window.offset + k ≡ i = omega arith in
        let same : get_or (windowed window ds) k [] ≡ get_or ds i [] =
        get_or-take window.count (drop window.offset ds) k [] inside ∙ get_or-drop window.offset ds k [] ∙ ap (λ (j : ℕ). get_or ds j []) back in
        subst (HasNamedFields fields) same (h.named k [] (omega (arith, h.within, length-take window.count (drop window.offset ds), length-drop window.offset ds)))

named_from : (fields : List TableField) (window : Window) (ds : List (List StoredVector)) (nth : ℕ) → ((i : ℕ) → i < length ds → is_within window (nth + i) ≡ true → HasNamedFields fields (get_or ds i [])) → AreNamedFrom fields window nth ds
unfolding AreNamedFrom
named_from fields window [] nth h = tt
named_from fields window (d ∷ ds) nth h = (
  λ k v lt asked. h 0 (omega arith) (ap (is_within window) (let e : nth + 0 ≡ nth = omega arith in e) ∙ asked) k v lt,
  named_from fields window ds (suc nth) (λ i lt holds. h (suc i) (omega (arith, lt)) (ap (is_within window) (let e : nth + suc i ≡ suc nth + i = omega arith in e) ∙ holds)),
)

-- what reading each file answers
pub record WrittenRead (documents : List (List StoredVector)) (fields : List TableField) (window : Window) : Type 0 where
  pub tvf_low : length (flat_map vectors_bytes documents) < 2 ^ 31
  pub tvx : read_file (tvx_plan (length documents)) (tvx_bytes documents) ≡ ok_of (written_places 4 4 documents)
  pub tvd : read_file (tvd_plan fields window (written_places 4 4 documents)) (tvd_bytes documents) ≡ ok_of (all_slots 4 documents)
  pub tvf : read_file (tvf_plan (all_slots 4 documents)) (tvf_bytes documents) ≡ ok_of documents

pub written_reads : (documents : List (List StoredVector)) (fields : List TableField) (window : Window) → All AreWritableVectors documents → IsCheckableWindow fields window documents → WrittenRead documents fields window
written_reads ds fields window good h =
    let four : length vector_header_bytes ≡ 4 = refl in
    let tvd_low : 4 + length (flat_map document_fields_bytes ds) < 2 ^ 31 = omega (arith, h.tvd_short, four, length-append vector_header_bytes (flat_map document_fields_bytes ds)) in
    let tvf_low : 4 + length (flat_map vectors_bytes ds) < 2 ^ 31 = omega (arith, h.tvf_short, four, length-append vector_header_bytes (flat_map vectors_bytes ds)) in
    let named = named_from fields window ds 0 (λ i lt holds. named_within fields window ds h i (ap (is_within window) (let e : i ≡ 0 + i = omega arith in e) ∙ holds)) in
    let places = written_places 4 4 ds in
    let slots = all_slots 4 ds in
    record {
      tvf_low = omega (arith, tvf_low);
      tvx = read_file-Writes (tvx_plan (length ds)) (tvx_bytes ds) places (writes-tvx ds tvd_low tvf_low);
      tvd = read_file-Writes (tvd_plan fields window places) (tvd_bytes ds) slots (writes-tvd fields window ds good named tvf_low);
      tvf = read_file-Writes (tvf_plan slots) (tvf_bytes ds) ds (writes-tvf ds good);
    }

pub written_stand : (documents : List (List StoredVector)) (fields : List TableField) (window : Window) → All AreWritableVectors documents → IsCheckableWindow fields window documents
    → StandFor (vector_files (length documents) window fields (Some (tvx_bytes documents)) (Some (tvd_bytes documents)) (Some (tvf_bytes documents))) (windowed window documents)
written_stand ds fields window good h =
    let read = written_reads ds fields window good h in
    let places = written_places 4 4 ds in
    let slots = all_slots 4 ds in (
      places,
      Reads-from (tvx_plan (length ds)) (tvx_bytes ds) places (of_tvx ds) read.tvx,
      (slots, Reads-from (tvd_plan fields window places) (tvd_bytes ds) slots (of_tvd ds good read.tvf_low) read.tvd, (ds, Reads-from (tvf_plan slots) (tvf_bytes ds) ds (of_tvf ds good) read.tvf, refl)),
    )
