-- What the vectors are of every document that a segment takes.
use Rattle.std.proofs.Common.{◌≡◌, ℕ, ◌+◌, ◌<◌, ◌≤◌, ◌^◌, true, ltb, leb, List, [], length, get_or, Some, refl, sym, ap, subst, ◌∙◌, arith}
use Rattle.std.specs.Prelude.{All}
use Rattle.std.proofs.lemmas.Bool.{lt-ltb, le-leb}
use Rattle.std.proofs.lemmas.List.Elements.{All-from_get_or}
use Rattle.lu_types.specs.Tables.{TableField}
use Rattle.lu_types.specs.declared.stored.Window.{Window}
use Rattle.lu_types.specs.FilePlans.{StandFor}
use Rattle.lu_grammar.specs.Bytes.{IsBytes, Cursor, start_of, place_in}
use Rattle.lu_grammar.specs.Parts.{int32}
use Rattle.lu_grammar.specs.Reading.{value_or}
use Rattle.lu_grammar.specs.Plans.{read_file}
use Rattle.lu_grammar.proofs.Codecs.{ok_of, due_was, file_was, alone_was, record_at-was, read_file-Reads, place_in-after, int32_read}
use Rattle.lu_grammar.proofs.Parts.{IsBytes-drop}
use Rattle.lu_types.specs.Stores.{windowed}
use Rattle.term_vectors.specs.declared.layout.DocumentPlaces.{DocumentPlaces}
use Rattle.term_vectors.specs.Format.{format_shape}
use Rattle.term_vectors.specs.Places.{tvx_plan}
use Rattle.term_vectors.specs.Fields.{VectorPlace, format, format_conditions, is_within, documents_plan, tvd_plan}
use Rattle.term_vectors.specs.Vectors.{StoredVector, all_plan, tvf_plan}
use Rattle.term_vectors.specs.Stores.{AreVectors, places_in, slots_in, stored_vectors_in, vector_files}
use Rattle.term_vectors.specs.InnerViews.{HaveNoFault}
use Rattle.term_vectors.proofs.StatedLemmas.{tvx_stated}
use Rattle.term_vectors.proofs.StandLemmas.{store-documents, windowed-many, windowed-get, tvf_was}
use Rattle.term_vectors.proofs.Unasked.{slots-read, slots_file}
use Rattle.term_vectors.proofs.ValidStores.{all_are}
use Rattle.term_vectors.proofs.ValidFields.{DocumentAsked, documents_asked}

within_is : (window : Window) (n : ℕ) → n < window.count → is_within window (window.offset + n) ≡ true
within_is window n lt =
    let low : leb window.offset (window.offset + n) ≡ true = le-leb window.offset (window.offset + n) (omega arith) in
    let high : ltb (window.offset + n) (window.offset + window.count) ≡ true = lt-ltb (window.offset + n) (window.offset + window.count) (omega arith) in
    rw low rw high refl

-- of the documents of a `.tvd` that was read this was asked
tvd_asked : (fields : List TableField) (window : Window) (places : List DocumentPlaces) (tvd : List ℕ) (all : List (List VectorPlace)) → IsBytes tvd → read_file (tvd_plan fields window places) tvd ≡ ok_of all
    → (n : ℕ) → n < length places → is_within window n ≡ true → DocumentAsked fields (get_or all n [])
tvd_asked fields window places tvd all fits e n lt within =
    let file = file_was (tvd_plan fields window places) tvd all e in
    let head = due_was (format_shape format) (λ _ r. format_conditions r) (λ _ _. documents_plan fields window 0 places) (start_of tvd) (all, file.0) file.1 in
    let judged = record_at-was (format_shape format) format_conditions (start_of tvd) head.0.0 head.0.1 head.1 in
    let read = alone_was int32 (λ z. format z) (start_of tvd) head.0.0 head.0.1 judged.0 in
    let four = int32_read (start_of tvd) head.0.1 read.0 read.1 in
    let fits_b : IsBytes head.0.1.rest = subst (λ (c : Cursor). IsBytes c.rest) (sym four.1) (IsBytes-drop 4 tvd fits) in
    documents_asked fields window 0 places head.0.1 all file.0 fits_b head.2 n lt (ap (is_within window) (let k : 0 + n ≡ n = omega arith in k) ∙ within)

-- the files of a store that were read, of which `.tvf` is short
pub record WereRead (total : ℕ) (window : Window) (fields : List TableField) (tvx tvd tvf : List ℕ) : Type 0 where
  pub good : HaveNoFault total window tvx tvd tvf
  pub asked : read_file (tvd_plan fields window (places_in total tvx)) tvd ≡ ok_of (slots_in (places_in total tvx) tvd)
  pub short : length tvf < 2 ^ 31

module _ (total : ℕ) (window : Window) (fields : List TableField) (tvx tvd tvf : List ℕ) (s : WereRead total window fields tvx tvd tvf) where
  one_valid : (n : ℕ) → n < window.count → AreVectors fields (get_or (windowed window (stored_vectors_in (slots_in (places_in total tvx) tvd) tvf)) n [])
  one_valid n lt =
      let places = places_in total tvx in
      let slots = slots_in places tvd in
      let (le, (d, e)) = tvf_was slots tvf (stored_vectors_in slots tvf) s.good.vectors in
      let end = place_in-after (all_plan slots) tvf 4 (stored_vectors_in slots tvf) d s.good.tvf_bytes le e in
      let are = all_are fields slots (place_in tvf 4) (stored_vectors_in slots tvf) d (IsBytes-drop 4 tvf s.good.tvf_bytes) e in
      let many = (tvx_stated total tvx places s.good.places).many in
      let in_places : window.offset + n < length places = omega (arith, many, s.good.within) in
      let asked = tvd_asked fields window places tvd slots s.good.tvd_bytes s.asked (window.offset + n) in_places (within_is window n lt) in
      let in_slots : window.offset + n < length slots = omega (arith, in_places, (store-documents total window tvx tvd tvf s.good).many) in
      subst (AreVectors fields) (sym (windowed-get total window tvx tvd tvf s.good n lt)) (are.each (window.offset + n) in_slots asked.asked asked.few (omega (arith, end.1, s.short)))

  pub all_valid : All (AreVectors fields) (windowed window (stored_vectors_in (slots_in (places_in total tvx) tvd) tvf))
  all_valid =
      let all = windowed window (stored_vectors_in (slots_in (places_in total tvx) tvd) tvf) in
      All-from_get_or (AreVectors fields) all [] (λ n lt. one_valid n (omega (arith, lt, windowed-many total window tvx tvd tvf s.good)))

-- what was read of three files that stand for a value
pub values_valid : (total : ℕ) (window : Window) (fields : List TableField) (tvx tvd tvf : List ℕ) (value : List (List StoredVector)) → IsBytes tvd → IsBytes tvf → window.offset + window.count ≤ total → length tvf < 2 ^ 31
    → StandFor (vector_files total window fields (Some tvx) (Some tvd) (Some tvf)) value → All (AreVectors fields) value
values_valid total window fields tvx tvd tvf value tvd_bytes tvf_bytes within short (places, reads_tvx, (slots, reads_tvd, (all, reads_tvf, is))) =
    let at_places = read_file-Reads (tvx_plan total) tvx places reads_tvx in
    let same_places : places_in total tvx ≡ places = ap (value_or []) at_places in
    let at_slots = ap (λ (ps : List DocumentPlaces). read_file (tvd_plan fields window ps) tvd) same_places ∙ read_file-Reads (tvd_plan fields window places) tvd slots reads_tvd in
    let file = file_was (tvd_plan fields window (places_in total tvx)) tvd slots at_slots in
    let same_slots : slots_in (places_in total tvx) tvd ≡ slots = slots-read fields window (places_in total tvx) tvd slots file.0 file.1 file.2 in
    let at_all = ap (λ (ss : List (List VectorPlace)). read_file (tvf_plan ss) tvf) same_slots ∙ read_file-Reads (tvf_plan slots) tvf all reads_tvf in
    let same_all : stored_vectors_in (slots_in (places_in total tvx) tvd) tvf ≡ all = ap (value_or []) at_all in
    let were : WereRead total window fields tvx tvd tvf = record {
      good = record {
        within = within;
        tvd_bytes = tvd_bytes;
        tvf_bytes = tvf_bytes;
        places = at_places ∙ ap (λ (ps : List DocumentPlaces). ok_of ps) (sym same_places);
        slots = slots_file fields window (places_in total tvx) tvd slots at_slots;
        vectors = at_all ∙ ap (λ (vs : List (List StoredVector)). ok_of vs) (sym same_all);
      };
      asked = at_slots ∙ ap (λ (ss : List (List VectorPlace)). ok_of ss) (sym same_slots);
      short = short;
    } in
    subst (All (AreVectors fields)) (ap (λ (vs : List (List StoredVector)). windowed window vs) same_all ∙ sym is) (all_valid total window fields tvx tvd tvf were)
