-- `.tvd` that was read is what the writer gives, where its vectors stand where the writer's do.
use Rattle.std.proofs.Common.{◌≡◌, ℕ, suc, ◌+◌, ◌-◌, Bool, true, false, not, eqb, List, [], ◌∷◌, ◌++◌, length, map, None, refl, sym, ap, ◌∙◌, arith}
use Rattle.std.specs.List.{flat_map}
use Rattle.std.proofs.lemmas.List.{append-nil}
use Rattle.lu_types.specs.Tables.{TableField}
use Rattle.lu_types.specs.declared.stored.Window.{Window}
use Rattle.lu_grammar.specs.Parts.{num, spelling}
use Rattle.lu_grammar.specs.Records.{first_broken}
use Rattle.lu_grammar.specs.Plans.{done, and_then}
use Rattle.lu_grammar.specs.Meaning.{Spelled, bytes_of, Reads}
use Rattle.lu_grammar.proofs.Codecs.{same-of}
use Rattle.term_vectors.specs.declared.layout.DocumentPlaces.{DocumentPlaces}
use Rattle.term_vectors.specs.Format.{headed}
use Rattle.term_vectors.specs.Fields.{TvdRecord, VectorPlace, format, count, stated, format_conditions, count_shape, count_conditions, numbers_plan, further_plan, placed, document_plan, is_within, documents_plan, tvd_plan}
use Rattle.term_vectors.specs.Vectors.{StoredVector}
use Rattle.term_vectors.specs.VectorBytes.{vector_header_bytes, vectors_bytes, vector_number_bytes, differences_bytes, document_fields_bytes, tvd_bytes, written_places}
use Rattle.term_vectors.specs.WrittenChoices.{StandAtEnds}
use Rattle.term_vectors.proofs.WritesVectors.{slots_from, all_slots}
use Rattle.term_vectors.proofs.WritesFields.{further_from}
use Rattle.term_vectors.proofs.PlanRecords.{AreRecordsOf, bytes_of-append, records_done, records_due, records_then, records_headed, of_one}
use Rattle.term_vectors.proofs.OnlyVectors.{header_only}
use Rattle.term_vectors.proofs.OnlySlots.{numbers_only, apart_bytes, further_only, none-some, stand_as, numbers_bytes, apart-is}

-- ---- a document

-- records that spell a document, which stands where its places are
record SpellsFields (at : DocumentPlaces) (place end : ℕ) (ss : List (Spelled TvdRecord)) (d : List StoredVector) : Type 0 where
  is : bytes_of ss ≡ document_fields_bytes d
  tvd : at.tvd ≡ place
  tvf : at.tvf ≡ end

-- what was read of a document
record PartsOf (at : DocumentPlaces) (place : ℕ) (ss : List (Spelled TvdRecord)) (slots : List VectorPlace) : Type 0 where
  numbers : List ℕ
  further : List ℕ
  is : bytes_of ss ≡ spelling num (length numbers) ++ (flat_map (λ m. spelling num m) numbers ++ apart_bytes at.tvf further)
  tvd : at.tvd ≡ place
  long : length further ≡ length numbers - 1
  all : placed numbers (at.tvf ∷ further) ≡ slots

document_parts : (asked : Bool) (fields : List TableField) (at : DocumentPlaces) (place : ℕ) (ss : List (Spelled TvdRecord)) (slots : List VectorPlace) → AreRecordsOf (document_plan asked fields at) place ss slots → PartsOf at place ss slots
document_parts asked fields at place ss slots h =
    let parts = records_due count_shape (λ p _. count_conditions at.tvd p)
    (λ _ r. and_then (numbers_plan asked fields (stated r) []) (λ numbers. and_then (further_plan (stated r - 1) at.tvf) (λ further. done (placed numbers (at.tvf ∷ further))))) place ss slots h in
    let s = parts.first in
    let n = stated s.it in
    let here = place + length s.front in
    let one = of_one num (λ k. count k) s.it s.front parts.spells in
    let front : s.front ≡ spelling num n = one.front_is ∙ ap (λ (r : TvdRecord). spelling num (stated r)) one.is in
    let second = records_then (numbers_plan asked fields n []) (λ numbers. and_then (further_plan (n - 1) at.tvf) (λ further. done (placed numbers (at.tvf ∷ further)))) here parts.rest slots parts.others in
    let there = here + length (bytes_of second.first) in
    let third = records_then (further_plan (n - 1) at.tvf) (λ further. done (placed second.value (at.tvf ∷ further))) there second.second slots second.two in
    let last = records_done (placed second.value (at.tvf ∷ third.value)) slots (there + length (bytes_of third.first)) third.second third.two in
    let numbers = numbers_only asked fields n [] here second.first second.value second.one in
    let further = further_only (n - 1) at.tvf there third.first third.value third.one in
    let same : second.second ≡ third.first = third.all ∙ ap (λ (xs : List (Spelled TvdRecord)). third.first ++ xs) last.0 ∙ append-nil third.first in
    record {
      numbers = second.value;
      further = third.value;
      is = ap (λ (xs : List (Spelled TvdRecord)). bytes_of xs) (parts.all ∙ ap (λ (xs : List (Spelled TvdRecord)). s ∷ xs) (second.all ∙ ap (λ (xs : List (Spelled TvdRecord)). second.first ++ xs) same))
          ∙ ap (λ (t : List ℕ). s.front ++ t) (bytes_of-append second.first third.first ∙ ap (λ (t : List ℕ). t ++ bytes_of third.first) numbers.0 ∙ ap (λ (t : List ℕ). flat_map (λ m. spelling num m) second.value ++ t) further.0)
          ∙ ap (λ (t : List ℕ). t ++ (flat_map (λ m. spelling num m) second.value ++ apart_bytes at.tvf third.value)) front
          ∙ ap (λ (k : ℕ). spelling num k ++ (flat_map (λ m. spelling num m) second.value ++ apart_bytes at.tvf third.value)) (sym numbers.1);
      tvd = sym (at_place place at.tvd parts.unbroken);
      long = further.1 ∙ ap (λ (k : ℕ). k - 1) (sym numbers.1);
      all = last.1;
    }
  where
    at_place : (place wanted : ℕ) → first_broken (count_conditions wanted place) ≡ None → place ≡ wanted
    at_place place wanted h = same-of place wanted (none_broken (not (eqb place wanted)) h)
      where
        none_broken : (b : Bool) → first_broken (record { rule = 99; broken = b } ∷ []) ≡ None → b ≡ false
        none_broken true q = cc
        none_broken false q = refl

no_numbers : (numbers places : List ℕ) (p : ℕ) → placed numbers (p ∷ places) ≡ [] → numbers ≡ []
unfolding placed
no_numbers [] places p h = refl
no_numbers (n ∷ numbers) places p h = absurd (none-some _ _ (sym h))

document_only : (at : DocumentPlaces) (place end : ℕ) (ss : List (Spelled TvdRecord)) (slots : List VectorPlace) (d : List StoredVector) → PartsOf at place ss slots → slots ≡ slots_from end d → (d ≡ [] → at.tvf ≡ end)
    → SpellsFields at place end ss d
unfolding slots_from apart_bytes differences_bytes
document_only at place end ss slots [] parts same free =
    let none : parts.numbers ≡ [] = no_numbers parts.numbers parts.further at.tvf (parts.all ∙ same) in
    let less : parts.further ≡ [] = nothing parts.further (parts.long ∙ ap (λ (ns : List ℕ). length ns - 1) none) in
    record {
      is = parts.is ∙ ap (λ (ns : List ℕ). spelling num (length ns) ++ (flat_map (λ m. spelling num m) ns ++ apart_bytes at.tvf parts.further)) none ∙ ap (λ (ps : List ℕ). spelling num 0 ++ apart_bytes at.tvf ps) less;
      tvd = parts.tvd;
      tvf = free refl;
    }
  where
    nothing : (xs : List ℕ) → length xs ≡ 0 → xs ≡ []
    nothing [] h = refl
    nothing (x ∷ xs) h = absurd (omega (arith, h))
document_only at place end ss slots (v ∷ vs) parts same free =
    let stand = stand_as v vs at.tvf end parts.numbers parts.further (parts.all ∙ same) parts.long in
    let d = v ∷ vs in
    record {
      is = parts.is ∙ ap (λ (ns : List ℕ). spelling num (length ns) ++ (flat_map (λ m. spelling num m) ns ++ apart_bytes at.tvf parts.further)) stand.numbers_are
          ∙ ap (λ (k : ℕ). spelling num k ++ (flat_map (λ m. spelling num m) (map (λ w. w.field) d) ++ apart_bytes at.tvf parts.further)) (as_many d)
          ∙ ap (λ (t : List ℕ). spelling num (length d) ++ (t ++ apart_bytes at.tvf parts.further)) (numbers_bytes d)
          ∙ ap (λ (t : List ℕ). spelling num (length d) ++ (flat_map vector_number_bytes d ++ t))
          (ap (λ (ps : List ℕ). apart_bytes at.tvf ps) stand.further_are ∙ ap (λ (q : ℕ). apart_bytes q (further_from end d)) stand.first_is ∙ apart-is d end);
      tvd = parts.tvd;
      tvf = stand.first_is;
    }
  where
    as_many : (ws : List StoredVector) → length (map (λ w. w.field) ws) ≡ length ws
    as_many [] = refl
    as_many (w ∷ ws) = ap suc (as_many ws)

-- ---- documents

list_heads : (a b : List VectorPlace) (xs ys : List (List VectorPlace)) → a ∷ xs ≡ b ∷ ys → (a ≡ b) × (xs ≡ ys)
list_heads a b xs ys h = (cc, cc)

list_none : (a : List VectorPlace) (xs : List (List VectorPlace)) → [] ≡ a ∷ xs → ⊥
list_none a xs h = cc

documents_only : (fields : List TableField) (window : Window) (nth place end : ℕ) (places : List DocumentPlaces) (ss : List (Spelled TvdRecord)) (slots : List (List VectorPlace)) (ds : List (List StoredVector))
    → AreRecordsOf (documents_plan fields window nth places) place ss slots → slots ≡ all_slots end ds → StandAtEnds end places ds → (bytes_of ss ≡ flat_map document_fields_bytes ds) × (places ≡ written_places place end ds)
unfolding documents_plan all_slots StandAtEnds written_places
documents_only fields window nth place end [] ss slots [] h same free = let none = records_done [] slots place ss h in (ap (λ (xs : List (Spelled TvdRecord)). bytes_of xs) none.0, refl)
documents_only fields window nth place end [] ss slots (d ∷ ds) h same free = let none = records_done [] slots place ss h in absurd (list_none _ _ (none.1 ∙ same))
documents_only fields window nth place end (at ∷ places) ss slots [] h same free =
    let parts = records_then (document_plan (is_within window nth) fields at) (λ x. headed x (documents_plan fields window (suc nth) places)) place ss slots h in
    let more = records_headed parts.value (documents_plan fields window (suc nth) places) (place + length (bytes_of parts.first)) parts.second slots parts.two in
    absurd (list_none _ _ (sym (sym more.2 ∙ same)))
documents_only fields window nth place end (at ∷ places) ss slots (d ∷ ds) h same free =
    let parts = records_then (document_plan (is_within window nth) fields at) (λ x. headed x (documents_plan fields window (suc nth) places)) place ss slots h in
    let here = place + length (bytes_of parts.first) in
    let more = records_headed parts.value (documents_plan fields window (suc nth) places) here parts.second slots parts.two in
    let both = list_heads parts.value (slots_from end d) more.0 (all_slots (end + length (vectors_bytes d)) ds) (sym more.2 ∙ same) in
    let one = document_only at place end parts.first parts.value d (document_parts (is_within window nth) fields at place parts.first parts.value parts.one) both.0 free.0 in
    let rest = documents_only fields window (suc nth) here (end + length (vectors_bytes d)) places parts.second more.0 ds more.1 both.1 free.1 in (
      ap (λ (xs : List (Spelled TvdRecord)). bytes_of xs) parts.all ∙ bytes_of-append parts.first parts.second ∙ ap (λ (t : List ℕ). t ++ bytes_of parts.second) one.is ∙ ap (λ (t : List ℕ). document_fields_bytes d ++ t) rest.0,
      ap (λ (p : ℕ). both_places p at.tvf ∷ places) one.tvd ∙ ap (λ (q : ℕ). both_places place q ∷ places) one.tvf
          ∙ ap (λ (ps : List DocumentPlaces). both_places place end ∷ ps) (rest.1 ∙ ap (λ (t : List ℕ). written_places (place + length t) (end + length (vectors_bytes d)) ds) one.is),
    )
  where
    both_places : ℕ → ℕ → DocumentPlaces
    both_places tvd tvf = record { tvd = tvd; tvf = tvf }

-- ---- the file

pub tvd_only : (fields : List TableField) (window : Window) (places : List DocumentPlaces) (tvd : List ℕ) (slots : List (List VectorPlace)) (ds : List (List StoredVector)) → Reads (tvd_plan fields window places) tvd slots
    → slots ≡ all_slots 4 ds → StandAtEnds 4 places ds → (tvd ≡ tvd_bytes ds) × (places ≡ written_places 4 4 ds)
tvd_only fields window places tvd slots ds read same free =
    let head = header_only format format_conditions 98 (λ z. refl) (documents_plan fields window 0 places) read.records slots (record { good = read.good; none = read.none_due }) in
    let body = documents_only fields window 0 4 4 places head.more slots ds head.others same free in (
      read.front ∙ append-nil (bytes_of read.records) ∙ ap (λ (xs : List (Spelled TvdRecord)). bytes_of xs) head.all ∙ ap (λ (t : List ℕ). t ++ bytes_of head.more) head.is ∙ ap (λ (t : List ℕ). vector_header_bytes ++ t) body.0,
      body.1,
    )
