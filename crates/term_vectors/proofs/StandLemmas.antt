-- Where the documents of a store without a fault stand.
use Rattle.std.proofs.Common.{◌≡◌, ℕ, zero, suc, ◌+◌, ◌<◌, ◌≤◌, Bool, true, false, not, eqb, ltb, List, [], ◌∷◌, length, drop, map, get_or, None, Ok, refl, sym, ap, subst, ◌∙◌, arith}
use Rattle.std.proofs.lemmas.List.{length-take, length-drop, get_or-take, get_or-drop}
use Rattle.lu_types.specs.declared.stored.Window.{Window}
use Rattle.lu_grammar.specs.Bytes.{IsBytes, Cursor, start_of, place_in}
use Rattle.lu_grammar.specs.Parts.{int32, num}
use Rattle.lu_grammar.specs.Reading.{read_part}
use Rattle.lu_grammar.specs.Records.{first_broken, record_at}
use Rattle.lu_grammar.specs.Plans.{read_plan, read_file}
use Rattle.lu_grammar.proofs.Codecs.{ok_pair, same_pair, ok_of, then_ok, due_was, record_at-was, alone_was, read_plan-and_then, file_was, same-of, int32_read}
use Rattle.lu_types.specs.Stores.{windowed}
use Rattle.term_vectors.specs.declared.layout.DocumentPlaces.{DocumentPlaces}
use Rattle.term_vectors.specs.Format.{format_shape, headed}
use Rattle.term_vectors.specs.Fields.{VectorPlace, count, stated, count_shape, count_conditions, document_plan, no_window, documents_plan}
use Rattle.term_vectors.specs.Vectors.{TvfRecord, StoredVector, format, format_conditions, bits_of_heading, heading_shape, heading_conditions, vector_plan, vectors_plan, all_plan, tvf_plan}
use Rattle.term_vectors.specs.Stores.{places_in, slots_in, stored_vectors_in}
use Rattle.term_vectors.specs.InnerViews.{no_vector, slots_plan, vector_here, IsVectorThere, AreAllThere, HaveNoFault}
use Rattle.term_vectors.proofs.Steps.{headed_was}
use Rattle.term_vectors.proofs.StatedLemmas.{tvx_stated}
use Rattle.term_vectors.proofs.DocumentLemmas.{no_places}
use Rattle.term_vectors.proofs.Unasked.{outside}
use Rattle.term_vectors.proofs.VectorLemmas.{reads_vectors, rest_of_vector, reads_all}
use Rattle.term_vectors.proofs.WasRead.{documents_was, tvd_was}
use Rattle.term_vectors.proofs.LeftLemmas.{settled_left, record_in, plan_in}

-- the cursor stands in the bytes
abbrev IsIn : List ℕ → Cursor → Type 0
IsIn bytes c = (c ≡ place_in bytes c.place) × (c.place ≤ length bytes)

-- ---- the vectors of a document

-- a vector that was read stands at its place
pub at_its_place : (wanted place : ℕ) (r : TvfRecord) → first_broken (heading_conditions wanted place r) ≡ None → place ≡ wanted
at_its_place wanted place r h = same-of place wanted (go (not (eqb place wanted)) h)
  where
    go : (b : Bool) → first_broken (record { rule = 106; broken = b } ∷ record { rule = 107; broken = ltb 3 (bits_of_heading r) } ∷ []) ≡ None → b ≡ false
    go true q = cc
    go false q = refl

vector_stands : (tvf : List ℕ) (at : VectorPlace) (c : Cursor) (v : StoredVector) (d : Cursor) → IsIn tvf c → read_plan (vector_plan at) c ≡ ok_pair v d → IsVectorThere tvf at × (v ≡ vector_here tvf at)
vector_stands tvf at c v d (is, le) e =
    let head = due_was heading_shape (λ place r. heading_conditions at.place place r) (λ _ r. rest_of_vector at r) c (v, d) e in
    let judged = record_at-was heading_shape (heading_conditions at.place c.place) c head.0.0 head.0.1 head.1 in
    let place : c.place ≡ at.place = at_its_place at.place c.place head.0.0 judged.1 in
    let here : c ≡ place_in tvf at.place = is ∙ ap (λ (n : ℕ). place_in tvf n) place in
    let settled = settled_left (read_plan (vector_plan at) (place_in tvf at.place)) (no_vector, place_in tvf at.place) v d (ap (λ (x : Cursor). read_plan (vector_plan at) x) (sym here) ∙ e) in
    ((d, settled.0, omega arith), settled.1)

vectors_stand : (tvf : List ℕ) → IsBytes tvf → (slots : List VectorPlace) (c : Cursor) (all : List StoredVector) (d : Cursor) → IsIn tvf c → reads_vectors slots c ≡ Ok (all, d) → AreAllThere tvf slots × (all ≡ map (vector_here tvf) slots)
unfolding vectors_plan read_plan
vectors_stand tvf fits [] c all d on e = (tt, sym (same_pair [] all c d e).0)
vectors_stand tvf fits (at ∷ slots) c all d on e =
    let rest = λ (v : StoredVector). headed v (vectors_plan slots) in
    let first = then_ok (read_plan (vector_plan at) c) (λ x. read_plan (rest x.0) x.1) (all, d) (sym (read_plan-and_then (vector_plan at) rest c) ∙ e) in
    let more = headed_was first.0.0 (vectors_plan slots) first.0.1 all d first.2 in
    let one = vector_stands tvf at c first.0.0 first.0.1 on first.1 in
    let others = vectors_stand tvf fits slots first.0.1 more.0 d (plan_in (vector_plan at) tvf c first.0.0 first.0.1 fits on first.1) more.1 in
    ((one.0, others.0), more.2 ∙ ap (λ (v : StoredVector). v ∷ more.0) one.1 ∙ ap (λ (vs : List StoredVector). vector_here tvf at ∷ vs) others.1)

-- ---- the vectors of all documents

pub record AllStand (tvf : List ℕ) (documents : List (List VectorPlace)) (all : List (List StoredVector)) : Type 0 where
  pub many : length all ≡ length documents
  pub each : (n : ℕ) → n < length documents → AreAllThere tvf (get_or documents n []) × (get_or all n [] ≡ map (vector_here tvf) (get_or documents n []))

all_stand : (tvf : List ℕ) → IsBytes tvf → (documents : List (List VectorPlace)) (c : Cursor) (all : List (List StoredVector)) (d : Cursor) → IsIn tvf c → reads_all documents c ≡ Ok (all, d) → AllStand tvf documents all
unfolding all_plan read_plan
all_stand tvf fits [] c all d on e = record { many = ap length (sym (same_pair [] all c d e).0); each = λ n lt. absurd (omega arith) }
all_stand tvf fits (slots ∷ documents) c all d on e =
    let rest = λ (v : List StoredVector). headed v (all_plan documents) in
    let first = then_ok (reads_vectors slots c) (λ x. read_plan (rest x.0) x.1) (all, d) (sym (read_plan-and_then (vectors_plan slots) rest c) ∙ e) in
    let more = headed_was first.0.0 (all_plan documents) first.0.1 all d first.2 in
    let one = vectors_stand tvf fits slots c first.0.0 first.0.1 on first.1 in
    let others = all_stand tvf fits documents first.0.1 more.0 d (plan_in (vectors_plan slots) tvf c first.0.0 first.0.1 fits on first.1) more.1 in
    record { many = ap length more.2 ∙ ap suc others.many; each = each_of tvf slots documents all first.0.0 more.0 more.2 one others.each }
  where
    each_of : (tvf : List ℕ) (slots : List VectorPlace) (documents : List (List VectorPlace)) (all : List (List StoredVector)) (v : List StoredVector) (vs : List (List StoredVector)) → all ≡ v ∷ vs → AreAllThere tvf slots × (v ≡ map (vector_here tvf) slots)
        → ((n : ℕ) → n < length documents → AreAllThere tvf (get_or documents n []) × (get_or vs n [] ≡ map (vector_here tvf) (get_or documents n [])))
        → (n : ℕ) → n < suc (length documents) → AreAllThere tvf (get_or (slots ∷ documents) n []) × (get_or all n [] ≡ map (vector_here tvf) (get_or (slots ∷ documents) n []))
    each_of tvf slots documents all v vs is one others zero lt = (one.0, ap (λ (ws : List (List StoredVector)). get_or ws 0 []) is ∙ one.1)
    each_of tvf slots documents all v vs is one others (suc n) lt = let o = others n (omega arith) in (o.0, ap (λ (ws : List (List StoredVector)). get_or ws (suc n) []) is ∙ o.1)

-- ---- the documents of `.tvd`

-- a document stands there, with its vectors at these places
pub record DocumentStands (tvd : List ℕ) (at : DocumentPlaces) (slots : List VectorPlace) : Type 0 where
  pub many : ℕ
  pub from : Cursor
  pub within : at.tvd ≤ length tvd
  pub counted : read_part num (place_in tvd at.tvd) ≡ ok_pair many from
  pub behind : (from ≡ place_in tvd from.place) × (from.place ≤ length tvd)
  pub end : Cursor
  pub read : read_plan (slots_plan many at.tvf) from ≡ ok_pair slots end

document_stands : (tvd : List ℕ) → IsBytes tvd → (at : DocumentPlaces) (c : Cursor) (slots : List VectorPlace) (d : Cursor) → IsIn tvd c → read_plan (document_plan false [] at) c ≡ ok_pair slots d → DocumentStands tvd at slots
document_stands tvd fits at c slots d (is, le) e =
    let head = due_was count_shape (λ place _. count_conditions at.tvd place) (λ _ r. slots_plan (stated r) at.tvf) c (slots, d) e in
    let judged = record_at-was count_shape (λ _. count_conditions at.tvd c.place) c head.0.0 head.0.1 head.1 in
    let part = alone_was num (λ n. count n) c head.0.0 head.0.1 judged.0 in
    let n = stated head.0.0 in
    let number : part.0 ≡ n = ap stated part.2 in
    let place : c.place ≡ at.tvd = at_place c.place at.tvd judged.1 in
    let here : c ≡ place_in tvd at.tvd = is ∙ ap (λ (k : ℕ). place_in tvd k) place in
    let on_record = ap (λ (x : Cursor). record_at count_shape (λ _. count_conditions at.tvd c.place) x) (sym is) ∙ head.1 in
    record {
      many = n;
      from = head.0.1;
      within = omega arith;
      counted = ap (λ (x : Cursor). read_part num x) (sym here) ∙ part.1 ∙ ap (λ (k : ℕ). ok_pair k head.0.1) number;
      behind = record_in count_shape (λ _. count_conditions at.tvd c.place) tvd c.place head.0.0 head.0.1 fits le on_record;
      end = d;
      read = head.2;
    }
  where
    at_place : (place wanted : ℕ) → first_broken (count_conditions wanted place) ≡ None → place ≡ wanted
    at_place place wanted h = same-of place wanted (none_broken (not (eqb place wanted)) h)
      where
        none_broken : (b : Bool) → first_broken (record { rule = 99; broken = b } ∷ []) ≡ None → b ≡ false
        none_broken true q = cc
        none_broken false q = refl

pub record DocumentsStand (tvd : List ℕ) (places : List DocumentPlaces) (all : List (List VectorPlace)) : Type 0 where
  pub many : length all ≡ length places
  pub each : (n : ℕ) → n < length places → DocumentStands tvd (get_or places n no_places) (get_or all n [])

documents_stand : (tvd : List ℕ) → IsBytes tvd → (i : ℕ) (places : List DocumentPlaces) (c : Cursor) (all : List (List VectorPlace)) (d : Cursor) → IsIn tvd c → read_plan (documents_plan [] no_window i places) c ≡ ok_pair all d → DocumentsStand tvd places all
unfolding documents_plan read_plan
documents_stand tvd fits i [] c all d on e = record { many = ap length (sym (same_pair [] all c d e).0); each = λ n lt. absurd (omega arith) }
documents_stand tvd fits i (at ∷ places) c all d on e =
    let was = documents_was i at places c all d e in
    let reads : read_plan (document_plan false [] at) c ≡ ok_pair was.0.0 was.0.1 = ap (λ (b : Bool). read_plan (document_plan b [] at) c) (sym (outside i)) ∙ was.1 in
    let one = document_stands tvd fits at c was.0.0 was.0.1 on reads in
    let others = documents_stand tvd fits (suc i) places was.0.1 was.2.0 d (plan_in (document_plan false [] at) tvd c was.0.0 was.0.1 fits on reads) was.2.1 in
    record { many = ap length was.2.2 ∙ ap suc others.many; each = each_of tvd at places all was.0.0 was.2.0 was.2.2 one others.each }
  where
    each_of : (tvd : List ℕ) (at : DocumentPlaces) (places : List DocumentPlaces) (all : List (List VectorPlace)) (s : List VectorPlace) (ss : List (List VectorPlace)) → all ≡ s ∷ ss → DocumentStands tvd at s
        → ((n : ℕ) → n < length places → DocumentStands tvd (get_or places n no_places) (get_or ss n [])) → (n : ℕ) → n < suc (length places) → DocumentStands tvd (get_or (at ∷ places) n no_places) (get_or all n [])
    each_of tvd at places all s ss is one others zero lt = subst (λ (ws : List (List VectorPlace)). DocumentStands tvd at (get_or ws 0 [])) (sym is) one
    each_of tvd at places all s ss is one others (suc n) lt = subst (λ (ws : List (List VectorPlace)). DocumentStands tvd (get_or places n no_places) (get_or ws (suc n) [])) (sym is) (others n (omega arith))

-- ---- a store

pub tvf_was : (documents : List (List VectorPlace)) (tvf : List ℕ) (all : List (List StoredVector)) → read_file (tvf_plan documents) tvf ≡ ok_of all → (4 ≤ length tvf) × ((d : Cursor) × (reads_all documents (place_in tvf 4) ≡ Ok (all, d)))
tvf_was documents tvf all e =
    let file = file_was (tvf_plan documents) tvf all e in
    let head = due_was (format_shape format) (λ _ r. format_conditions r) (λ _ _. all_plan documents) (start_of tvf) (all, file.0) file.1 in
    let judged = record_at-was (format_shape format) format_conditions (start_of tvf) head.0.0 head.0.1 head.1 in
    let read = alone_was int32 (λ z. format z) (start_of tvf) head.0.0 head.0.1 judged.0 in
    let four = int32_read (start_of tvf) head.0.1 read.0 read.1 in
    (four.0, (file.0, ap (λ (c : Cursor). reads_all documents c) (sym four.1) ∙ head.2))

module _ (total : ℕ) (window : Window) (tvx tvd tvf : List ℕ) (s : HaveNoFault total window tvx tvd tvf) where
  pub store-documents : DocumentsStand tvd (places_in total tvx) (slots_in (places_in total tvx) tvd)
  store-documents =
      let (le, (d, e)) = tvd_was (places_in total tvx) tvd (slots_in (places_in total tvx) tvd) s.slots in
      documents_stand tvd s.tvd_bytes 0 (places_in total tvx) (place_in tvd 4) (slots_in (places_in total tvx) tvd) d (refl, le) e

  pub store-vectors : AllStand tvf (slots_in (places_in total tvx) tvd) (stored_vectors_in (slots_in (places_in total tvx) tvd) tvf)
  store-vectors =
      let (le, (d, e)) = tvf_was (slots_in (places_in total tvx) tvd) tvf (stored_vectors_in (slots_in (places_in total tvx) tvd) tvf) s.vectors in
      all_stand tvf s.tvf_bytes (slots_in (places_in total tvx) tvd) (place_in tvf 4) (stored_vectors_in (slots_in (places_in total tvx) tvd) tvf) d (refl, le) e

  pub store-many : length (stored_vectors_in (slots_in (places_in total tvx) tvd) tvf) ≡ total
  store-many =
      let stated = tvx_stated total tvx (places_in total tvx) s.places in
      store-vectors.many ∙ store-documents.many ∙ stated.many

  pub windowed-many : length (windowed window (stored_vectors_in (slots_in (places_in total tvx) tvd) tvf)) ≡ window.count
  windowed-many =
      let all = stored_vectors_in (slots_in (places_in total tvx) tvd) tvf in
      omega (arith, s.within, store-many, length-take window.count (drop window.offset all), length-drop window.offset all)

  pub windowed-get : (n : ℕ) → n < window.count → get_or (windowed window (stored_vectors_in (slots_in (places_in total tvx) tvd) tvf)) n [] ≡ get_or (stored_vectors_in (slots_in (places_in total tvx) tvd) tvf) (window.offset + n) []
  windowed-get n lt =
      let all = stored_vectors_in (slots_in (places_in total tvx) tvd) tvf in get_or-take window.count (drop window.offset all) n [] lt ∙ get_or-drop window.offset all n []
