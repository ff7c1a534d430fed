-- Three files that stand for vectors, and make the choices of the writer, are what it gives.
use Rattle.std.proofs.Common.{◌≡◌, ◌≢◌, ℕ, zero, suc, ◌+◌, Bool, true, false, ◌||◌, cond, ltb, List, [], ◌∷◌, ◌++◌, length, Option, Some, None, refl, sym, ap, subst, ◌∙◌, arith, ℤ, pos, negsuc}
use Rattle.std.specs.Option.{unwrap_or}
use Rattle.std.specs.List.{flat_map}
use Rattle.std.proofs.lemmas.List.{append-nil, take_all}
use Rattle.lu_types.specs.Tables.{TableField}
use Rattle.lu_types.specs.declared.stored.Window.{Window}
use Rattle.lu_types.specs.FilePlans.{StandFor}
use Rattle.lu_types.specs.Stores.{greatest_place, windowed, whole_store}
use Rattle.lu_grammar.specs.Parts.{int64, spelling}
use Rattle.lu_grammar.specs.Records.{Spells, first_broken}
use Rattle.lu_grammar.specs.Meaning.{Spelled, bytes_of, Reads}
use Rattle.term_vectors.specs.declared.layout.DocumentPlaces.{DocumentPlaces}
use Rattle.term_vectors.specs.Format.{place_of_number, headed}
use Rattle.term_vectors.specs.Places.{TvxRecord, format, places, format_conditions, places_shape, is_misplaced, places_conditions, stated_places, places_plan, tvx_plan}
use Rattle.term_vectors.specs.Vectors.{StoredVector}
use Rattle.term_vectors.specs.Stores.{vector_files}
use Rattle.term_vectors.specs.VectorBytes.{vector_header_bytes, vectors_bytes, document_fields_bytes, document_places_bytes, written_places, tvx_bytes, tvd_bytes, tvf_bytes}
use Rattle.term_vectors.specs.WrittenChoices.{MakeWrittenChoices}
use Rattle.term_vectors.proofs.PlanRecords.{AreRecordsOf, records_done, records_due, records_headed, of_one}
use Rattle.term_vectors.proofs.OnlyVectors.{header_only, tvf_only}
use Rattle.term_vectors.proofs.OnlyFields.{tvd_only}

-- ---- the places of a document

-- a number that is a place is that place
place_back : (z : ℤ) → place_of_number z ≢ None → z ≡ pos (unwrap_or (place_of_number z) 0)
place_back (pos n) some = go (ltb greatest_place n) some
  where
    go : (b : Bool) → cond b None (Some n) ≢ None → pos n ≡ pos (unwrap_or (cond b None (Some n)) 0)
    go true h = absurd (h refl)
    go false h = refl
place_back (negsuc n) some = absurd (some refl)

-- neither place of a good record is none
abbrev AreSome : Option ℕ → Option ℕ → Type 0
AreSome o p = (o ≢ None) × (p ≢ None)

are_some : (before o p : Option ℕ) → first_broken (places_conditions before (places o p)) ≡ None → AreSome o p
are_some None None p h = absurd (some_none h)
  where
    some_none : {n : ℕ} → Some n ≡ None → ⊥
    some_none q = cc
are_some (Some b) None p h = absurd (some_none h)
  where
    some_none : {n : ℕ} → Some n ≡ None → ⊥
    some_none q = cc
are_some before (Some a) None h = absurd (go (is_misplaced before (Some a)) h)
  where
    go : (b : Bool) → first_broken (record { rule = 96; broken = b || true } ∷ []) ≡ None → ⊥
    go true q = cc
    go false q = cc
are_some before (Some a) (Some b) h = (λ q. cc, λ q. cc)

places_spelled : (before : Option ℕ) (s : Spelled TvxRecord) → Spells places_shape s.it s.front → first_broken (places_conditions before s.it) ≡ None → s.front ≡ document_places_bytes (stated_places s.it)
places_spelled before s (z, a, fits, front_is, tail) good =
    let one = of_one int64 (λ w. places (place_of_number z) (place_of_number w)) s.it a tail in
    let w = one.value in
    let some = are_some before (place_of_number z) (place_of_number w) (subst (λ (r : TvxRecord). first_broken (places_conditions before r) ≡ None) (sym one.is) good) in
    front_is ∙ ap (λ (x : ℤ). spelling int64 x ++ a) (place_back z some.0) ∙ ap (λ (t : List ℕ). spelling int64 (pos (unwrap_or (place_of_number z) 0)) ++ t) (one.front_is ∙ ap (λ (x : ℤ). spelling int64 x) (place_back w some.1))
    ∙ ap (λ (r : TvxRecord). document_places_bytes (stated_places r)) one.is

places_only : (n : ℕ) (before : Option ℕ) (place : ℕ) (ss : List (Spelled TvxRecord)) (all : List DocumentPlaces) → AreRecordsOf (places_plan n before) place ss all
    → (bytes_of ss ≡ flat_map document_places_bytes all) × (length all ≡ n)
unfolding places_plan
places_only zero before place ss all h =
    let none = records_done [] all place ss h in
    (ap (λ (xs : List (Spelled TvxRecord)). bytes_of xs) none.0 ∙ ap (λ (ps : List DocumentPlaces). flat_map document_places_bytes ps) none.1, ap (λ (ps : List DocumentPlaces). length ps) (sym none.1))
places_only (suc n) before place ss all h =
    let parts = records_due places_shape (λ _ r. places_conditions before r) (λ _ r. headed (stated_places r) (places_plan n (Some (stated_places r).tvd))) place ss all h in
    let s = parts.first in
    let at = stated_places s.it in
    let here = place + length s.front in
    let front = places_spelled before s parts.spells parts.unbroken in
    let more = records_headed at (places_plan n (Some at.tvd)) here parts.rest all parts.others in
    let rest = places_only n (Some at.tvd) here parts.rest more.0 more.1 in (
      ap (λ (xs : List (Spelled TvxRecord)). bytes_of xs) parts.all ∙ ap (λ (t : List ℕ). t ++ bytes_of parts.rest) front ∙ ap (λ (t : List ℕ). document_places_bytes at ++ t) rest.0
          ∙ ap (λ (ps : List DocumentPlaces). flat_map document_places_bytes ps) (sym more.2),
      ap (λ (ps : List DocumentPlaces). length ps) more.2 ∙ ap suc rest.1,
    )

tvx_only : (total : ℕ) (tvx : List ℕ) (all : List DocumentPlaces) → Reads (tvx_plan total) tvx all → (tvx ≡ vector_header_bytes ++ flat_map document_places_bytes all) × (length all ≡ total)
tvx_only total tvx all read =
    let head = header_only format format_conditions 95 (λ z. refl) (places_plan total None) read.records all (record { good = read.good; none = read.none_due }) in
    let body = places_only total None 4 head.more all head.others in (
      read.front ∙ append-nil (bytes_of read.records) ∙ ap (λ (xs : List (Spelled TvxRecord)). bytes_of xs) head.all ∙ ap (λ (t : List ℕ). t ++ bytes_of head.more) head.is ∙ ap (λ (t : List ℕ). vector_header_bytes ++ t) body.0,
      body.1,
    )

-- ---- the three files

written_many : (tvd tvf : ℕ) (ds : List (List StoredVector)) → length (written_places tvd tvf ds) ≡ length ds
unfolding written_places
written_many tvd tvf [] = refl
written_many tvd tvf (d ∷ ds) = ap suc (written_many (tvd + length (document_fields_bytes d)) (tvf + length (vectors_bytes d)) ds)

pub only_written : (total : ℕ) (window : Window) (fields : List TableField) (tvx tvd tvf : List ℕ) (seen : List (List StoredVector)) (stand : StandFor (vector_files total window fields (Some tvx) (Some tvd) (Some tvf)) seen)
    → MakeWrittenChoices total window fields tvx tvd tvf seen stand
    → (documents : List (List StoredVector)) × (tvx ≡ tvx_bytes documents) × (tvd ≡ tvd_bytes documents) × (tvf ≡ tvf_bytes documents) × (length documents ≡ total) × (seen ≡ windowed window documents)
only_written total window fields tvx tvd tvf seen (at, at_read, (slots, slots_read, (documents, vectors_read, seen_is))) made =
    let vectors = tvf_only slots tvf documents vectors_read made.prefixes in
    let heads = tvd_only fields window at tvd slots documents slots_read vectors.1 made.places in
    let stated = tvx_only total tvx at at_read in (
      documents,
      stated.0 ∙ ap (λ (ps : List DocumentPlaces). vector_header_bytes ++ flat_map document_places_bytes ps) heads.1,
      heads.0,
      vectors.0,
      sym (written_many 4 4 documents) ∙ sym (ap (λ (ps : List DocumentPlaces). length ps) heads.1) ∙ stated.1,
      seen_is,
    )

pub only_written-whole : (total : ℕ) (fields : List TableField) (tvx tvd tvf : List ℕ) (documents : List (List StoredVector))
    (stand : StandFor (vector_files total (whole_store total) fields (Some tvx) (Some tvd) (Some tvf)) documents) → MakeWrittenChoices total (whole_store total) fields tvx tvd tvf documents stand
    → (tvx ≡ tvx_bytes documents) × (tvd ≡ tvd_bytes documents) × (tvf ≡ tvf_bytes documents)
only_written-whole total fields tvx tvd tvf documents stand made =
    let (ds, x, d, f, many, seen) = only_written total (whole_store total) fields tvx tvd tvf documents stand made in
    let same : ds ≡ documents = sym (take_all total ds (omega (arith, many))) ∙ sym seen in
    (x ∙ ap (λ (es : List (List StoredVector)). tvx_bytes es) same, d ∙ ap (λ (es : List (List StoredVector)). tvd_bytes es) same, f ∙ ap (λ (es : List (List StoredVector)). tvf_bytes es) same)
