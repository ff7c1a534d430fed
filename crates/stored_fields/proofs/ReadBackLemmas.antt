-- What the writer gives is read as the documents that it was handed.
use Rattle.std.proofs.Common.{◌≡◌, ℕ, zero, suc, ◌+◌, ◌-◌, ◌^◌, ◌<◌, ◌≤◌, Bool, true, false, ltb, List, [], ◌∷◌, ◌++◌, length, map, get_or, Option, Some, None, Ok, refl, sym, ap, subst, ◌∙◌, arith, append_assoc, ℤ, pos, inl, inr, drop}
use Rattle.std.specs.Prelude.{All, ◌&&◌, nat_le, nat_lt, FitsSigned}
use Rattle.std.specs.List.{flat_map, last_or}
use Rattle.std.specs.Int.{w32, w64}
use borrow.Author.Tests.{ltb-true, leb-true}
use Rattle.std.proofs.lemmas.Bool.{lt-leb, le-ltb, cases_lt, lt-ltb}
use Rattle.std.specs.Ordering.{int_eq}
use Rattle.std.proofs.lemmas.Bool.Decides.{Decides-int_eq}
use Rattle.stored_fields.proofs.HeldLemmas.{places_many}
use Rattle.std.proofs.lemmas.List.{append-nil, length-append, get_or-take, get_or-drop, length-take, length-drop}
use Rattle.lu_types.specs.declared.stored.Window.{Window}
use Rattle.lu_grammar.specs.Parts.{int32, num, groups, spelling}
use Rattle.lu_grammar.specs.Records.{first_broken}
use Rattle.lu_grammar.specs.Plans.{done, and_then, one, times, each, read_file}
use Rattle.lu_grammar.proofs.Codecs.{Writes, Writes-due, Writes-done, Writes-and_then, Writes-none, read_file-Writes}
use Rattle.lu_types.specs.Stores.{windowed, header_length}
use Rattle.stored_fields.specs.Format.{store_format, format_shape}
use Rattle.stored_fields.specs.Values.{StoredDocument, HasFields}
use Rattle.stored_fields.specs.Places.{is_past_store, fdx_header_conditions, is_misplaced, fdx_place_conditions, places_kind, fdx_plan}
use Rattle.stored_fields.specs.Documents.{format, count, count_of, header_shape, format_conditions, count_shape, start_conditions, values_kind, is_within, document_at, next_document, fdt_plan}
use Rattle.stored_fields.specs.Writing.{IsStorableDocument, AreStorable, value_bytes, document_bytes, fdt_bytes, places_from, place_bytes, fdx_bytes, IsCheckable}
use Rattle.stored_fields.proofs.PlaceLemmas.{last_push}
use Rattle.stored_fields.proofs.WriteLemmas.{IsField, all_head, all_tail, writes_one, writes_values}

-- ---- bytes of documents

groups_some : (more n : ℕ) → 0 < length (groups more n)
unfolding groups
groups_some zero n = omega arith
groups_some (suc more) n = elim (cases_lt n 128) [
  | inl lt ↦ let t : ltb n 128 ≡ true = lt-ltb n 128 lt in rw t (omega arith)
  | inr le ↦ let f : ltb n 128 ≡ false = le-ltb n 128 le in rw f (omega arith)
]

document_some : (d : StoredDocument) → 0 < length (document_bytes d)
document_some d = omega (arith, length-append (spelling num (length d)) (flat_map value_bytes d), groups_some 4 (length d))

-- ---- the places

-- each place may follow the one before it
abbrev AreWellPlaced : Option ℤ → List ℕ → Type 0
AreWellPlaced before [] = Unit {0}
AreWellPlaced before (p ∷ ps) = (is_misplaced before (pos p) ≡ false) × (p < 2 ^ 31) × AreWellPlaced (Some (pos p)) ps

later_place : (q p : ℕ) → q < p → p < 2 ^ 31 → is_misplaced (Some (pos q)) (pos p) ≡ false
later_place q p lt few = rw (lt-leb p q lt, le-ltb 2147483647 p (omega arith)) refl

well_placed : (q place : ℕ) (documents : List StoredDocument) → q < place → place + length (flat_map document_bytes documents) < 2 ^ 31 → AreWellPlaced (Some (pos q)) (places_from place documents)
well_placed q place [] lt short = tt
well_placed q place (d ∷ ds) lt short =
    let here : place < 2 ^ 31 = omega (arith, short, length-append (document_bytes d) (flat_map document_bytes ds)) in
    let next : place < place + length (document_bytes d) = omega (arith, document_some d) in
    let rest : place + length (document_bytes d) + length (flat_map document_bytes ds) < 2 ^ 31 = omega (arith, short, length-append (document_bytes d) (flat_map document_bytes ds)) in
    (later_place q place lt here, here, well_placed place (place + length (document_bytes d)) ds next rest)

first_placed : (documents : List StoredDocument) → header_length + length (flat_map document_bytes documents) < 2 ^ 31 → AreWellPlaced None (places_from header_length documents)
first_placed [] short = tt
first_placed (d ∷ ds) short =
    let next : header_length < header_length + length (document_bytes d) = omega (arith, document_some d) in
    let rest : header_length + length (document_bytes d) + length (flat_map document_bytes ds) < 2 ^ 31 = omega (arith, short, length-append (document_bytes d) (flat_map document_bytes ds)) in
    (refl, (omega arith), well_placed header_length (header_length + length (document_bytes d)) ds next rest)

writes_places : (ps : List ℕ) (front : List ℤ) (place : ℕ) → AreWellPlaced (last_or None front) ps → Writes (times places_kind (length ps) front) place (flat_map place_bytes ps) (front ++ map pos ps)
unfolding each
writes_places [] front place h = subst (λ (zs : List ℤ). Writes (times places_kind 0 front) place [] zs) (sym (append-nil front)) (Writes-none (one places_kind) place front)
writes_places (p ∷ ps) front place h =
    let fits : FitsSigned w64 (pos p) = record { sfits = omega (arith, h.1) } in
    let good : first_broken (fdx_place_conditions (last_or None front) (pos p)) ≡ None = rw h.0 refl in
    let first : Writes (one places_kind front) place (place_bytes p) (front ++ pos p ∷ []) = writes_one places_kind front place (pos p) (place_bytes p) (pos p, [], fits, sym (append-nil (place_bytes p)), (refl, refl)) good in
    let rest : AreWellPlaced (last_or None (front ++ pos p ∷ [])) ps = subst (λ (o : Option ℤ). AreWellPlaced o ps) (sym (last_push None front (pos p))) h.2 in
    subst (λ (zs : List ℤ). Writes (times places_kind (suc (length ps)) front) place (place_bytes p ++ flat_map place_bytes ps) zs) (append_assoc front (pos p ∷ []) (map pos ps))
    (Writes-and_then (one places_kind front) (times places_kind (length ps)) place (place_bytes p) (flat_map place_bytes ps) (front ++ pos p ∷ []) ((front ++ pos p ∷ []) ++ map pos ps) first
    (writes_places ps (front ++ pos p ∷ []) (place + length (place_bytes p)) rest))

-- the places of written documents
abbrev pub places_of : List StoredDocument → List ℤ
places_of documents = map pos (places_from header_length documents)

pub fdx_writes : (window : Window) (documents : List StoredDocument) → length (fdt_bytes documents) < 2 ^ 31 → window.offset + window.count ≤ length documents
    → Writes (fdx_plan (length documents) window) 0 (fdx_bytes documents) (places_of documents)
fdx_writes window documents short within =
    let four : length (spelling int32 store_format) ≡ 4 = refl in
    let placed = first_placed documents (omega (arith, four, short, length-append (spelling int32 store_format) (flat_map document_bytes documents))) in
    let in_store : is_past_store (length documents) window ≡ false = le-ltb (length documents) (window.offset + window.count) within in
    let fits : FitsSigned w32 store_format = record { sfits = omega arith } in
    let good : first_broken (fdx_header_conditions (length documents) window store_format) ≡ None = rw in_store refl in
    let body : Writes (times places_kind (length documents) []) (0 + length (spelling int32 store_format)) (flat_map place_bytes (places_from header_length documents)) (places_of documents) =
    subst (λ (n : ℕ). Writes (times places_kind n []) (0 + length (spelling int32 store_format)) (flat_map place_bytes (places_from header_length documents)) (places_of documents)) (places_many header_length documents)
    (writes_places (places_from header_length documents) [] (0 + length (spelling int32 store_format)) placed) in
    Writes-due format_shape (λ _ z. fdx_header_conditions (length documents) window z) (λ _ _. times places_kind (length documents) []) 0 store_format (spelling int32 store_format) (flat_map place_bytes (places_from header_length documents)) (places_of documents)
    (store_format, [], fits, sym (append-nil (spelling int32 store_format)), (refl, refl)) good body

-- ---- the documents

writes_document : (asked : Bool) (fields : ℕ) (wanted : ℤ) (front : List StoredDocument) (d : StoredDocument) (place : ℕ) → wanted ≡ pos place → IsStorableDocument d → All (IsField asked fields) d
    → Writes (document_at asked fields wanted front) place (document_bytes d) (front ++ d ∷ [])
writes_document asked fields wanted front d place is storable there =
    let n = length d in
    let kind = values_kind asked fields in
    let all : List StoredDocument = front ++ d ∷ [] in
    let here = place + length (spelling num n) in
    let values : Writes (times kind n []) here (flat_map value_bytes d) d = writes_values asked fields d [] here storable.1 there in
    let body : Writes (and_then (times kind n []) (λ values. done (front ++ values ∷ []))) here (flat_map value_bytes d) all =
    subst (λ (t : List ℕ). Writes (and_then (times kind n []) (λ values. done (front ++ values ∷ []))) here t all) (append-nil (flat_map value_bytes d))
    (Writes-and_then (times kind n []) (λ values. done (front ++ values ∷ [])) here (flat_map value_bytes d) [] d all values (Writes-done (here + length (flat_map value_bytes d)) all)) in
    let same : int_eq (pos place) wanted ≡ true = (Decides-int_eq (pos place) wanted).1 (sym is) in
    let good : first_broken (start_conditions wanted place) ≡ None = rw same refl in
    Writes-due count_shape (λ place _. start_conditions wanted place) (λ _ r. and_then (times kind (count_of r) []) (λ values. done (front ++ values ∷ []))) place (count n) (spelling num n) (flat_map value_bytes d) all
    (n, [], storable.0, sym (append-nil (spelling num n)), (refl, refl)) good body

-- the element behind so many
pub at_length : {A : Type 0} (xs : List A) (y : A) (ys : List A) (d : A) (n : ℕ) → length xs ≡ n → get_or (xs ++ y ∷ ys) n d ≡ y
at_length {A} xs y ys d n is = ap (λ (k : ℕ). get_or (xs ++ y ∷ ys) k d) (sym is) ∙ go xs
  where
    go : (xs : List A) → get_or (xs ++ y ∷ ys) (length xs) d ≡ y
    go [] = refl
    go (x ∷ xs) = go xs

writes_all : (window : Window) (fields : ℕ) (places : List ℤ) (ds front : List StoredDocument) (passed : List ℤ) (place : ℕ) → places ≡ passed ++ map pos (places_from place ds) → length passed ≡ length front → AreStorable ds
    → ((i : ℕ) → i < length ds → is_within window (length front + i) ≡ true → HasFields fields (get_or ds i []))
    → Writes (each (next_document window fields places) (length ds) front) place (flat_map document_bytes ds) (front ++ ds)
unfolding each
writes_all window fields places [] front passed place is long storable named =
    subst (λ (all : List StoredDocument). Writes (each (next_document window fields places) 0 front) place [] all) (sym (append-nil front)) (Writes-none (next_document window fields places) place front)
writes_all window fields places (d ∷ ds) front passed place is long storable named =
    let asked = is_within window (length front) in
    let wanted : ℤ = get_or places (length front) (pos 0) in
    let place_is : wanted ≡ pos place = ap (λ (zs : List ℤ). get_or zs (length front) (pos 0)) is ∙ at_length passed (pos place) (map pos (places_from (place + length (document_bytes d)) ds)) (pos 0) (length front) long in
    let there : All (IsField asked fields) d = λ k v lt holds. named 0 (omega arith) (ap (is_within window) (let e : length front + 0 ≡ length front = omega arith in e) ∙ holds) k v lt in
    let first : Writes (next_document window fields places front) place (document_bytes d) (front ++ d ∷ []) = writes_document asked fields wanted front d place place_is (all_head IsStorableDocument d ds storable) there in
    let behind : places ≡ (passed ++ pos place ∷ []) ++ map pos (places_from (place + length (document_bytes d)) ds) =
    is ∙ sym (append_assoc passed (pos place ∷ []) (map pos (places_from (place + length (document_bytes d)) ds))) in
    let longer : length (passed ++ pos place ∷ []) ≡ length (front ++ d ∷ []) = omega (arith, long, length-append passed (pos place ∷ []), length-append front (d ∷ [])) in
    let later : (i : ℕ) → i < length ds → is_within window (length (front ++ d ∷ []) + i) ≡ true → HasFields fields (get_or ds i []) =
    λ i lt holds. named (suc i) (omega arith) (ap (is_within window) (let e : length front + suc i ≡ length (front ++ d ∷ []) + i = omega (arith, length-append front (d ∷ [])) in e) ∙ holds) in
    subst (λ (all : List StoredDocument). Writes (each (next_document window fields places) (suc (length ds)) front) place (document_bytes d ++ flat_map document_bytes ds) all) (append_assoc front (d ∷ []) ds)
    (Writes-and_then (next_document window fields places front) (each (next_document window fields places) (length ds)) place (document_bytes d) (flat_map document_bytes ds) (front ++ d ∷ []) ((front ++ d ∷ []) ++ ds) first
    (writes_all window fields places ds (front ++ d ∷ []) (passed ++ pos place ∷ []) (place + length (document_bytes d)) behind longer (all_tail IsStorableDocument d ds storable) later))

-- the fields of a document in the window are there
named_within : (fields : ℕ) (window : Window) (documents : List StoredDocument) → IsCheckable fields window documents → (i : ℕ) → is_within window i ≡ true → HasFields fields (get_or documents i [])
named_within fields window documents h i holds = go (nat_le window.offset i) (nat_lt i (window.offset + window.count)) refl refl holds
  where
    go : (a b : Bool) → nat_le window.offset i ≡ a → nat_lt i (window.offset + window.count) ≡ b → a && b ≡ true → HasFields fields (get_or documents i [])
    go false b is also h = cc
    go true false is also h = cc
    go true true is also holds =
        let low : window.offset ≤ i = leb-true window.offset i is in
        let high : i < window.offset + window.count = ltb-true i (window.offset + window.count) also in
        let k = i - window.offset in
        let inside : k < window.count = omega arith in
        let back : window.offset + k ≡ i = omega arith in
        let same : get_or (windowed window documents) k [] ≡ get_or documents i [] =
        get_or-take window.count (drop window.offset documents) k [] inside ∙ get_or-drop window.offset documents k [] ∙ ap (λ (j : ℕ). get_or documents j []) back in
        subst (HasFields fields) same (h.named k [] (omega (arith, h.within, length-take window.count (drop window.offset documents), length-drop window.offset documents)))

pub fdt_writes : (fields : ℕ) (window : Window) (documents : List StoredDocument) → AreStorable documents → IsCheckable fields window documents → Writes (fdt_plan window fields (places_of documents)) 0 (fdt_bytes documents) documents
fdt_writes fields window documents storable h =
    let places = places_of documents in
    let fits : FitsSigned w32 store_format = record { sfits = omega arith } in
    let many : length documents ≡ length places = sym (places_many header_length documents) ∙ sym (map_long (places_from header_length documents)) in
    let body : Writes (each (next_document window fields places) (length places) []) (0 + length (spelling int32 store_format)) (flat_map document_bytes documents) documents =
    subst (λ (n : ℕ). Writes (each (next_document window fields places) n []) header_length (flat_map document_bytes documents) documents) many
    (writes_all window fields places documents [] [] header_length refl refl storable (λ i lt holds. named_within fields window documents h i (ap (is_within window) (let e : i ≡ 0 + i = omega arith in e) ∙ holds))) in
    Writes-due header_shape (λ _ r. format_conditions r) (λ _ _. each (next_document window fields places) (length places) []) 0 (format store_format) (spelling int32 store_format) (flat_map document_bytes documents) documents
    (store_format, [], fits, sym (append-nil (spelling int32 store_format)), (refl, refl)) refl body
  where
    map_long : (ps : List ℕ) → length (map pos ps) ≡ length ps
    map_long [] = refl
    map_long (p ∷ ps) = ap suc (map_long ps)

-- both files are read as the documents
pub read_back : (fields : ℕ) (window : Window) (documents : List StoredDocument) → AreStorable documents → IsCheckable fields window documents
    → (read_file (fdx_plan (length documents) window) (fdx_bytes documents) ≡ Ok (places_of documents)) × (read_file (fdt_plan window fields (places_of documents)) (fdt_bytes documents) ≡ Ok documents)
read_back fields window documents storable h = (
  read_file-Writes (fdx_plan (length documents) window) (fdx_bytes documents) (places_of documents) (fdx_writes window documents h.short h.within),
  read_file-Writes (fdt_plan window fields (places_of documents)) (fdt_bytes documents) documents (fdt_writes fields window documents storable h),
)
