-- What a writer's two files hold, before and after each of its calls.
use Rattle.std.proofs.Common.{◌≡◌, ℕ, zero, suc, ◌+◌, ◌-◌, ◌*◌, ◌^◌, ◌<◌, true, false, eqb, List, [], ◌∷◌, ◌++◌, length, Option, Some, None, Result, refl, sym, ap, subst, ◌∙◌, arith, append_assoc, inl, inr}
use Rattle.std.specs.Prelude.{All, IsSome, FitsSigned}
use Rattle.std.specs.List.{flat_map}
use Rattle.std.specs.Int.{w32}
use Rattle.std.proofs.lemmas.Bool.{eq-eqb, ne_eqb, cases_eq}
use Rattle.std.proofs.lemmas.List.{append-nil, length-append}
use Rattle.std.proofs.lemmas.List.Elements.{All-push}
use Rattle.lu_grammar.specs.Parts.{int32, num, IsValue, spelling}
use Rattle.lu_grammar.specs.Reading.{value_or}
use Rattle.lu_grammar.specs.Plans.{Plan, done, and_then, each, Broken, read_file}
use Rattle.lu_grammar.proofs.Codecs.{ok_of, Writes, read_file-Writes, Writes-due, Writes-done, Writes-and_then}
use Rattle.stored_fields.specs.Format.{store_format}
use Rattle.lu_types.specs.StoredFields.{StoredField}
use Rattle.lu_types.specs.Stores.{header_length}
use Rattle.stored_fields.specs.Values.{StoredDocument}
use Rattle.stored_fields.specs.Documents.{FdtRecord, format, header_shape}
use Rattle.stored_fields.specs.Stores.{total_of}
use Rattle.stored_fields.specs.Writing.{IsStorableField, IsStorableDocument, AreStorable, value_bytes, document_bytes, fdt_bytes, places_from, place_bytes, fdx_bytes, OpenDocument, HeldDocuments, with_document, with_begun, one_longer, with_longer, with_stored}
use Rattle.stored_fields.specs.InnerWriting.{open_plan, finished_plan, held_documents, held_plan, held_in, open_bytes, AreSpelled, IsStorableSoFar, AreHeld}
use Rattle.stored_fields.proofs.WriteLemmas.{writes_open, writes_finished}

-- ---- how long `.fdx` is

places_long : (places : List ℕ) → length (flat_map place_bytes places) ≡ 8 * length places
places_long [] = refl
places_long (p ∷ ps) = omega (arith, length-append (place_bytes p) (flat_map place_bytes ps), places_long ps, eight p)
  where
    eight : (p : ℕ) → length (place_bytes p) ≡ 8
    eight p = refl

pub places_many : (place : ℕ) (documents : List StoredDocument) → length (places_from place documents) ≡ length documents
places_many place [] = refl
places_many place (d ∷ ds) = ap suc (places_many (place + length (document_bytes d)) ds)

fdx_long : (documents : List StoredDocument) → length (fdx_bytes documents) ≡ 4 + 8 * length documents
fdx_long documents = omega (arith, length-append (spelling int32 store_format) (flat_map place_bytes (places_from header_length documents)), places_long (places_from header_length documents), places_many header_length documents, four)
  where
    four : length (spelling int32 store_format) ≡ 4
    four = refl

total_is : (documents : List StoredDocument) → total_of (fdx_bytes documents) ≡ length documents
total_is documents = omega (arith, fdx_long documents)

total_more : (documents : List StoredDocument) (place : ℕ) → total_of (fdx_bytes documents ++ place_bytes place) ≡ suc (length documents)
total_more documents place = let eight : length (place_bytes place) ≡ 8 = refl in omega (arith, fdx_long documents, length-append (fdx_bytes documents) (place_bytes place), eight)

-- ---- what is read of the two files

-- the header, and what follows it
writes_head : (total lacks : ℕ) (bytes : List ℕ) (held : HeldDocuments) → Writes (held_documents total lacks) header_length bytes held → read_file (held_plan total lacks) (spelling int32 store_format ++ bytes) ≡ ok_of held
writes_head total lacks bytes held body =
    let fits : FitsSigned w32 store_format = record { sfits = omega arith } in
    read_file-Writes (held_plan total lacks) (spelling int32 store_format ++ bytes) held
    (Writes-due header_shape (λ _ _. []) (λ _ _. held_documents total lacks) 0 (format store_format) (spelling int32 store_format) bytes held (store_format, [], fits, sym (append-nil (spelling int32 store_format)), (refl, refl)) refl body)

-- finished documents alone
reads_finished : (finished : List StoredDocument) → AreStorable finished → read_file (held_plan (length finished) 0) (fdt_bytes finished) ≡ ok_of (record { finished = finished; opened = None })
reads_finished finished storable =
    let bytes = flat_map document_bytes finished in
    let held : HeldDocuments = record { finished = finished; opened = None } in
    let next : List StoredDocument → Plan HeldDocuments FdtRecord = λ documents. done (record { finished = documents; opened = None }) in
    writes_head (length finished) 0 bytes held
    (subst (λ (t : List ℕ). Writes (and_then (each finished_plan (length finished) []) next) header_length t held) (append-nil bytes)
    (Writes-and_then (each finished_plan (length finished) []) next header_length bytes [] finished held (writes_finished finished [] header_length storable) (Writes-done (header_length + length bytes) held)))

-- and an open one
reads_open : (finished : List StoredDocument) (d : OpenDocument) (n : ℕ) → AreStorable finished → length d.values + suc n ≡ d.announced → IsValue num d.announced → All IsStorableField d.values
    → read_file (held_plan (suc (length finished)) (suc n)) (fdt_bytes finished ++ open_bytes d) ≡ ok_of (record { finished = finished; opened = Some d })
reads_open finished d n storable many few values =
    let bytes = flat_map document_bytes finished in
    let here = header_length + length bytes in
    let held : HeldDocuments = record { finished = finished; opened = Some d } in
    let last : OpenDocument → Plan HeldDocuments FdtRecord = λ o. done (record { finished = finished; opened = Some o }) in
    let opened : Writes (and_then (open_plan (suc n)) last) here (open_bytes d) held =
    subst (λ (t : List ℕ). Writes (and_then (open_plan (suc n)) last) here t held) (append-nil (open_bytes d))
    (Writes-and_then (open_plan (suc n)) last here (open_bytes d) [] d held (writes_open (suc n) d here many few values) (Writes-done (here + length (open_bytes d)) held)) in
    let front : Writes (each finished_plan (suc (length finished) - 1) []) header_length bytes finished =
    let one_less : length finished ≡ suc (length finished) - 1 = omega arith in subst (λ (k : ℕ). Writes (each finished_plan k []) header_length bytes finished) one_less (writes_finished finished [] header_length storable) in
    ap (λ (t : List ℕ). read_file (held_plan (suc (length finished)) (suc n)) t) (append_assoc (spelling int32 store_format) bytes (open_bytes d))
    ∙ writes_head (suc (length finished)) (suc n) (bytes ++ open_bytes d) held
    (Writes-and_then (each finished_plan (suc (length finished) - 1) []) (λ documents. and_then (open_plan (suc n)) (λ o. done (record { finished = documents; opened = Some o }))) header_length bytes (open_bytes d) finished held front opened)

-- what is read of files that are these
read_as : (fdx fdt : List ℕ) (lacks total n : ℕ) (bytes : List ℕ) (held : HeldDocuments) → total_of fdx ≡ total → fdt ≡ bytes → lacks ≡ n → read_file (held_plan total n) bytes ≡ ok_of held → held_in fdx fdt lacks ≡ held
read_as fdx fdt lacks total n bytes held many values few e =
    ap (λ (r : Result HeldDocuments Broken). value_or none_held r)
    (ap (λ (k : ℕ). read_file (held_plan k lacks) fdt) many ∙ ap (λ (k : ℕ). read_file (held_plan total k) fdt) few ∙ ap (λ (t : List ℕ). read_file (held_plan total n) t) values ∙ e)
  where
    none_held : HeldDocuments
    none_held = record { finished = []; opened = None }

-- both files hold what they spell
held_is : (fdx fdt : List ℕ) (lacks : ℕ) (finished : List StoredDocument) (opened : Option OpenDocument) → AreStorable finished → IsStorableSoFar opened → AreSpelled fdx fdt lacks finished opened
    → held_in fdx fdt lacks ≡ record { finished = finished; opened = opened }
held_is fdx fdt lacks finished None storable so_far (places, values, none) =
    read_as fdx fdt lacks (length finished) 0 (fdt_bytes finished) (record { finished = finished; opened = None }) (ap total_of places ∙ total_is finished) values none (reads_finished finished storable)
held_is fdx fdt zero finished (Some d) storable so_far (places, values, many, some) = absurd (omega (arith, some))
held_is fdx fdt (suc n) finished (Some d) storable so_far (places, values, many, some) =
    read_as fdx fdt (suc n) (suc (length finished)) (suc n) (fdt_bytes finished ++ open_bytes d) (record { finished = finished; opened = Some d }) (ap total_of places ∙ total_more finished (length (fdt_bytes finished))) values refl
    (reads_open finished d n storable many so_far.0 so_far.1)

-- ---- one document more

flat_push : {A : Type 0} (f : A → List ℕ) (xs : List A) (x : A) → flat_map f (xs ++ x ∷ []) ≡ flat_map f xs ++ f x
flat_push f [] x = append-nil (f x)
flat_push f (y ∷ ys) x = ap (λ (t : List ℕ). f y ++ t) (flat_push f ys x) ∙ sym (append_assoc (f y) (flat_map f ys) (f x))

places_push : (place : ℕ) (documents : List StoredDocument) (d : StoredDocument) → places_from place (documents ++ d ∷ []) ≡ places_from place documents ++ (place + length (flat_map document_bytes documents)) ∷ []
places_push place [] d = ap (λ (n : ℕ). n ∷ []) (let e : place ≡ place + 0 = omega arith in e)
places_push place (x ∷ xs) d =
    ap (λ (t : List ℕ). place ∷ t) (places_push (place + length (document_bytes x)) xs d
    ∙ ap (λ (n : ℕ). places_from (place + length (document_bytes x)) xs ++ n ∷ []) (omega (arith, length-append (document_bytes x) (flat_map document_bytes xs))))

fdt_push : (documents : List StoredDocument) (d : StoredDocument) → fdt_bytes documents ++ document_bytes d ≡ fdt_bytes (documents ++ d ∷ [])
fdt_push documents d = append_assoc (spelling int32 store_format) (flat_map document_bytes documents) (document_bytes d) ∙ ap (λ (t : List ℕ). spelling int32 store_format ++ t) (sym (flat_push document_bytes documents d))

fdx_push : (documents : List StoredDocument) (d : StoredDocument) → fdx_bytes documents ++ place_bytes (length (fdt_bytes documents)) ≡ fdx_bytes (documents ++ d ∷ [])
fdx_push documents d =
    let four : length (spelling int32 store_format) ≡ 4 = refl in
    let here : length (fdt_bytes documents) ≡ header_length + length (flat_map document_bytes documents) = omega (arith, four, length-append (spelling int32 store_format) (flat_map document_bytes documents)) in
    let front = places_from header_length documents in
    append_assoc (spelling int32 store_format) (flat_map place_bytes front) (place_bytes (length (fdt_bytes documents)))
    ∙ ap (λ (n : ℕ). spelling int32 store_format ++ (flat_map place_bytes front ++ place_bytes n)) here
    ∙ ap (λ (t : List ℕ). spelling int32 store_format ++ t) (sym (flat_push place_bytes front (header_length + length (flat_map document_bytes documents))))
    ∙ ap (λ (ps : List ℕ). spelling int32 store_format ++ flat_map place_bytes ps) (sym (places_push header_length documents d))

-- a document behind the others, open or with all of its values
held_with : (fdx fdt : List ℕ) (lacks : ℕ) (finished : List StoredDocument) (d : OpenDocument) → AreStorable finished → IsValue num d.announced → All IsStorableField d.values
    → fdx ≡ fdx_bytes finished ++ place_bytes (length (fdt_bytes finished)) → fdt ≡ fdt_bytes finished ++ open_bytes d → length d.values + lacks ≡ d.announced → AreHeld fdx fdt lacks (with_document finished d)
held_with fdx fdt lacks finished d storable few values places bytes many = elim (cases_eq (length d.values) d.announced) [
  | inl all ↦
      let t : eqb (length d.values) d.announced ≡ true = eq-eqb _ _ all in
      let good : IsStorableDocument d.values = (subst (λ (n : ℕ). IsValue num n) (sym all) few, values) in
      let whole : open_bytes d ≡ document_bytes d.values = ap (λ (n : ℕ). spelling num n ++ flat_map value_bytes d.values) (sym all) in
      rw t (All-push IsStorableDocument finished d.values storable good, tt, (places ∙ fdx_push finished d.values, bytes ∙ ap (λ (t : List ℕ). fdt_bytes finished ++ t) whole ∙ fdt_push finished d.values, omega (arith, many, all)))
  | inr some ↦
      let f : eqb (length d.values) d.announced ≡ false = ne_eqb _ _ some in
      rw f (storable, (few, values), (places, bytes, many, omega (arith, many)))
]

-- ---- what each call of the writer shows

-- what both files hold
pub record Holds (fdx fdt : List ℕ) (lacks : ℕ) (held : HeldDocuments) : Type 0 where
  pub is : held_in fdx fdt lacks ≡ held
  pub invariant : AreHeld fdx fdt lacks (held_in fdx fdt lacks)

holds : (fdx fdt : List ℕ) (lacks : ℕ) (held : HeldDocuments) → AreHeld fdx fdt lacks held → Holds fdx fdt lacks held
holds fdx fdt lacks held h =
    let same = held_is fdx fdt lacks held.finished held.opened h.0 h.1 h.2 in
    record { is = same; invariant = subst (AreHeld fdx fdt lacks) (sym same) h }

-- nothing is written yet
pub none_held : (fdx fdt : List ℕ) → fdx ≡ spelling int32 store_format → fdt ≡ spelling int32 store_format → Holds fdx fdt 0 (record { finished = []; opened = None })
none_held fdx fdt places values =
    holds fdx fdt 0 (record { finished = []; opened = None }) (λ k d lt. absurd (omega arith), tt, (places ∙ sym (append-nil (spelling int32 store_format)), values ∙ sym (append-nil (spelling int32 store_format)), refl))

-- no document is open
pub all_finished : (fdx fdt : List ℕ) (lacks : ℕ) (held : HeldDocuments) → AreHeld fdx fdt lacks held → held.opened ≡ None → (fdx ≡ fdx_bytes held.finished) × (fdt ≡ fdt_bytes held.finished) × AreStorable held.finished
all_finished fdx fdt lacks held h none = let s : AreSpelled fdx fdt lacks held.finished None = subst (λ (o : Option OpenDocument). AreSpelled fdx fdt lacks held.finished o) none h.2 in (s.0, s.1, h.0)

-- a document was begun
pub begun_held : (fdx fdt fdx_new fdt_new : List ℕ) (lacks count : ℕ) (held : HeldDocuments) → AreHeld fdx fdt lacks held → held.opened ≡ None → count < 2 ^ 31 → fdx_new ≡ fdx ++ place_bytes (length fdt) → fdt_new ≡ fdt ++ spelling num count
    → Holds fdx_new fdt_new count (with_begun count held)
begun_held fdx fdt fdx_new fdt_new lacks count held h none few places values =
    let s = all_finished fdx fdt lacks held h none in
    holds fdx_new fdt_new count (with_begun count held)
    (held_with fdx_new fdt_new count held.finished (record { announced = count; values = [] }) s.2 few (λ k v lt. absurd (omega arith))
    (places ∙ ap (λ (t : List ℕ). t ++ place_bytes (length fdt)) s.0 ∙ ap (λ (t : List ℕ). fdx_bytes held.finished ++ place_bytes (length t)) s.1)
    (values ∙ ap (λ (t : List ℕ). t ++ spelling num count) s.1 ∙ ap (λ (t : List ℕ). fdt_bytes held.finished ++ t) (sym (append-nil (spelling num count)))) (omega arith))

-- a value was added
pub stored_held : (fdx fdt fdt_new : List ℕ) (lacks : ℕ) (v : StoredField) (held : HeldDocuments) → AreHeld fdx fdt lacks held → IsSome held.opened → IsStorableField v → fdt_new ≡ fdt ++ value_bytes v
    → (0 < lacks) × Holds fdx fdt_new (lacks - 1) (with_stored v held)
stored_held fdx fdt fdt_new lacks v held h some new values = let more = go held.opened h.1 h.2 some in (more.0, holds fdx fdt_new (lacks - 1) (with_stored v held) more.1)
  where
    open_longer : (d : OpenDocument) → open_bytes d ++ value_bytes v ≡ open_bytes (one_longer v d)
    open_longer d = append_assoc (spelling num d.announced) (flat_map value_bytes d.values) (value_bytes v) ∙ ap (λ (t : List ℕ). spelling num d.announced ++ t) (sym (flat_push value_bytes d.values v))

    go : (o : Option OpenDocument) → IsStorableSoFar o → AreSpelled fdx fdt lacks held.finished o → IsSome o → (0 < lacks) × AreHeld fdx fdt_new (lacks - 1) (with_longer v held.finished o)
    go None so_far s some = cc
    go (Some d) so_far s some = (
      s.3,
      held_with fdx fdt_new (lacks - 1) held.finished (one_longer v d) h.0 so_far.0 (All-push IsStorableField d.values v so_far.1 new) s.0
          (values ∙ ap (λ (t : List ℕ). t ++ value_bytes v) s.1 ∙ append_assoc (fdt_bytes held.finished) (open_bytes d) (value_bytes v) ∙ ap (λ (t : List ℕ). fdt_bytes held.finished ++ t) (open_longer d))
          (omega (arith, s.2, s.3, length-append d.values (v ∷ []))),
    )
