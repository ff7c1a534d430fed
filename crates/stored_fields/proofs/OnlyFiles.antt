-- Only the files that the writer gives are read as stored documents.
use Rattle.std.proofs.Common.{◌≡◌, ℕ, zero, suc, drop, ◌<◌, ◌≤◌, ◌+◌, Bool, true, false, List, [], ◌∷◌, ◌++◌, length, map, get_or, None, Some, refl, sym, ap, subst, ◌∙◌, arith, append_assoc, ℤ, pos}
use Rattle.std.specs.List.{flat_map, last_or}
use Rattle.std.proofs.lemmas.Bool.{le-leb, lt-ltb}
use Rattle.std.specs.Prelude.{nat_le, nat_lt}
use Rattle.std.proofs.lemmas.List.{append-nil, length-append, length-take, get_or-take, get_or-drop, nil_from_length}
use Rattle.lu_types.specs.declared.stored.Window.{Window}
use Rattle.lu_types.specs.FilePlans.{StandFor}
use Rattle.lu_grammar.specs.Bytes.{IsBytes, Cursor, start_of}
use Rattle.lu_grammar.specs.Parts.{int32, int64, spelling}
use Rattle.lu_grammar.specs.Records.{first_broken, Spells}
use Rattle.lu_grammar.specs.Plans.{one, times, each, read_plan, read_file}
use Rattle.lu_grammar.specs.Meaning.{bytes_of}
use Rattle.lu_grammar.proofs.Codecs.{ok_pair, same_pair, ok_of, reads-read_plan, read_file-Reads, read_plan-and_then, then_ok, record_at-was, due_was, file_was}
use Rattle.lu_grammar.proofs.Loops.{one-was}
use Rattle.stored_fields.specs.Format.{store_format, format_shape, is_other_store_format}
use Rattle.stored_fields.specs.Values.{StoredDocument, HasFields}
use Rattle.stored_fields.specs.Places.{fdx_header_conditions, place_shape, fdx_place_conditions, places_kind, fdx_plan}
use Rattle.stored_fields.specs.Documents.{FdtRecord, header_shape, format_conditions, is_within, next_document, fdt_plan}
use Rattle.stored_fields.specs.Stores.{store_files}
use Rattle.stored_fields.specs.Writing.{IsStorableDocument, AreStorable, document_bytes, fdt_bytes, places_from, place_bytes, fdx_bytes}
use Rattle.std.specs.Prelude.{All}
use Rattle.lu_types.specs.Stores.{windowed, header_length}
use Rattle.stored_fields.proofs.SpotLemmas.{same_format}
use Rattle.stored_fields.proofs.PlaceLemmas.{header_format, has_places}
use Rattle.stored_fields.proofs.HeldLemmas.{places_many}
use Rattle.stored_fields.proofs.WriteLemmas.{IsField}
use Rattle.stored_fields.proofs.ReadBackLemmas.{at_length, places_of}
use Rattle.stored_fields.proofs.OnlyLemmas.{taken, all_cons, spells_document}

-- ---- the header of both files

format_spelled : (z : ℤ) (front : List ℕ) → Spells format_shape z front → is_other_store_format z ≡ false → front ≡ spelling int32 store_format
format_spelled z front (w, none, fits, front_is, (is, none_is)) good =
    front_is ∙ ap (λ (t : List ℕ). spelling int32 w ++ t) none_is ∙ append-nil (spelling int32 w) ∙ ap (λ (x : ℤ). spelling int32 x) (is ∙ same_format z good)

-- ---- the places

record SpellsPlaces (front all : List ℤ) (c d : Cursor) : Type 0 where
  more : List ℤ
  all_is : all ≡ front ++ more
  is : c.rest ≡ flat_map (λ z. spelling int64 z) more ++ d.rest

spells_places : (number : ℕ) (front : List ℤ) (c d : Cursor) (all : List ℤ) → IsBytes c.rest → read_plan (times places_kind number front) c ≡ ok_pair all d → SpellsPlaces front all c d
unfolding each read_plan
spells_places zero front c d all fits e = let p = same_pair front all c d e in record { more = []; all_is = sym p.0 ∙ sym (append-nil front); is = ap (λ (x : Cursor). x.rest) p.1 }
spells_places (suc n) front c d all fits e =
    let first = then_ok (read_plan (one places_kind front) c) (λ x. read_plan (times places_kind n x.0) x.1) (all, d) (sym (read_plan-and_then (one places_kind front) (times places_kind n) c) ∙ e) in
    let was = one-was places_kind front c first.0 first.1 in
    let judged = record_at-was place_shape (fdx_place_conditions (last_or None front)) c was.0 first.0.1 was.1 in
    let took = taken place_shape c was.0 first.0.1 fits judged.0 in
    let rest = spells_places n first.0.0 first.0.1 d all took.fits first.2 in
    record {
      more = was.0 ∷ rest.more;
      all_is = rest.all_is ∙ ap (λ (zs : List ℤ). zs ++ rest.more) (sym was.2) ∙ append_assoc front (was.0 ∷ []) rest.more;
      is = took.rest ∙ ap (λ (t : List ℕ). t ++ first.0.1.rest) (place_spelled was.0 took.front took.spells) ∙ ap (λ (t : List ℕ). spelling int64 was.0 ++ t) rest.is
          ∙ sym (append_assoc (spelling int64 was.0) (flat_map (λ z. spelling int64 z) rest.more) d.rest);
    }
  where
    place_spelled : (z : ℤ) (front : List ℕ) → Spells place_shape z front → front ≡ spelling int64 z
    place_spelled z front (w, none, is_z, front_is, (is, none_is)) = front_is ∙ ap (λ (t : List ℕ). spelling int64 w ++ t) none_is ∙ append-nil (spelling int64 w) ∙ ap (λ (x : ℤ). spelling int64 x) is

-- ---- the documents

record SpellsDocuments (window : Window) (fields : ℕ) (rest : List ℤ) (front all : List StoredDocument) (c d : Cursor) : Type 0 where
  more : List StoredDocument
  named : (i : ℕ) (o : StoredDocument) → i < length more → is_within window (length front + i) ≡ true → HasFields fields (get_or more i o)
  all_is : all ≡ front ++ more
  storable : AreStorable more
  is : c.rest ≡ flat_map document_bytes more ++ d.rest
  placed : rest ≡ map pos (places_from c.place more)

spells_documents : (window : Window) (fields : ℕ) (places passed rest : List ℤ) (front : List StoredDocument) (c d : Cursor) (all : List StoredDocument) → places ≡ passed ++ rest → length passed ≡ length front → IsBytes c.rest
    → read_plan (each (next_document window fields places) (length rest) front) c ≡ ok_pair all d → SpellsDocuments window fields rest front all c d
unfolding each read_plan
spells_documents window fields places passed [] front c d all split long fits e =
    let p = same_pair front all c d e in record { more = []; named = λ i o lt. absurd (omega arith); all_is = sym p.0 ∙ sym (append-nil front); storable = λ k d lt. absurd (omega arith); is = ap (λ (x : Cursor). x.rest) p.1; placed = refl }
spells_documents window fields places passed (z ∷ zs) front c d all split long fits e =
    let plan = next_document window fields places in
    let wanted : ℤ = get_or places (length front) (pos 0) in
    let wanted_is : wanted ≡ z = ap (λ (ys : List ℤ). get_or ys (length front) (pos 0)) split ∙ at_length passed z zs (pos 0) (length front) long in
    let first = then_ok (read_plan (plan front) c) (λ x. read_plan (each plan (length zs) x.0) x.1) (all, d) (sym (read_plan-and_then (plan front) (each plan (length zs)) c) ∙ e) in
    let one = spells_document (is_within window (length front)) fields wanted front c first.0 fits first.1 in
    let reads = reads-read_plan (plan front) c first.0.0 first.0.1 fits first.1 in
    let behind : first.0.1.place ≡ c.place + length (document_bytes one.it) =
    omega (arith, reads.place, ap length reads.front, ap length one.is, length-append (bytes_of reads.records) first.0.1.rest, length-append (document_bytes one.it) first.0.1.rest) in
    let longer : length (passed ++ z ∷ []) ≡ length first.0.0 = omega (arith, long, ap length one.all_is, length-append passed (z ∷ []), length-append front (one.it ∷ [])) in
    let rest = spells_documents window fields places (passed ++ z ∷ []) zs first.0.0 first.0.1 d all (split ∙ sym (append_assoc passed (z ∷ []) zs)) longer one.fits first.2 in
    record {
      more = one.it ∷ rest.more;
      named = named_each (length front) (length first.0.0) (omega (arith, ap length one.all_is, length-append front (one.it ∷ []))) one.it rest.more one.named rest.named;
      all_is = rest.all_is ∙ ap (λ (ds : List StoredDocument). ds ++ rest.more) one.all_is ∙ append_assoc front (one.it ∷ []) rest.more;
      storable = all_cons IsStorableDocument one.it rest.more one.storable rest.storable;
      is = one.is ∙ ap (λ (t : List ℕ). document_bytes one.it ++ t) rest.is ∙ sym (append_assoc (document_bytes one.it) (flat_map document_bytes rest.more) d.rest);
      placed = ap (λ (w : ℤ). w ∷ zs) (sym (one.wanted_is ∙ wanted_is)) ∙ ap (λ (ys : List ℤ). pos c.place ∷ ys) (rest.placed ∙ ap (λ (n : ℕ). map pos (places_from n rest.more)) behind);
    }
  where
    named_each : (k m : ℕ) → m ≡ k + 1 → (it : StoredDocument) (more : List StoredDocument) → All (IsField (is_within window k) fields) it → ((i : ℕ) (o : StoredDocument) → i < length more → is_within window (m + i) ≡ true → HasFields fields (get_or more i o))
        → (i : ℕ) (o : StoredDocument) → i < suc (length more) → is_within window (k + i) ≡ true → HasFields fields (get_or (it ∷ more) i o)
    named_each k m next it more here later zero o lt holds = λ j v within. here j v within (ap (is_within window) (let e : k ≡ k + 0 = omega arith in e) ∙ holds)
    named_each k m next it more here later (suc i) o lt holds = later i o (omega arith) (ap (is_within window) (let e : m + i ≡ k + suc i = omega arith in e) ∙ holds)

-- ---- the files

-- `.fdx` that was read is the header, and the spelling of its places
spells_fdx : (total : ℕ) (window : Window) (fdx : List ℕ) (places : List ℤ) → IsBytes fdx → read_file (fdx_plan total window) fdx ≡ ok_of places → fdx ≡ spelling int32 store_format ++ flat_map (λ z. spelling int64 z) places
spells_fdx total window fdx places fits e =
    let file = file_was (fdx_plan total window) fdx places e in
    let head = due_was format_shape (λ _ z. fdx_header_conditions total window z) (λ _ _. times places_kind total []) (start_of fdx) (places, file.0) file.1 in
    let judged = record_at-was format_shape (fdx_header_conditions total window) (start_of fdx) head.0.0 head.0.1 head.1 in
    let took = taken format_shape (start_of fdx) head.0.0 head.0.1 fits judged.0 in
    let body = spells_places total [] head.0.1 file.0 places took.fits head.2 in
    took.rest ∙ ap (λ (t : List ℕ). t ++ head.0.1.rest) (format_spelled head.0.0 took.front took.spells (header_format total window head.0.0 judged.1))
    ∙ ap (λ (t : List ℕ). spelling int32 store_format ++ t) (body.is ∙ ap (λ (t : List ℕ). flat_map (λ z. spelling int64 z) body.more ++ t) (nil_from_length file.0.rest file.2) ∙ append-nil (flat_map (λ z. spelling int64 z) body.more)
    ∙ ap (λ (zs : List ℤ). flat_map (λ z. spelling int64 z) zs) (sym body.all_is))

-- `.fdt` that was read is the writer's, and its documents stand at the places
pub record SpellsFdt (window : Window) (fields : ℕ) (places : List ℤ) (fdt : List ℕ) (documents : List StoredDocument) : Type 0 where
  storable : AreStorable documents
  pub named : (i : ℕ) (o : StoredDocument) → i < length documents → is_within window i ≡ true → HasFields fields (get_or documents i o)
  is : fdt ≡ fdt_bytes documents
  placed : places ≡ places_of documents

pub spells_fdt : (window : Window) (fields : ℕ) (places : List ℤ) (fdt : List ℕ) (documents : List StoredDocument) → IsBytes fdt → read_file (fdt_plan window fields places) fdt ≡ ok_of documents → SpellsFdt window fields places fdt documents
spells_fdt window fields places fdt documents fits e =
    let file = file_was (fdt_plan window fields places) fdt documents e in
    let head = due_was header_shape (λ _ r. format_conditions r) (λ _ _. each (next_document window fields places) (length places) []) (start_of fdt) (documents, file.0) file.1 in
    let judged = record_at-was header_shape format_conditions (start_of fdt) head.0.0 head.0.1 head.1 in
    let took = taken header_shape (start_of fdt) head.0.0 head.0.1 fits judged.0 in
    let front_is = header_spelled head.0.0 took.front took.spells judged.1 in
    let body = spells_documents window fields places [] places [] head.0.1 file.0 documents refl refl took.fits head.2 in
    let four : length (spelling int32 store_format) ≡ 4 = refl in
    let place : head.0.1.place ≡ header_length = omega (arith, took.place, ap length front_is, four) in
    record {
      storable = subst AreStorable (sym body.all_is) body.storable;
      named = λ i o lt holds.
          subst (λ (ds : List StoredDocument). HasFields fields (get_or ds i o)) (sym body.all_is)
          (body.named i o (omega (arith, lt, ap length body.all_is)) (ap (is_within window) (let e : 0 + i ≡ i = omega arith in e) ∙ holds));
      is = took.rest ∙ ap (λ (t : List ℕ). t ++ head.0.1.rest) front_is
          ∙ ap (λ (t : List ℕ). spelling int32 store_format ++ t) (body.is ∙ ap (λ (t : List ℕ). flat_map document_bytes body.more ++ t) (nil_from_length file.0.rest file.2) ∙ append-nil (flat_map document_bytes body.more) ∙ ap (λ (ds : List StoredDocument). flat_map document_bytes ds) (sym body.all_is));
      placed = body.placed ∙ ap (λ (n : ℕ). map pos (places_from n body.more)) place ∙ ap places_of (sym body.all_is);
    }
  where
    header_spelled : (r : FdtRecord) (front : List ℕ) → Spells header_shape r front → first_broken (format_conditions r) ≡ None → front ≡ spelling int32 store_format
    header_spelled r front (z, none, fits, front_is, (is, none_is)) good =
        format_spelled z front (z, none, fits, front_is, (refl, none_is)) (same (is_other_store_format z) refl (ap (λ (x : FdtRecord). first_broken (format_conditions x)) is ∙ good))
      where
        same : (b : Bool) → is_other_store_format z ≡ b → first_broken (record { rule = 43; broken = b } ∷ []) ≡ None → is_other_store_format z ≡ false
        same true i h = cc
        same false i h = i

pub only_written : (fdx fdt : List ℕ) (fields total : ℕ) (window : Window) (seen : List StoredDocument) → IsBytes fdx → IsBytes fdt → StandFor (store_files (λ _. total) (λ _. window) fields (Some fdx) (Some fdt)) seen
    → (documents : List StoredDocument) × (fdx ≡ fdx_bytes documents) × (fdt ≡ fdt_bytes documents) × AreStorable documents × (length documents ≡ total) × (seen ≡ windowed window documents)
only_written fdx fdt fields total window seen fdx_fits fdt_fits (places, fdx_reads, (documents, fdt_reads, seen_is)) =
    let read = read_file-Reads (fdx_plan total window) fdx places fdx_reads in
    let values = spells_fdt window fields places fdt documents fdt_fits (read_file-Reads (fdt_plan window fields places) fdt documents fdt_reads) in
    let spelled = spells_fdx total window fdx places fdx_fits read in (
      documents,
      spelled ∙ ap (λ (zs : List ℤ). spelling int32 store_format ++ flat_map (λ z. spelling int64 z) zs) values.placed ∙ ap (λ (t : List ℕ). spelling int32 store_format ++ t) (flat_pos (places_from header_length documents)),
      values.is,
      values.storable,
      sym (places_many header_length documents) ∙ sym (map_long (places_from header_length documents)) ∙ sym (ap length values.placed) ∙ (has_places total window fdx places read).many,
      seen_is,
    )
  where
    flat_pos : (ps : List ℕ) → flat_map (λ z. spelling int64 z) (map pos ps) ≡ flat_map place_bytes ps
    flat_pos [] = refl
    flat_pos (p ∷ ps) = ap (λ (t : List ℕ). place_bytes p ++ t) (flat_pos ps)

    map_long : (ps : List ℕ) → length (map pos ps) ≡ length ps
    map_long [] = refl
    map_long (p ∷ ps) = ap suc (map_long ps)

-- the documents in a window of a store have the fields that were asked of them
pub windowed_named : (window : Window) (fields : ℕ) (places : List ℤ) (fdt : List ℕ) (documents : List StoredDocument) → IsBytes fdt → read_file (fdt_plan window fields places) fdt ≡ ok_of documents
    → window.offset + window.count ≤ length documents → All (HasFields fields) (windowed window documents)
windowed_named window fields places fdt documents fits e within k o lt =
    let spelled = spells_fdt window fields places fdt documents fits e in
    let few : k < window.count = omega (arith, lt, length-take window.count (drop window.offset documents)) in
    let low : nat_le window.offset (window.offset + k) ≡ true = le-leb window.offset (window.offset + k) (omega arith) in
    let high : nat_lt (window.offset + k) (window.offset + window.count) ≡ true = lt-ltb (window.offset + k) (window.offset + window.count) (omega arith) in
    let inside : is_within window (window.offset + k) ≡ true = rw (low, high) refl in
    let same : get_or (windowed window documents) k o ≡ get_or documents (window.offset + k) o = get_or-take window.count (drop window.offset documents) k o few ∙ get_or-drop window.offset documents k o in
    subst (HasFields fields) (sym same) (spelled.named (window.offset + k) o (omega arith) inside)
