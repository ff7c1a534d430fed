-- A store whose files have no fault.
use Rattle.std.proofs.Common.{◌≡◌, ℕ, ◌+◌, ◌*◌, ◌<◌, ◌≤◌, List, [], length, drop, get_or, Ok, Err, sym, ap, subst, ◌∙◌, arith, ℤ, pos}
use Rattle.std.proofs.lemmas.List.{length-take, length-drop, get_or-take, get_or-drop}
use Rattle.lu_types.specs.declared.stored.Window.{Window}
use Rattle.lu_grammar.specs.Bytes.{IsBytes, Cursor}
use Rattle.lu_grammar.specs.Parts.{int64, num}
use Rattle.lu_grammar.specs.Reading.{read, read_part, value_or}
use Rattle.lu_grammar.specs.declared.bad.Bad.{Bad}
use Rattle.stored_fields.specs.Remaining.{values_at}
use Rattle.lu_grammar.specs.Meaning.{Reads}
use Rattle.lu_grammar.proofs.Codecs.{ok_of, err_is_not_ok, same_pair, read_file-Reads, settled}
use Rattle.lu_grammar.proofs.Records.{at}
use Rattle.std.specs.Prelude.{All}
use Rattle.lu_types.specs.Stores.{windowed}
use Rattle.stored_fields.proofs.OnlyFiles.{windowed_named}
use Rattle.stored_fields.specs.Values.{StoredDocument, HasFields}
use Rattle.stored_fields.specs.Places.{fdx_plan}
use Rattle.stored_fields.specs.Documents.{fdt_plan}
use Rattle.stored_fields.specs.Stores.{places_in, documents_in, HaveNoFault}
use Rattle.stored_fields.proofs.PlaceLemmas.{has_places, place_is}
use Rattle.stored_fields.proofs.StandsLemmas.{IsOn, Stands, all_stand}

pub sound : (fields total : ℕ) (window : Window) (fdx fdt : List ℕ) → IsBytes fdt → Reads (fdx_plan total window) fdx (places_in total window fdx)
    → Reads (fdt_plan window fields (places_in total window fdx)) fdt (documents_in fields total window fdx fdt) → HaveNoFault fields total window fdx fdt
sound fields total window fdx fdt fits places documents = record {
  bytes = fits;
  places = read_file-Reads (fdx_plan total window) fdx (places_in total window fdx) places;
  documents = read_file-Reads (fdt_plan window fields (places_in total window fdx)) fdt (documents_in fields total window fdx fdt) documents;
}

-- the documents in the window are as many as it says
pub windowed_many : (fields total : ℕ) (window : Window) (fdx fdt : List ℕ) → HaveNoFault fields total window fdx fdt → length (windowed window (documents_in fields total window fdx fdt)) ≡ window.count
windowed_many fields total window fdx fdt s =
    let all = documents_in fields total window fdx fdt in
    let has = has_places total window fdx (places_in total window fdx) s.places in
    let stand = all_stand window fields (places_in total window fdx) fdt all s.bytes s.documents in
    omega (arith, has.within, has.many, stand.many, length-take window.count (drop window.offset all), length-drop window.offset all)

-- a document in the window stands at its place
pub document_stands : (fields total : ℕ) (window : Window) (fdx fdt : List ℕ) (number : ℕ) → HaveNoFault fields total window fdx fdt → number < window.count
    → Stands fdt (get_or (places_in total window fdx) (window.offset + number) (pos 0)) (get_or (windowed window (documents_in fields total window fdx fdt)) number [])
document_stands fields total window fdx fdt number s lt =
    let all = documents_in fields total window fdx fdt in
    let has = has_places total window fdx (places_in total window fdx) s.places in
    let stand = all_stand window fields (places_in total window fdx) fdt all s.bytes s.documents in
    let same : get_or (windowed window all) number [] ≡ get_or all (window.offset + number) [] = get_or-take window.count (drop window.offset all) number [] lt ∙ get_or-drop window.offset all number [] in
    subst (λ (d : StoredDocument). Stands fdt (get_or (places_in total window fdx) (window.offset + number) (pos 0)) d) (sym same) (stand.at (window.offset + number) (omega (arith, has.within, has.many)))

-- ---- what reading a document needs

-- the number of a document in the store is below their number, and its place stands in `.fdx`
pub number_in_store : (fields total : ℕ) (window : Window) (fdx fdt : List ℕ) (number : ℕ) → HaveNoFault fields total window fdx fdt → number < window.count
    → (window.offset + number < total) × (4 + 8 * (window.offset + number + 1) ≤ length fdx)
number_in_store fields total window fdx fdt number s lt =
    let has = has_places total window fdx (places_in total window fdx) s.places in
    (omega (arith, has.within), omega (arith, has.within, has.long))

-- the place that was read is where the document stands
pub stands_here : (fields total : ℕ) (window : Window) (fdx fdt : List ℕ) (number : ℕ) (z : ℤ) → HaveNoFault fields total window fdx fdt → number < window.count → read int64 (drop (4 + 8 * (window.offset + number)) fdx) ≡ Ok (z, 8)
    → Stands fdt z (get_or (windowed window (documents_in fields total window fdx fdt)) number [])
stands_here fields total window fdx fdt number z s lt e =
    let is : get_or (places_in total window fdx) (window.offset + number) (pos 0) ≡ z =
    place_is total window fdx (places_in total window fdx) s.places (window.offset + number) (number_in_store fields total window fdx fdt number s lt).0 z e in
    subst (λ (w : ℤ). Stands fdt w (get_or (windowed window (documents_in fields total window fdx fdt)) number [])) is (document_stands fields total window fdx fdt number s lt)

-- a number of a document in the view is in the window
pub number_in_window : (fields total : ℕ) (window : Window) (fdx fdt : List ℕ) (number : ℕ) (view : List StoredDocument) → HaveNoFault fields total window fdx fdt → windowed window (documents_in fields total window fdx fdt) ≡ view
    → number < length view → number < window.count
number_in_window fields total window fdx fdt number view s is lt = omega (arith, windowed_many fields total window fdx fdt s, ap length is)

-- where a document stands its number of values is read, and then its values
same_cursor : (fdt : List ℕ) (c d : Cursor) → IsOn fdt d → c ≡ record { place = d.place; rest = drop d.place fdt } → c ≡ d
same_cursor fdt c d on is = is ∙ ap (λ (t : List ℕ). at d.place t) (sym on.rest)

pub not_counted : (fdt : List ℕ) (wanted : ℤ) (values : StoredDocument) (there : Stands fdt wanted values) (c : Cursor) (bad : Bad) → c ≡ record { place = there.here.place; rest = drop there.here.place fdt } → read_part num c ≡ Err bad → ⊥
not_counted fdt wanted values there c bad is e = err_is_not_ok (sym e ∙ ap (read_part num) (same_cursor fdt c there.here there.on is) ∙ there.counted)

pub document_values : (fdt : List ℕ) (wanted : ℤ) (values : StoredDocument) (there : Stands fdt wanted values) (c : Cursor) (left : ℕ) (next : Cursor) → c ≡ record { place = there.here.place; rest = drop there.here.place fdt } → read_part num c ≡ Ok (left, next)
    → (values_at left next ≡ Ok (value_or [] (values_at left next))) × (value_or [] (values_at left next) ≡ values)
document_values fdt wanted values there c left next is e =
    let p = same_pair left there.number next there.from (sym e ∙ ap (read_part num) (same_cursor fdt c there.here there.on is) ∙ there.counted) in
    let all : values_at left next ≡ ok_of values = ap (λ (n : ℕ). values_at n next) p.0 ∙ ap (values_at there.number) p.1 ∙ there.values_there in
    (settled [] values (values_at left next) all, ap (value_or []) all)

-- the documents in the window have the fields that were asked of them
pub windowed_fields : (fields total : ℕ) (window : Window) (fdx fdt : List ℕ) → HaveNoFault fields total window fdx fdt → All (HasFields fields) (windowed window (documents_in fields total window fdx fdt))
windowed_fields fields total window fdx fdt s =
    let all = documents_in fields total window fdx fdt in
    let has = has_places total window fdx (places_in total window fdx) s.places in
    let stand = all_stand window fields (places_in total window fdx) fdt all s.bytes s.documents in
    windowed_named window fields (places_in total window fdx) fdt all s.bytes s.documents (omega (arith, has.within, has.many, stand.many))
