-- Each document has its stored values: fewer than 2^31, of fields that are there, each a text or bytes.
use Rattle.std.proofs.Common.{◌≡◌, ℕ, ◌+◌, ◌<◌, ◌≤◌, List, length, take, drop, Option, Some, None, refl, sym, ap, subst, ◌∙◌, arith}
use Rattle.std.specs.Prelude.{All}
use Rattle.std.proofs.lemmas.List.{length-take, length-drop}
use Rattle.std.proofs.lemmas.List.Elements.{All-take, All-drop}
use Rattle.lu_grammar.proofs.Files.{read_file-Reads}
use Rattle.lu_types.specs.StoredFields.{StoredField}
use Rattle.lu_types.specs.declared.stored.SharedStore.{SharedStore}
use Rattle.lu_types.specs.declared.stored.Stored.{Stored}
use Rattle.lu_types.specs.declared.stored.Stored.TheVariants.{Text, Binary}
use Rattle.lu_types.specs.declared.stored.Window.{Window}
use Rattle.lu_types.specs.Stores.{whole_store}
use Rattle.lu_model.specs.Valid.{IsSmall, IsStorable}
use Rattle.stored_fields.specs.Values.{StoredDocument, HasFields}
use Rattle.stored_fields.specs.Places.{fdx_plan}
use Rattle.stored_fields.specs.Documents.{fdt_plan}
use Rattle.stored_fields.specs.Stores.{total_of}
use Rattle.stored_fields.specs.Writing.{IsStorableValue, IsStorableDocument}
use Rattle.stored_fields.proofs.PlaceLemmas.{has_places}
use Rattle.stored_fields.proofs.StandsLemmas.{all_stand}
use Rattle.stored_fields.proofs.OnlyFiles.{only_written, windowed_named}
use Rattle.check_index.specs.Documents.{window_of}
use Rattle.check_index.specs.Stands.{AreStored, HoldStored}
use Rattle.check_index.proofs.ReadBytes.{read-bytes}

-- a value of a field that is there, a text or bytes
abbrev pub IsGoodValue : ℕ → StoredField → Type 0
IsGoodValue fields value = (value.field < fields) × IsStorable value.value

-- as many documents as the segment has, each with its values
pub record AreGoodDocuments (size fields : ℕ) (stored : List StoredDocument) : Type 0 where
  pub number : length stored ≡ size
  pub few : All (λ values. IsSmall (length values)) stored
  pub values : All (All (IsGoodValue fields)) stored

storable : (value : Stored) → IsStorableValue value → IsStorable value
storable (Text text) (short, is) = (is, short)
storable (Binary bytes) (short, (same, fits)) = (fits, short)

-- what a window has of documents that can be stored, and have the fields
module _ (size fields : ℕ) (window : Window) (fdx fdt : List ℕ) (total : List ℕ → ℕ) (size_is : window.count ≡ size) where
  good-window : (stored : List StoredDocument) → AreStored total window fields (Some fdx) (Some fdt) stored → AreGoodDocuments size fields stored
  good-window stored h =
      let fdx_fits = read-bytes (fdx_plan (total fdx) window) fdx h.places h.places_held in
      let fdt_fits = read-bytes (fdt_plan window fields h.places) fdt h.all h.documents_held in
      let places = has_places (total fdx) window fdx h.places (read_file-Reads (fdx_plan (total fdx) window) fdx h.places h.places_held) in
      let read = read_file-Reads (fdt_plan window fields h.places) fdt h.all h.documents_held in
      let many = (all_stand window fields h.places fdt h.all fdt_fits read).many in
      let within : window.offset + window.count ≤ length h.all = omega (arith, places.within, places.many, many) in
      let named = windowed_named window fields h.places fdt h.all fdt_fits read within in
      let only = only_written fdx fdt fields (total fdx) window stored fdx_fits fdt_fits (h.places, h.places_held, (h.all, h.documents_held, h.windowed_is)) in
      let kept : All IsStorableDocument stored = subst (All IsStorableDocument) (sym only.5)
      (All-take IsStorableDocument window.count (drop window.offset only.0) (All-drop IsStorableDocument window.offset only.0 only.3)) in
      let of_fields : All (HasFields fields) stored = subst (All (HasFields fields)) (sym h.windowed_is) named in
      record {
        number = ap length h.windowed_is ∙ (let e : length (take window.count (drop window.offset h.all)) ≡ size = omega (arith, within, size_is, length-take window.count (drop window.offset h.all), length-drop window.offset h.all) in e);
        few = λ k d lt. (kept k d lt).0;
        values = λ k d lt j v less. (of_fields k d lt j v less, storable _ ((kept k d lt).1 j v less).1);
      }

-- the documents of a store
of-store : (size fields : ℕ) (window : Window) (fdx fdt : Option (List ℕ)) (total : List ℕ → ℕ) (stored : List StoredDocument) → window.count ≡ size → AreStored total window fields fdx fdt stored → AreGoodDocuments size fields stored
of-store size fields window None fdt total stored size_is h = absurd h.places_held
of-store size fields window (Some fdx) None total stored size_is h = absurd h.documents_held
of-store size fields window (Some fdx) (Some fdt) total stored size_is h = good-window size fields window fdx fdt total size_is stored h

pub stored-are : (store : Option SharedStore) (size fields : ℕ) (fdx fdt : Option (List ℕ)) (stored : List StoredDocument) → HoldStored store size fields fdx fdt stored → AreGoodDocuments size fields stored
stored-are None size fields fdx fdt stored h = of-store size fields (whole_store size) fdx fdt (λ _. size) stored refl h
stored-are (Some store) size fields fdx fdt stored h = of-store size fields (window_of store size) fdx fdt total_of stored refl h
