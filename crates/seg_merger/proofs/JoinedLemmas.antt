-- The fields of indexes in their joined table.
use Rattle.std.proofs.Common.{◌≡◌, ◌≢◌, refl, ap, sym, ◌∙◌, subst, ℕ, zero, suc, ◌+◌, ◌<◌, ◌^◌, ◌++◌, Bool, true, cond, List, [], ◌∷◌, length, map, take, drop, get_or, None, Some, inl, inr, All, arith}
use Rattle.std.specs.Prelude.{is_some, slice_get}
use Rattle.std.specs.Global.{Global}
use Rattle.std.specs.List.{AllZip, fold}
use Rattle.std.specs.declared.vec.Vec.{Vec}
use Rattle.std.proofs.lemmas.Bool.{lt-ltb}
use Rattle.std.proofs.lemmas.List.{drop_more, get_or-map, length-map, map_more, take_more}
use Rattle.std.proofs.lemmas.Option.{slice_get-get_or}
use Rattle.lu_types.specs.Joins.{join, join_field}
use Rattle.lu_types.specs.Tables.{IsTable, TableField, number_of}
use Rattle.lu_model.specs.Contents.{field_number, joined_table, name_of}
use Rattle.lu_model.specs.Index.{Index}
use Rattle.lu_model.specs.Valid.{IsValid}
use Rattle.lu_model.proofs.Among.{from_map, in_map}
use Rattle.lu_model.proofs.Covering.{clear-joins}
use Rattle.lu_model.proofs.Each.{all-from_each, each-from_all, each_at, each_in, each_map, pairs-from_each}
use Rattle.lu_model.proofs.JoinedTables.{apart-joins, names-joins}
use Rattle.lu_model.proofs.Tables.{Has, Has-joins}
use Rattle.lu_model.proofs.ValidIndex.{number-lt}
use Rattle.lu_model.proofs.Words.{Each, IsIn, IsText, no_field}
use Rattle.check_index.specs.Segments.{SegmentValue}
use Rattle.seg_merger.specs.Merged.{AreFieldNumbers, indexes_of, numbers_in}
use Rattle.seg_merger.specs.Renumbered.{AreNewNumbers}
use Rattle.seg_merger.specs.VectorSteps.{AreJoined}

-- ---- the joined table

module _ (indexes : List Index) where
  abbrev tables : List (List TableField)
  tables = map (λ (index : Index). index.fields) indexes

  abbrev table : List TableField
  table = joined_table indexes

  joined-has : (index : Index) → IsIn index indexes → (field : TableField) → IsIn field index.fields → Has table field
  joined-has index h field k = Has-joins [] tables index.fields field (in_map (λ (index : Index). index.fields) index indexes h) k

  -- each field has a number there
  pub joined-number : (index : Index) → IsIn index indexes → (field : TableField) → IsIn field index.fields → field_number field.name table < length table
  joined-number index h field k = let has = joined-has index h field k in number-lt field.name table has.field has.found

  pub joined-there : (index : Index) → IsIn index indexes → All (λ (field : TableField). is_some (number_of field.name table) ≡ true) index.fields
  joined-there index h =
      all-from_each (λ (field : TableField). is_some (number_of field.name table) ≡ true) index.fields (each_in (λ (field : TableField). is_some (number_of field.name table) ≡ true) index.fields (λ field k.
      ap (λ b. is_some (cond b (Some (field_number field.name table)) None)) (lt-ltb (field_number field.name table) (length table) (joined-number index h field k))))

  module _ (ok : Each IsValid indexes) where
    of_table : (t : List TableField) → IsIn t tables → (index : Index) × IsValid index × (t ≡ index.fields)
    of_table t h = let i = from_map (λ (index : Index). index.fields) t indexes h in (i.0, each_at IsValid i.0 indexes ok i.1, i.2)

    -- it is a table where it has few fields
    pub joined-is_table : length table < 2 ^ 31 → IsTable table
    joined-is_table few = record {
      few = few;
      clear = all-from_each (λ (f : TableField). f.bits < 128) table (each_in (λ (f : TableField). f.bits < 128) table (clear-joins [] tables (λ f k. absurd k) (λ t k f q.
          let i = of_table t k in
          each_at (λ (g : TableField). g.bits < 128) f i.0.fields (each-from_all (λ (g : TableField). g.bits < 128) i.0.fields i.1.fields.clear) (subst (IsIn f) i.2 q))));
      apart = pairs-from_each (λ (f g : TableField). f.name ≢ g.name) table (apart-joins [] tables tt);
    }

    -- its names are short
    pub joined-names : All (λ (f : TableField). length f.name < 2 ^ 31) table
    joined-names =
        let texts = names-joins IsText [] tables tt (λ t k. let i = of_table t k in subst (λ u. Each (λ (f : TableField). IsText f.name) u) (sym i.2) (each-from_all (λ (f : TableField). IsText f.name) i.0.fields i.1.names)) in
        all-from_each (λ (f : TableField). length f.name < 2 ^ 31) table (each_in (λ (f : TableField). length f.name < 2 ^ 31) table (λ f k. (each_at (λ (g : TableField). IsText g.name) f table texts k).1))

-- ---- one more field

-- the field at a place
field-at : (fields : List TableField) (i : ℕ) (f : TableField) → i < length fields → slice_get fields i ≡ Some f → get_or fields i f ≡ f
field-at fields i f lt is = let found = sym (slice_get-get_or fields i f lt) ∙ is in cc

pub join-next : (table fields : List TableField) (i : ℕ) (f : TableField) → i < length fields → Some f ≡ slice_get fields i → join table (drop i fields) ≡ join (join_field table f) (drop (i + 1) fields)
join-next table fields i f lt is =
    ap (join table) (drop_more fields i f lt ∙ ap (λ g. g ∷ drop (i + 1) fields) (field-at fields i f lt (sym is)))

pub numbers-next : (table fields : List TableField) (numbers : List ℕ) (i n : ℕ) (f : TableField) → i < length fields → Some f ≡ slice_get fields i → n ≡ field_number f.name table
    → numbers ≡ map (λ (g : TableField). field_number g.name table) (take i fields) → numbers ++ n ∷ [] ≡ map (λ (g : TableField). field_number g.name table) (take (i + 1) fields)
numbers-next table fields numbers i n f lt is number was =
    let view = λ (g : TableField). field_number g.name table in
    ap (λ ns. ns ++ n ∷ []) was
    ∙ ap (λ m. map view (take i fields) ++ m ∷ []) (number ∙ ap view (sym (field-at fields i f lt (sym is))))
    ∙ sym (map_more view fields i f lt)

-- ---- numbers

-- what holds of two lists place by place
pub zip-length : {A B : Type 0} (R : A → B → Type 0) (xs : List A) (ys : List B) → AllZip R xs ys → length ys ≡ length xs
zip-length R [] [] h = refl
zip-length R [] (y ∷ ys) h = absurd h
zip-length R (x ∷ xs) [] h = absurd h
zip-length R (x ∷ xs) (y ∷ ys) h = ap suc (zip-length R xs ys h.1)

pub zip-at : {A B : Type 0} (R : A → B → Type 0) (xs : List A) (ys : List B) (i : ℕ) (d : A) (e : B) → AllZip R xs ys → i < length xs → R (get_or xs i d) (get_or ys i e)
zip-at R [] ys i d e h lt = absurd (omega (arith, lt))
zip-at R (x ∷ xs) [] i d e h lt = absurd h
zip-at R (x ∷ xs) (y ∷ ys) zero d e h lt = h.0
zip-at R (x ∷ xs) (y ∷ ys) (suc i) d e h lt = zip-at R xs ys i d e h.1 (omega (arith, lt))

zip-push : {A B : Type 0} (R : A → B → Type 0) (xs : List A) (ys : List B) (x : A) (y : B) → AllZip R xs ys → R x y → AllZip R (xs ++ x ∷ []) (ys ++ y ∷ [])
zip-push R [] [] x y h r = (r, tt)
zip-push R [] (w ∷ ys) x y h r = absurd h
zip-push R (v ∷ xs) [] x y h r = absurd h
zip-push R (v ∷ xs) (w ∷ ys) x y h r = (h.0, zip-push R xs ys x y h.1 r)

-- one segment more
pub joined-next : (table : List TableField) (sources : List SegmentValue) (i : ℕ) (s : SegmentValue) → i < length sources → s ≡ get_or sources i s
    → fold join table (tables (indexes_of (drop i sources))) ≡ fold join (join table s.index.fields) (tables (indexes_of (drop (i + 1) sources)))
joined-next table sources i s lt is =
    ap (λ (ss : List SegmentValue). fold join table (tables (indexes_of ss))) (drop_more sources i s lt ∙ ap (λ r. r ∷ drop (i + 1) sources) (sym is))

pub field-numbers-next : (table : List TableField) (sources : List SegmentValue) (i : ℕ) (s : SegmentValue) (numbers : List (Vec ℕ Global)) (own : Vec ℕ Global) → i < length sources → s ≡ get_or sources i s → own.items ≡ numbers_in table s
    → AreFieldNumbers table (take i sources) numbers → AreFieldNumbers table (take (i + 1) sources) (numbers ++ own ∷ [])
field-numbers-next table sources i s numbers own lt is are h =
    subst (λ ss. AreFieldNumbers table ss (numbers ++ own ∷ [])) (sym (take_more sources i s lt ∙ ap (λ r. take i sources ++ r ∷ []) (sym is)))
    (zip-push (λ (s : SegmentValue) (ns : Vec ℕ Global). ns.items ≡ numbers_in table s) (take i sources) numbers s own h are)

module _ (sources : List SegmentValue) where
  abbrev joined : List TableField
  joined = joined_table (indexes_of sources)

  pub source-in : (s : SegmentValue) → IsIn s sources → IsIn s.index (indexes_of sources)
  source-in s h = in_map (λ (s : SegmentValue). s.index) s sources h

  -- each new number of a source is one of the joined table
  module _ (s : SegmentValue) (inside : IsIn s sources) (numbers : List ℕ) (are : numbers ≡ numbers_in joined s) where
    pub numbers-many : length numbers ≡ length s.index.fields
    numbers-many = ap length are ∙ length-map s.index.fields (λ (f : TableField). field_number f.name joined)

    each-number : (P : ℕ → Type 0) → ((n : ℕ) → n < length joined → P n) → All P numbers
    each-number P holds =
        subst (All P) (sym are) (all-from_each P (numbers_in joined s) (each_map P (λ (f : TableField). field_number f.name joined) s.index.fields
        (each_in (λ (f : TableField). P (field_number f.name joined)) s.index.fields (λ f k. holds (field_number f.name joined) (joined-number (indexes_of sources) s.index (source-in s inside) f k)))))

    pub numbers-new : length joined < 2 ^ 31 → AreNewNumbers s.index numbers
    numbers-new few = record { many = numbers-many; small = each-number (λ n. n < 2 ^ 31) (λ n lt. omega (arith, lt, few)) }

    pub numbers-joined : AreJoined joined numbers
    numbers-joined = each-number (λ n. n < length joined) (λ n lt. lt)

    pub number-is : (n : ℕ) → n < length s.index.fields → get_or numbers n 0 ≡ field_number (name_of s.index.fields n) joined
    number-is n lt = ap (λ ns. get_or ns n 0) are ∙ get_or-map (λ (f : TableField). field_number f.name joined) s.index.fields n no_field 0 lt

  -- there are numbers for each source
  pub numbers-count : (numbers : List (Vec ℕ Global)) → AreFieldNumbers joined sources numbers → length numbers ≡ length sources
  numbers-count numbers are = zip-length (λ (s : SegmentValue) (ns : Vec ℕ Global). ns.items ≡ numbers_in joined s) sources numbers are

  -- the numbers of the source at a place
  pub numbers-at : (numbers : List (Vec ℕ Global)) (i : ℕ) (s : SegmentValue) (ns : Vec ℕ Global) → AreFieldNumbers joined sources numbers → i < length sources → s ≡ get_or sources i s → ns ≡ get_or numbers i ns → ns.items ≡ numbers_in joined s
  numbers-at numbers i s ns are lt is at =
      ap (λ (v : Vec ℕ Global). v.items) at
      ∙ zip-at (λ (s : SegmentValue) (ns : Vec ℕ Global). ns.items ≡ numbers_in joined s) sources numbers i s ns are lt
      ∙ ap (numbers_in joined) (sym is)
