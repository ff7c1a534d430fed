-- The columns of the fields of a table with what is kept of their terms, in the order of names.
use Rattle.std.proofs.Common.{◌≡◌, ◌≢◌, refl, ap, sym, ◌∙◌, subst, ℕ, ◌+◌, ◌<◌, ◌≤◌, ◌^◌, ◌++◌, List, [], ◌∷◌, length, map, take, get_or, false, Option, None, Some, All, AllPairs, Contains, IsUtf8, IsPermutation, IsSortedByKey, inl, inr, arith}
use Rattle.std.specs.Prelude.{IsSome, slice_get}
use Rattle.std.proofs.lemmas.Option.{slice_get-get_or}
use Rattle.std.specs.Global.{Global}
use Rattle.std.specs.List.{flat_map, IsDistinct}
use Rattle.std.specs.List.Sorted.{IsStrictlySortedBy}
use Rattle.std.specs.Str.{bytes_eq}
use Rattle.std.specs.Cmp.Lexicographic.{bytes_decides}
use Rattle.std.specs.declared.cmp.Ordering.TheVariants.{Less}
use Rattle.std.specs.declared.vec.Vec.{Vec}
use Rattle.std.proofs.lemmas.Bool.{false≢true}
use Rattle.std.proofs.lemmas.List.{get_or-map, length-map, map-append, take_more}
use Rattle.std.proofs.lemmas.List.Elements.{All-push}
use Rattle.std.proofs.lemmas.List.Quantifiers.{position-Some}
use Rattle.std.proofs.lemmas.List.Sums.{position_or_len_is}
use Rattle.std.proofs.lemmas.List.Sorted.{IsPermutation-map, All-permutation, Contains-permutation}
use Rattle.std.proofs.lemmas.Map.Keys.{IsDistinct-IsPermutation, apart_from_distinct, sorted_from_all_adjacent}
use Rattle.std.proofs.lemmas.Map.Made.{IsDistinct-from_AllPairs}
use Rattle.std.proofs.lemmas.Slice.Eq.{bytes_eq-Decides}
use Rattle.lu_prims.specs.Order.{text_cmp}
use Rattle.lu_prims.proofs.Units.{text_order}
use Rattle.lu_types.specs.Tables.{TableField, number_of}
use Rattle.lu_types.specs.declared.document.Document.{Document}
use Rattle.lu_model.specs.Contents.{field_at, field_number, name_of, under}
use Rattle.lu_model.proofs.Words.{IsIn}
use Rattle.lu_model.proofs.Among.{from_map, in-from_contains}
use Rattle.lu_model.proofs.Each.{all_at}
use Rattle.segment_files.specs.Postings.{kept_terms}
use Rattle.seg_writer.specs.declared.appearance.Appearance.{Appearance}
use Rattle.seg_writer.specs.declared.terms.Kept.{Kept}
use Rattle.seg_writer.specs.declared.terms.KeptColumn.{KeptColumn}
use Rattle.seg_writer.specs.Appearing.{AreFieldColumns, AreFirst, appeared, column_from}
use Rattle.seg_writer.specs.Entries.{IsColumn}
use Rattle.seg_writer.specs.Orders.{AreAllColumns, AreColumnsOf, AreKeptColumns, NamedColumn, named_column, written_terms}
use Rattle.seg_writer.specs.Terms.{kept_at, kept_in, kept_column_terms, terms_in_columns}
use Rattle.seg_writer.specs.Texts.{texts_of}
use Rattle.seg_writer.proofs.CanonicalTerms.{canonical-terms}
use Rattle.seg_writer.proofs.ColumnLemmas.{the-same}
use Rattle.seg_writer.proofs.InvertedLemmas.{bytes_symm, rise_next}

-- the name of a column's field
abbrev pub name_in : KeptColumn → List ℕ
name_in c = c.name.now

abbrev no_name : TableField
no_name = record { name = []; bits = 0 }

-- ---- one column more

-- the number of a field's name is the field's
number-own : (table : List TableField) (n : ℕ) → AreFirst table → n < length table → field_number (name_of table n) table ≡ n
number-own table n first lt =
    let at = position-Some (λ (f : TableField). bytes_eq (name_of table n) f.name) table n no_name (first n lt) in
    position_or_len_is (λ (f : TableField). bytes_eq (name_of table n) f.name) table n no_name (omega (arith, lt)) at.2 (λ within. at.1)

pub kept-own : (table : List TableField) (n : ℕ) → AreFirst table → n < length table → kept_at n (field_at n table).bits ≡ kept_in table (name_of table n)
kept-own table n first lt = ap (λ m. kept_at m (field_at m table).bits) (sym (number-own table n first lt))

the-field : (a b : TableField) → Some a ≡ Some b → a ≡ b
the-field a b same = ap (value a) same
  where
    value : TableField → Option TableField → TableField
    value d None = d
    value d (Some x) = x

pub field-at : (table : List TableField) (n : ℕ) (f : TableField) → n < length table → Some f ≡ slice_get table n → f ≡ field_at n table
field-at table n f lt e = the-field f (get_or table n no_name) (e ∙ slice_get-get_or table n no_name lt)

-- the facts of one column
pub record IsKeptColumn (table : List TableField) (columns : List (Vec Appearance Global)) (c : KeptColumn) : Type 0 where
  pub utf8 : IsUtf8 c.name.now
  pub is_kept : c.kept ≡ kept_in table c.name.now
  pub sound : IsColumn c.column.now × (c.kept.field < 2 ^ 31)
  pub each : (docs : List Document) → AreFieldColumns table docs columns → map appeared c.column.now ≡ column_from c.name.now 0 docs

pub kept-more : (table : List TableField) (columns : List (Vec Appearance Global)) (kept new : List KeptColumn) (c : KeptColumn) → new ≡ kept ++ c ∷ [] → IsKeptColumn table columns c → AreKeptColumns table columns kept → AreKeptColumns table columns new
kept-more table columns kept new c grown one h = subst (AreKeptColumns table columns) (sym grown) more
  where
    more : AreKeptColumns table columns (kept ++ c ∷ [])
    more = record {
      utf8 = All-push (λ (x : KeptColumn). IsUtf8 x.name.now) kept c h.utf8 one.utf8;
      is_kept = All-push (λ (x : KeptColumn). x.kept ≡ kept_in table x.name.now) kept c h.is_kept one.is_kept;
      sound = All-push (λ (x : KeptColumn). IsColumn x.column.now × (x.kept.field < 2 ^ 31)) kept c h.sound one.sound;
      each = λ docs are. All-push (λ (x : KeptColumn). map appeared x.column.now ≡ column_from x.name.now 0 docs) kept c (h.each docs are) (one.each docs are);
    }

pub one-column : (table : List TableField) (columns : List (Vec Appearance Global)) (n : ℕ) (f : TableField) (v : Vec Appearance Global) (seen : List Appearance) (c : KeptColumn)
    → length table < 2 ^ 31 → AreFirst table → length columns ≡ length table → All (λ (x : Vec Appearance Global). IsColumn x.items) columns → n < length table → f ≡ field_at n table → v ≡ get_or columns n v
    → seen ≡ v.items → named_column c ≡ record { name = f.name; column = seen } → c.kept ≡ kept_at n f.bits → IsUtf8 c.name.now → IsKeptColumn table columns c
one-column table columns n f v seen c few first count fit lt is at same named keeps utf8 =
    let own-name : c.name.now ≡ f.name = ap (λ (x : NamedColumn). x.name) named in
    let own-column : c.column.now ≡ v.items = ap (λ (x : NamedColumn). x.column) named ∙ same in
    let name : c.name.now ≡ name_of table n = own-name ∙ ap (λ (x : TableField). x.name) is in
    let here : n < length columns = omega (arith, lt, count) in
    let field : c.kept.field ≡ n = ap (λ (k : Kept). k.field) keeps in
    record {
      utf8 = utf8;
      is_kept = keeps ∙ ap (λ (x : TableField). kept_at n x.bits) is ∙ kept-own table n first lt ∙ ap (kept_in table) (sym name);
      sound = (subst IsColumn (sym own-column) (subst (λ (x : Vec Appearance Global). IsColumn x.items) (sym at) (fit n v here)), omega (arith, field, lt, few));
      each = λ docs are. ap (map appeared) own-column ∙ ap (λ (x : Vec Appearance Global). map appeared x.items) at ∙ are.1 n v lt ∙ ap (λ w. column_from w 0 docs) (sym name);
    }

pub names-more : (table : List TableField) (kept new : List KeptColumn) (c : KeptColumn) (n : ℕ) (f : TableField) → n < length table → new ≡ kept ++ c ∷ [] → c.name.now ≡ f.name → f ≡ field_at n table
    → map name_in kept ≡ map (λ (x : TableField). x.name) (take n table) → map name_in new ≡ map (λ (x : TableField). x.name) (take (n + 1) table)
names-more table kept new c n f lt grown named is so_far =
    ap (map name_in) grown ∙ map-append name_in kept (c ∷ [])
    ∙ ap (λ w. w ++ c.name.now ∷ []) so_far
    ∙ ap (λ w. map (λ (x : TableField). x.name) (take n table) ++ w ∷ []) (named ∙ ap (λ (x : TableField). x.name) is)
    ∙ sym (ap (map (λ (x : TableField). x.name)) (take_more table n no_name lt) ∙ map-append (λ (x : TableField). x.name) (take n table) (get_or table n no_name ∷ []))

-- ---- in order

-- no two fields of the table have one name
names-apart : (table : List TableField) → AreFirst table → AllPairs (λ a b. a ≢ b) (map (λ (x : TableField). x.name) table)
names-apart table first i j d low lt same =
    let size = length-map table (λ (x : TableField). x.name) in
    let right : j < length table = omega (arith, lt, size) in
    let left : i < length table = omega (arith, low, right) in
    let names : name_of table i ≡ name_of table j = sym (get_or-map (λ (x : TableField). x.name) table i no_name d left) ∙ same ∙ get_or-map (λ (x : TableField). x.name) table j no_name d right in
    let numbers : i ≡ j = the-same i j (sym (first i left) ∙ ap (λ w. number_of w table) names ∙ first j right) in
    omega (arith, low, numbers)

distinct-names : (table : List TableField) → AreFirst table → IsDistinct bytes_eq (map (λ (x : TableField). x.name) table)
distinct-names table first = IsDistinct-from_AllPairs bytes_eq-Decides (map (λ (x : TableField). x.name) table) (names-apart table first)

rise-here : (xs : List KeptColumn) → IsDistinct bytes_eq (map name_in xs) → All (λ (c : KeptColumn). IsUtf8 c.name.now) xs → IsSortedByKey name_in text_cmp xs → (k : ℕ) (u : KeptColumn) → k + 1 < length xs → text_cmp (get_or (map name_in xs) k []) (get_or (map name_in xs) (k + 1) []) ≡ Less
rise-here xs apart utf8 sorted k u lt =
    let first : k < length xs = omega arith in
    let next : k < k + 1 = omega arith in
    let low : 0 ≤ k = omega arith in
    let long : k + 1 < length (map name_in xs) = subst (λ n. k + 1 < n) (sym (length-map xs name_in)) lt in
    let a = get_or xs k u in
    let b = get_or xs (k + 1) u in
    let left = get_or-map name_in xs k u [] first in
    let right = get_or-map name_in xs (k + 1) u [] lt in
    let differ : bytes_eq a.name.now b.name.now ≡ false = ap (λ w. bytes_eq w b.name.now) (sym left) ∙ ap (λ w. bytes_eq (get_or (map name_in xs) k []) w) (sym right) ∙ apart_from_distinct bytes_eq (map name_in xs) k (k + 1) [] apart next long in
    ap (λ w. text_cmp w (get_or (map name_in xs) (k + 1) [])) left ∙ ap (λ w. text_cmp a.name.now w) right ∙ rise_next a.name.now b.name.now (utf8 k u first) (utf8 (k + 1) u lt) (sorted k u low lt) differ

rise-each : (xs : List KeptColumn) → IsDistinct bytes_eq (map name_in xs) → All (λ (c : KeptColumn). IsUtf8 c.name.now) xs → IsSortedByKey name_in text_cmp xs → (k : ℕ) → k + 1 < length (map name_in xs) → text_cmp (get_or (map name_in xs) k []) (get_or (map name_in xs) (k + 1) []) ≡ Less
rise-each [] apart utf8 sorted k lt = absurd (omega (arith, lt))
rise-each (x ∷ xs) apart utf8 sorted k lt = rise-here (x ∷ xs) apart utf8 sorted k x (subst (λ n. k + 1 < n) (length-map (x ∷ xs) name_in) lt)

same-names : (xs : List KeptColumn) → map (λ (c : NamedColumn). c.name) (map named_column xs) ≡ map name_in xs
same-names [] = refl
same-names (x ∷ xs) = ap (λ w. x.name.now ∷ w) (same-names xs)

in-table : (table : List TableField) (name : List ℕ) → IsSome (number_of name table) → Contains (map (λ (x : TableField). x.name) table) name
in-table table name found = there (number_of name table) refl found
  where
    there : (o : Option ℕ) → number_of name table ≡ o → IsSome o → Contains (map (λ (x : TableField). x.name) table) name
    there None is some = absurd (false≢true some)
    there (Some n) is some =
        let at = position-Some (λ (f : TableField). bytes_eq name f.name) table n no_name is in
        let low = at.0 in
        let size = length-map table (λ (x : TableField). x.name) in
        (n, omega (arith, low, size), get_or-map (λ (x : TableField). x.name) table n no_name name at.0 ∙ sym ((bytes_decides name (get_or table n no_name).name).0 at.1))

-- columns in the order of their names, out of those by number
pub kept-sound : (table : List TableField) (columns : List (Vec Appearance Global)) (kept sorted : List KeptColumn) → IsPermutation kept sorted → AreKeptColumns table columns kept → AreKeptColumns table columns sorted
kept-sound table columns kept sorted moved h = record {
  utf8 = All-permutation (λ (x : KeptColumn). IsUtf8 x.name.now) kept sorted moved h.utf8;
  is_kept = All-permutation (λ (x : KeptColumn). x.kept ≡ kept_in table x.name.now) kept sorted moved h.is_kept;
  sound = All-permutation (λ (x : KeptColumn). IsColumn x.column.now × (x.kept.field < 2 ^ 31)) kept sorted moved h.sound;
  each = λ docs are. All-permutation (λ (x : KeptColumn). map appeared x.column.now ≡ column_from x.name.now 0 docs) kept sorted moved (h.each docs are);
}

all-columns : (table : List TableField) (docs : List Document) (columns : List (Vec Appearance Global)) (kept sorted : List KeptColumn)
    → AreFirst table → map name_in kept ≡ map (λ (x : TableField). x.name) table → IsPermutation kept sorted → IsSortedByKey name_in text_cmp sorted → AreKeptColumns table columns sorted → AreColumnsOf table docs columns
    → AreAllColumns docs (map named_column sorted)
all-columns table docs columns kept sorted first names moved order h of =
    let moved-names : IsPermutation (map name_in kept) (map name_in sorted) = IsPermutation-map name_in kept sorted moved in
    let distinct : IsDistinct bytes_eq (map name_in sorted) = IsDistinct-IsPermutation bytes_eq bytes_symm (map name_in kept) (map name_in sorted) moved-names (subst (IsDistinct bytes_eq) (sym names) (distinct-names table first)) in
    record {
      rise = subst (IsStrictlySortedBy text_cmp) (sym (same-names sorted)) (sorted_from_all_adjacent text_order (map name_in sorted) [] (rise-each sorted distinct h.utf8 order));
      each = λ c inside.
          let k = from_map named_column c sorted (in-from_contains c (map named_column sorted) inside) in
          subst (λ (x : NamedColumn). map appeared x.column ≡ column_from x.name 0 docs) (sym k.2) (all_at (λ (x : KeptColumn). map appeared x.column.now ≡ column_from x.name.now 0 docs) k.0 sorted (h.each docs of.fields) k.1);
      all = λ doc field inside own. subst (λ w. Contains w field.field) (sym (same-names sorted))
          (Contains-permutation (map name_in kept) (map name_in sorted) field.field moved-names (subst (λ w. Contains w field.field) (sym names) (in-table table field.field (of.there doc field inside own))));
    }

same-written : (table : List TableField) (kept : List KeptColumn) → ((c : KeptColumn) → IsIn c kept → c.kept ≡ kept_in table c.name.now) → flat_map kept_column_terms kept ≡ written_terms table (map named_column kept)
same-written table [] h = refl
same-written table (c ∷ kept) h =
    ap (λ (k : Kept). terms_in_columns k c.column.now (texts_of c.column.now) ++ flat_map kept_column_terms kept) (h c (inl refl))
    ∙ ap (λ w. terms_in_columns (kept_in table c.name.now) c.column.now (texts_of c.column.now) ++ w) (same-written table kept (λ x k. h x (inr k)))

pub all-terms : (table : List TableField) (columns : List (Vec Appearance Global)) (kept sorted : List KeptColumn)
    → AreFirst table → map name_in kept ≡ map (λ (x : TableField). x.name) table → IsPermutation kept sorted → IsSortedByKey name_in text_cmp sorted → AreKeptColumns table columns kept
    → (docs : List Document) → AreColumnsOf table docs columns → flat_map kept_column_terms sorted ≡ kept_terms table (under table docs).terms
all-terms table columns kept sorted first names moved order h docs of =
    let s = kept-sound table columns kept sorted moved h in
    same-written table sorted (λ c k. all_at (λ (x : KeptColumn). x.kept ≡ kept_in table x.name.now) c sorted s.is_kept k)
    ∙ canonical-terms table docs (map named_column sorted) of.apart of.made (all-columns table docs columns kept sorted first names moved order s of)
