-- Where fields appear, one field or document more.
use Rattle.std.proofs.Common.{◌≡◌, ◌≢◌, refl, ap, sym, ◌∙◌, subst, ℕ, suc, ◌+◌, ◌<◌, ◌≤◌, ◌++◌, List, [], ◌∷◌, length, map, take, get_or, set, Bool, true, false, cond, Option, None, Some, inl, inr, arith}
use Rattle.std.specs.List.{filter, find, AllByRecursion}
use Rattle.std.specs.Option.{option_to_list}
use Rattle.std.specs.Prelude.{option_map, is_some}
use Rattle.std.specs.Global.{Global}
use Rattle.std.specs.Str.{bytes_eq}
use Rattle.std.specs.Cmp.Lexicographic.{bytes_decides}
use Rattle.std.specs.declared.vec.Vec.{Vec}
use Rattle.std.proofs.lemmas.List.{append_assoc, append-nil, map-append, take_more, get_or-set_same, get_or-set_other, length-set, get_or_default, take_all, length-take}
use Rattle.std.proofs.lemmas.List.Elements.{filter-append}
use Rattle.std.proofs.lemmas.List.Quantifiers.{position-Some}
use Rattle.std.proofs.lemmas.Bool.{cases_eq, false≢true}
use Rattle.lu_types.specs.DocFaults.{AreApart}
use Rattle.lu_types.specs.Tables.{TableField, number_of}
use Rattle.lu_types.specs.declared.document.Document.{Document}
use Rattle.lu_types.specs.declared.document.IndexedField.{IndexedField}
use Rattle.lu_model.specs.Contents.{name_of}
use Rattle.seg_writer.specs.declared.appearance.Appearance.{Appearance}
use Rattle.seg_writer.specs.Appearing.{Appeared, appeared, appeared_in, is_field_named, found_in, names_of_indexed, AreFieldColumns, AreEmpty, AreFirst, HaveMore, IsPushed, column_from}

-- a test that does not hold
pub not-true : (b : Bool) → (b ≡ true → ⊥) → b ≡ false
not-true true never = absurd (never refl)
not-true false never = refl

filter-more : (p : IndexedField → Bool) (fields : List IndexedField) (i : ℕ) (field : IndexedField) → i < length fields → field ≡ get_or fields i field → filter p (take (i + 1) fields) ≡ filter p (take i fields) ++ cond (p field) (field ∷ []) []
filter-more p fields i field lt is = ap (filter p) (take_more fields i field lt ∙ ap (λ f. take i fields ++ f ∷ []) (sym is)) ∙ filter-append p (take i fields) (field ∷ [])

-- what a column has of the first so many fields of a document
abbrev pub so_far : List TableField → ℕ → List IndexedField → ℕ → ℕ → List Appeared
so_far table doc fields i n = map (appeared_in doc) (filter (is_field_named (name_of table n)) (take i fields))

one-more : (table : List TableField) (doc : ℕ) (fields : List IndexedField) (i : ℕ) (field : IndexedField) (n : ℕ) → i < length fields → field ≡ get_or fields i field → is_field_named (name_of table n) field ≡ true → so_far table doc fields (i + 1) n ≡ so_far table doc fields i n ++ appeared_in doc field ∷ []
one-more table doc fields i field n lt is named =
    ap (map (appeared_in doc)) (filter-more (is_field_named (name_of table n)) fields i field lt is ∙ ap (λ b. filter (is_field_named (name_of table n)) (take i fields) ++ cond b (field ∷ []) []) named)
    ∙ map-append (appeared_in doc) (filter (is_field_named (name_of table n)) (take i fields)) (field ∷ [])

none-more : (table : List TableField) (doc : ℕ) (fields : List IndexedField) (i : ℕ) (field : IndexedField) (n : ℕ) → i < length fields → field ≡ get_or fields i field → is_field_named (name_of table n) field ≡ false → so_far table doc fields (i + 1) n ≡ so_far table doc fields i n
none-more table doc fields i field n lt is unnamed =
    ap (map (appeared_in doc)) (filter-more (is_field_named (name_of table n)) fields i field lt is ∙ ap (λ b. filter (is_field_named (name_of table n)) (take i fields) ++ cond b (field ∷ []) []) unnamed ∙ append-nil _)

-- the field's number is the one of its name
own-name : (table : List TableField) (field : IndexedField) (k : ℕ) → number_of field.field table ≡ Some k → is_field_named (name_of table k) field ≡ true
own-name table field k found =
    let at = position-Some (λ (f : TableField). bytes_eq field.field f.name) table k (record { name = []; bits = 0 }) found in
    (bytes_decides (name_of table k) field.field).1 (sym ((bytes_decides field.field (name_of table k)).0 at.1))

-- a field of the table that has the name has the number
same-number : (table : List TableField) (field : IndexedField) (n : ℕ) → AreFirst table → n < length table → is_field_named (name_of table n) field ≡ true → number_of field.field table ≡ Some n
same-number table field n first lt named = ap (λ name. number_of name table) (sym ((bytes_decides (name_of table n) field.field).0 named)) ∙ first n lt

pub the-same : (m n : ℕ) → Some m ≡ Some n → m ≡ n
the-same m n e = ap (value 0) e
  where
    value : ℕ → Option ℕ → ℕ
    value d None = d
    value d (Some k) = k

pub columns-pushed : (table : List TableField) (doc : ℕ) (fields : List IndexedField) (i : ℕ) (field : IndexedField) (k : ℕ) (a : Appearance) (old columns new : List (Vec Appearance Global)) (was now : Vec Appearance Global)
    → AreFirst table → length old ≡ length table → i < length fields → field ≡ get_or fields i field → number_of field.field table ≡ Some k → appeared a ≡ appeared_in doc field
    → was ≡ get_or columns k was → now.items ≡ was.items ++ a ∷ [] → new ≡ set columns k now → HaveMore (so_far table doc fields i) old columns → HaveMore (so_far table doc fields (i + 1)) old new
columns-pushed table doc fields i field k a old columns new was now first size lt is found seen at pushed puts (same, each) =
    (ap length puts ∙ length-set columns k now ∙ same, by-number)
  where
    own-column : (d : Vec Appearance Global) → k < length old → map appeared (get_or new k d).items ≡ map appeared (get_or old k d).items ++ so_far table doc fields (i + 1) k
    own-column d within =
        let inside : k < length columns = omega (arith, within, same) in
        let named = own-name table field k found in
        ap (λ cs. map appeared (get_or cs k d).items) puts
        ∙ ap (λ (c : Vec Appearance Global). map appeared c.items) (get_or-set_same columns k now d inside)
        ∙ ap (map appeared) pushed ∙ map-append appeared was.items (a ∷ [])
        ∙ ap (λ (c : Vec Appearance Global). map appeared c.items ++ appeared a ∷ []) (at ∙ get_or_default columns k was d inside)
        ∙ ap (λ w. w ++ appeared a ∷ []) (each k d within)
        ∙ append_assoc (map appeared (get_or old k d).items) (so_far table doc fields i k) (appeared a ∷ [])
        ∙ ap (λ w. map appeared (get_or old k d).items ++ w) (ap (λ x. so_far table doc fields i k ++ x ∷ []) seen ∙ sym (one-more table doc fields i field k lt is named))

    other-column : (n : ℕ) (d : Vec Appearance Global) → n < length old → n ≢ k → map appeared (get_or new n d).items ≡ map appeared (get_or old n d).items ++ so_far table doc fields (i + 1) n
    other-column n d within other =
        let is_not = not-true (is_field_named (name_of table n) field) (λ named. other (the-same n k (sym (same-number table field n first (omega (arith, within, size)) named) ∙ found))) in
        ap (λ cs. map appeared (get_or cs n d).items) puts
        ∙ ap (λ (c : Vec Appearance Global). map appeared c.items) (get_or-set_other columns k n now d other)
        ∙ each n d within
        ∙ ap (λ w. map appeared (get_or old n d).items ++ w) (sym (none-more table doc fields i field n lt is is_not))

    by-number : (n : ℕ) (d : Vec Appearance Global) → n < length old → map appeared (get_or new n d).items ≡ map appeared (get_or old n d).items ++ so_far table doc fields (i + 1) n
    by-number n d within = elim (cases_eq n k) [
      | inl own ↦ subst (λ m. map appeared (get_or new m d).items ≡ map appeared (get_or old m d).items ++ so_far table doc fields (i + 1) m) (sym own) (own-column d (omega (arith, own, within)))
      | inr other ↦ other-column n d within other
    ]

pub columns-put : (table : List TableField) (doc : ℕ) (fields : List IndexedField) (i : ℕ) (field : IndexedField) (k : ℕ) (old columns new : List (Vec Appearance Global))
    → AreFirst table → length old ≡ length table → i < length fields → field ≡ get_or fields i field → number_of field.field table ≡ Some k → k < length table → IsPushed k (appeared_in doc field) columns new
    → HaveMore (so_far table doc fields i) old columns → HaveMore (so_far table doc fields (i + 1)) old new
columns-put table doc fields i field k old columns new first size lt is found within p have =
    let same = have.0 in
    let was = get_or columns k p.column in
    columns-pushed table doc fields i field k p.added old columns new was p.column first size lt is found p.is (get_or_default columns k p.column was (omega (arith, within, size, same))) p.grown p.set_there have

-- a field whose name is not in the table
pub columns-kept : (table : List TableField) (doc : ℕ) (fields : List IndexedField) (i : ℕ) (field : IndexedField) (old columns : List (Vec Appearance Global))
    → AreFirst table → length old ≡ length table → i < length fields → field ≡ get_or fields i field → number_of field.field table ≡ None → HaveMore (so_far table doc fields i) old columns → HaveMore (so_far table doc fields (i + 1)) old columns
columns-kept table doc fields i field old columns first size lt is none (same, each) = (
  same,
  λ n d within.
      let is_not = not-true (is_field_named (name_of table n) field) (λ named. false≢true (ap is_some (sym none ∙ same-number table field n first (omega (arith, within, size)) named))) in
      each n d within ∙ ap (λ w. map appeared (get_or old n d).items ++ w) (sym (none-more table doc fields i field n lt is is_not)),
)

pub columns-begun : (table : List TableField) (doc : ℕ) (fields : List IndexedField) (old : List (Vec Appearance Global)) → HaveMore (so_far table doc fields 0) old old
columns-begun table doc fields old = (refl, λ n d within. sym (append-nil (map appeared (get_or old n d).items)))

-- ---- fields with names apart: a name is found at most once

none-named : (name : List ℕ) (fields : List IndexedField) → AllByRecursion (λ other. name ≢ other) (names_of_indexed fields) → filter (is_field_named name) fields ≡ []
none-named name [] apart = refl
none-named name (f ∷ fields) apart =
    ap (λ b. cond b (f ∷ filter (is_field_named name) fields) (filter (is_field_named name) fields)) (not-true (is_field_named name f) (λ named. apart.0 ((bytes_decides name f.field).0 named)))
    ∙ none-named name fields apart.1

once : (name : List ℕ) (fields : List IndexedField) → AreApart (names_of_indexed fields) → filter (is_field_named name) fields ≡ option_to_list (find (is_field_named name) fields)
once name [] apart = refl
once name (f ∷ fields) apart = elim (is_field_named name f) as (λ b. is_field_named name f ≡ b → cond b (f ∷ filter (is_field_named name) fields) (filter (is_field_named name) fields) ≡ option_to_list (cond b (Some f) (find (is_field_named name) fields))) [
  | true ↦ λ named. ap (λ w. f ∷ w) (none-named name fields (subst (λ n. AllByRecursion (λ other. n ≢ other) (names_of_indexed fields)) (sym ((bytes_decides name f.field).0 named)) apart.0))
  | false ↦ λ other. once name fields apart.1
] refl

map-option : {X Y : Type 0} (f : X → Y) (o : Option X) → map f (option_to_list o) ≡ option_to_list (option_map f o)
map-option f None = refl
map-option f (Some x) = refl

pub columns-end : (table : List TableField) (doc : ℕ) (fields : List IndexedField) (i : ℕ) (old columns : List (Vec Appearance Global)) → AreApart (names_of_indexed fields) → length fields ≤ i → HaveMore (so_far table doc fields i) old columns
    → HaveMore (λ n. found_in (name_of table n) doc fields) old columns
columns-end table doc fields i old columns apart le (same, each) = (
  same,
  λ n d within. each n d within ∙ ap (λ w. map appeared (get_or old n d).items ++ w)
      (ap (λ fs. map (appeared_in doc) (filter (is_field_named (name_of table n)) fs)) (take_all i fields le)
      ∙ ap (map (appeared_in doc)) (once (name_of table n) fields apart)
      ∙ map-option (appeared_in doc) (find (is_field_named (name_of table n)) fields)),
)

-- ---- documents

column-push : (name : List ℕ) (number : ℕ) (docs : List Document) (doc : Document) → column_from name number (docs ++ doc ∷ []) ≡ column_from name number docs ++ found_in name (number + length docs) doc.indexed
column-push name number [] doc =
    let same : number ≡ number + 0 = omega arith in
    append-nil (found_in name number doc.indexed) ∙ ap (λ n. found_in name n doc.indexed) same
column-push name number (x ∷ docs) doc =
    let same : suc number + length docs ≡ number + suc (length docs) = omega arith in
    ap (λ w. found_in name number x.indexed ++ w) (column-push name (suc number) docs doc ∙ ap (λ n. column_from name (suc number) docs ++ found_in name n doc.indexed) same)
    ∙ sym (append_assoc (found_in name number x.indexed) (column_from name (suc number) docs) (found_in name (number + suc (length docs)) doc.indexed))

column-more : (name : List ℕ) (docs : List Document) (i : ℕ) (doc : Document) → i < length docs → doc ≡ get_or docs i doc → column_from name 0 (take (i + 1) docs) ≡ column_from name 0 (take i docs) ++ found_in name i doc.indexed
column-more name docs i doc lt is =
    let short = length-take i docs in
    let number : 0 + length (take i docs) ≡ i = omega (arith, short, lt) in
    ap (column_from name 0) (take_more docs i doc lt ∙ ap (λ d. take i docs ++ d ∷ []) (sym is)) ∙ column-push name 0 (take i docs) doc ∙ ap (λ n. column_from name 0 (take i docs) ++ found_in name n doc.indexed) number

pub columns-more : (table : List TableField) (docs : List Document) (i : ℕ) (doc : Document) (fields : List IndexedField) (columns new : List (Vec Appearance Global)) → i < length docs → doc ≡ get_or docs i doc → fields ≡ doc.indexed
    → AreFieldColumns table (take i docs) columns → HaveMore (λ n. found_in (name_of table n) i fields) columns new → AreFieldColumns table (take (i + 1) docs) new
columns-more table docs i doc fields columns new lt is own (size, each) (same, more) = (
  same ∙ size,
  λ n d within.
      more n d (subst (λ m. n < m) (sym size) within) ∙ ap (λ w. w ++ found_in (name_of table n) i fields) (each n d within)
      ∙ ap (λ fs. column_from (name_of table n) 0 (take i docs) ++ found_in (name_of table n) i fs) own ∙ sym (column-more (name_of table n) docs i doc lt is),
)

pub columns-none : (table : List TableField) (docs : List Document) (count : ℕ) (columns : List (Vec Appearance Global)) → count ≡ length table → AreEmpty count columns → AreFieldColumns table (take 0 docs) columns
columns-none table docs count columns same (size, empty) = (size ∙ same, λ n d within. ap (map appeared) (empty n d (subst (λ m. n < m) (sym (size ∙ same)) within)))

grown-at : (columns : List (Vec Appearance Global)) (k : ℕ) (was now : Vec Appearance Global) (a : Appearance) → k < length columns → was ≡ get_or columns k was → now.items ≡ was.items ++ a ∷ [] → now.items ≡ (get_or columns k now).items ++ a ∷ []
grown-at columns k was now a lt is grown = grown ∙ ap (λ (c : Vec Appearance Global). c.items ++ a ∷ []) (is ∙ get_or_default columns k was now lt)

pub pushed-at : (columns : List (Vec Appearance Global)) (k : ℕ) (was now : Vec Appearance Global) (a : Appearance) (seen : Appeared) → k < length columns → was ≡ get_or columns k was → now.items ≡ was.items ++ a ∷ [] → appeared a ≡ seen
    → IsPushed k seen columns (set columns k now)
pushed-at columns k was now a seen lt is grown same = record { added = a; column = now; is = same; grown = grown-at columns k was now a lt is grown; set_there = refl }
