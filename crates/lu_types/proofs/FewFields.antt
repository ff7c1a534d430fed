-- A table to which fields of different names were joined has as many fields at least.
use Rattle.std.proofs.Common.{◌≡◌, ◌≢◌, ℕ, zero, suc, ◌+◌, ◌<◌, ◌≤◌, Bool, true, false, cond, List, [], ◌∷◌, None, length, map, eqb, refl, sym, ap, subst, ◌∙◌, arith, get_or, flat_map}
use Rattle.std.specs.Prelude.{not, ◌||◌, Contains, slice_index_or}
use Rattle.std.specs.List.{list_any, position_or_len, AllByRecursion, IsDistinct}
use Rattle.std.specs.Str.{bytes_eq}
use Rattle.std.specs.Cmp.Lexicographic.{bytes_decides}
use Rattle.std.proofs.lemmas.Bool.{eqb-true}
use Rattle.std.proofs.lemmas.List.{length-map}
use Rattle.std.proofs.lemmas.List.Sums.{fold-append, passes_at_first}
use Rattle.std.proofs.lemmas.Map.Steps.{length-le_from_distinct_below}
use mathlib.Core.Bool.{true≢false}
use Rattle.lu_types.specs.Tables.{TableField}
use Rattle.lu_types.specs.Joins.{join_bits, join_field, join, stored_field, indexed_field, fields_of, Covers}
use Rattle.lu_types.specs.DocFaults.{doc_fault, AreApart}
use Rattle.lu_types.specs.declared.document.Document.{Document}
use Rattle.lu_types.specs.declared.document.IndexedField.{IndexedField}
use Rattle.lu_types.specs.declared.document.Limits.{Limits}
use Rattle.lu_types.proofs.DocFaultLemmas.{IsSound-from_none}

-- ---- names in a table

-- a field of the table has the name
abbrev has : List ℕ → List TableField → Bool
has name table = list_any (λ (f : TableField). bytes_eq name f.name) table

or_once : (b h : Bool) → (b || h) ≡ ((b || h) || b)
or_once true h = refl
or_once false true = refl
or_once false false = refl

or_last : (b h c : Bool) → (b || (h || c)) ≡ ((b || h) || c)
or_last true h c = refl
or_last false h c = refl

or_false : (b : Bool) → (b || false) ≡ b
or_false true = refl
or_false false = refl

or_true : (b c : Bool) → c ≡ true → (b || c) ≡ true
or_true true c e = refl
or_true false c e = e

-- the names of a table to which a field was joined
has-join_field : (name : List ℕ) (table : List TableField) (new : TableField) → has name (join_field table new) ≡ (has name table || bytes_eq name new.name)
unfolding join_field
has-join_field name [] new = or_false (bytes_eq name new.name)
has-join_field name (old ∷ table) new =
    elim (bytes_eq new.name old.name) as (λ b. bytes_eq new.name old.name ≡ b
    → has name (cond b (record { name = old.name; bits = join_bits old.bits new.bits } ∷ table) (old ∷ join_field table new)) ≡ ((bytes_eq name old.name || has name table) || bytes_eq name new.name)) [
      | true ↦ λ same. or_once (bytes_eq name old.name) (has name table) ∙ ap (λ n. (bytes_eq name old.name || has name table) || bytes_eq name n) (sym ((bytes_decides new.name old.name).0 same))
      | false ↦ λ _. ap (λ b. bytes_eq name old.name || b) (has-join_field name table new) ∙ or_last (bytes_eq name old.name) (has name table) (bytes_eq name new.name)
    ] refl

has-join : (name : List ℕ) (table fields : List TableField) → has name table ≡ true → has name (join table fields) ≡ true
has-join name table [] e = e
has-join name table (f ∷ fields) e = has-join name (join_field table f) fields (has-join_field name table f ∙ ap (λ b. b || bytes_eq name f.name) e)

-- a table has the names of the fields that were joined to it
have_all : (table fields : List TableField) → AllByRecursion (λ (f : TableField). has f.name (join table fields) ≡ true) fields
have_all table [] = tt
have_all table (f ∷ fields) =
    let itself : has f.name (join_field table f) ≡ true = has-join_field f.name table f ∙ or_true (has f.name table) (bytes_eq f.name f.name) ((bytes_decides f.name f.name).1 refl) in
    (has-join f.name (join_field table f) fields itself, have_all (join_field table f) fields)

-- ---- their numbers

-- the number of the name of a field
abbrev number : List TableField → TableField → ℕ
number table field = position_or_len (λ (f : TableField). bytes_eq field.name f.name) table

number-lt : (name : List ℕ) (table : List TableField) → has name table ≡ true → position_or_len (λ (f : TableField). bytes_eq name f.name) table < length table
number-lt name [] e = absurd (true≢false (sym e))
number-lt name (old ∷ table) e =
    elim (bytes_eq name old.name) as (λ b. (b || has name table) ≡ true → cond (not b) (1 + position_or_len (λ (f : TableField). bytes_eq name f.name) table) 0 < suc (length table)) [
      | true ↦ λ _. omega arith
      | false ↦ λ e. let below = number-lt name table e in omega (arith, below)
    ] e

-- names with one number are one name
name_of-number : (table : List TableField) (f g : TableField) → has f.name table ≡ true → has g.name table ≡ true → number table f ≡ number table g → f.name ≡ g.name
name_of-number table f g h k same =
    let first : f.name ≡ (get_or table (number table f) f).name = (bytes_decides _ _).0 (passes_at_first (λ (x : TableField). bytes_eq f.name x.name) table f (number-lt f.name table h)) in
    let second : g.name ≡ (get_or table (number table g) f).name = (bytes_decides _ _).0 (passes_at_first (λ (x : TableField). bytes_eq g.name x.name) table f (number-lt g.name table k)) in
    first ∙ ap (λ n. (get_or table n f).name) same ∙ sym second

-- a name that differs from others has another number
other_numbers : (table : List TableField) (f : TableField) (fields : List TableField) → has f.name table ≡ true → AllByRecursion (λ (g : TableField). has g.name table ≡ true) fields
    → AllByRecursion (λ other. f.name ≢ other) (map (λ (g : TableField). g.name) fields) → AllByRecursion (λ m. eqb (number table f) m ≡ false) (map (number table) fields)
other_numbers table f [] h k apart = tt
other_numbers table f (g ∷ fields) h k apart =
    (at_test (eqb (number table f) (number table g)) refl, other_numbers table f fields h k.1 apart.1)
  where
    at_test : (b : Bool) → eqb (number table f) (number table g) ≡ b → eqb (number table f) (number table g) ≡ false
    at_test true e = absurd (apart.0 (name_of-number table f g h k.0 (eqb-true _ _ e)))
    at_test false e = e

-- the numbers of names that differ differ
distinct : (table fields : List TableField) → AllByRecursion (λ (g : TableField). has g.name table ≡ true) fields → AreApart (map (λ (g : TableField). g.name) fields) → IsDistinct eqb (map (number table) fields)
unfolding IsDistinct
distinct table [] h apart = tt
distinct table (f ∷ fields) h apart = (other_numbers table f fields h.0 h.1 apart.0, distinct table fields h.1 apart.1)

below : (table fields : List TableField) → AllByRecursion (λ (g : TableField). has g.name table ≡ true) fields → (q : ℕ) → list_any (eqb q) (map (number table) fields) ≡ true → q < length table
below table [] h q e = absurd (true≢false (sym e))
below table (f ∷ fields) h q e = at_test (eqb q (number table f)) refl (below table fields h.1 q)
  where
    at_test : (b : Bool) → eqb q (number table f) ≡ b → (list_any (eqb q) (map (number table) fields) ≡ true → q < length table) → q < length table
    at_test true same _ = subst (λ n. n < length table) (sym (eqb-true _ _ same)) (number-lt f.name table h.0)
    at_test false differs later = later (sym (ap (λ b. b || list_any (eqb q) (map (number table) fields)) differs) ∙ e)

-- fields of different names are no more than those of a table that has all their names
pub length-le-joined : (table fields : List TableField) → AreApart (map (λ (g : TableField). g.name) fields) → length fields ≤ length (join table fields)
length-le-joined table fields apart =
    let joined = join table fields in
    let there = have_all table fields in
    subst (λ n. n ≤ length joined) (length-map fields (number joined)) (length-le_from_distinct_below (map (number joined) fields) (length joined) (distinct joined fields there apart) (below joined fields there))

-- ---- tables grow

length-le-join_field : (table : List TableField) (new : TableField) → length table ≤ length (join_field table new)
unfolding join_field
length-le-join_field [] new = omega arith
length-le-join_field (old ∷ table) new =
    elim (bytes_eq new.name old.name) as (λ b. suc (length table) ≤ length (cond b (record { name = old.name; bits = join_bits old.bits new.bits } ∷ table) (old ∷ join_field table new))) [
      | true ↦ omega arith
      | false ↦ let rest = length-le-join_field table new in omega (arith, rest)
    ]

length-le-join : (table fields : List TableField) → length table ≤ length (join table fields)
length-le-join table [] = omega arith
length-le-join table (f ∷ fields) = omega (arith, length-le-join_field table f, length-le-join (join_field table f) fields)

-- ---- documents

names_of-indexed : (fields : List IndexedField) → map (λ (g : TableField). g.name) (map indexed_field fields) ≡ map (λ (f : IndexedField). f.field) fields
names_of-indexed [] = refl
names_of-indexed (f ∷ fields) = ap (λ (names : List (List ℕ)). f.field ∷ names) (names_of-indexed fields)

-- a document of which no two fields have one name
length-le-document : (table : List TableField) (doc : Document) → AreApart (map (λ (f : IndexedField). f.field) doc.indexed) → length doc.indexed ≤ length (join table (fields_of doc))
length-le-document table doc apart =
    let front = join table (map stored_field doc.stored) in
    let indexed : length (map indexed_field doc.indexed) ≤ length (join front (map indexed_field doc.indexed)) = length-le-joined front (map indexed_field doc.indexed) (subst AreApart (sym (names_of-indexed doc.indexed)) apart) in
    let whole : join table (fields_of doc) ≡ join front (map indexed_field doc.indexed) = fold-append join_field table (map stored_field doc.stored) (map indexed_field doc.indexed) in
    subst (λ n. n ≤ length (join table (fields_of doc))) (length-map doc.indexed indexed_field) (subst (λ (t : List TableField). length (map indexed_field doc.indexed) ≤ length t) (sym whole) indexed)

-- one of documents that are joined
length-le-documents : (table : List TableField) (docs : List Document) (k : ℕ) (doc : Document) → k < length docs → slice_index_or docs k doc ≡ doc → AreApart (map (λ (f : IndexedField). f.field) doc.indexed)
    → length doc.indexed ≤ length (join table (flat_map fields_of docs))
length-le-documents table [] k doc within is apart = absurd (omega (arith, within))
length-le-documents table (d ∷ docs) zero doc within is apart =
    let here : length doc.indexed ≤ length (join table (fields_of d)) = subst (λ (x : Document). length doc.indexed ≤ length (join table (fields_of x))) (sym is) (length-le-document table doc apart) in
    let more = length-le-join (join table (fields_of d)) (flat_map fields_of docs) in
    let whole = ap length (fold-append join_field table (fields_of d) (flat_map fields_of docs)) in
    omega (arith, here, more, whole)
length-le-documents table (d ∷ docs) (suc k) doc within is apart =
    let later = length-le-documents (join table (fields_of d)) docs k doc (omega (arith, within)) is apart in
    let whole = ap length (fold-append join_field table (fields_of d) (flat_map fields_of docs)) in
    omega (arith, later, whole)

-- the indexed fields of a document without a fault are no more than the fields of a table that covers it
pub few_fields : (table : List TableField) (docs : List Document) (doc : Document) (limits : Limits) → Contains docs doc → doc_fault doc limits ≡ None → Covers table docs → length doc.indexed ≤ length table
few_fields table docs doc limits there sound covers =
    subst (λ (t : List TableField). length doc.indexed ≤ length t) covers (length-le-documents table docs there.0 doc there.1 there.2 (IsSound-from_none doc limits sound).apart)
