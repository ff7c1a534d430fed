-- The columns of sound documents are sound.
use Rattle.std.proofs.Common.{◌≡◌, refl, sym, subst, ℕ, zero, suc, ◌+◌, ◌<◌, ◌≤◌, ◌^◌, ◌++◌, List, [], ◌∷◌, length, map, get_or, Option, None, Some, inl, inr, arith}
use Rattle.std.specs.Prelude.{option_map}
use Rattle.std.specs.List.{find, AllByRecursion}
use Rattle.std.specs.Option.{option_to_list}
use Rattle.std.proofs.lemmas.List.{length-map}
use Rattle.lu_types.specs.declared.document.Document.{Document}
use Rattle.lu_types.specs.declared.document.IndexedField.{IndexedField}
use Rattle.lu_model.proofs.Words.{IsIn}
use Rattle.lu_model.proofs.Tables.{find_in}
use Rattle.seg_writer.specs.declared.appearance.Appearance.{Appearance}
use Rattle.seg_writer.specs.Appearing.{Appeared, appeared, appeared_in, column_from, is_field_named}
use Rattle.seg_writer.specs.Entries.{IsColumn, IsWritableField, AreWritableDocuments}

-- from a document on these rise, are below a bound, and their fields can be written
RisesFrom : ℕ → ℕ → List Appeared → Type 0
RisesFrom n bound [] = Unit {0}
RisesFrom n bound (a ∷ rest) = (n ≤ a.document) × (a.document < bound) × IsWritableField a.field × RisesFrom (suc a.document) bound rest

rises-lower : (m n bound : ℕ) (xs : List Appeared) → n ≤ m → RisesFrom m bound xs → RisesFrom n bound xs
unfolding RisesFrom
rises-lower m n bound [] le h = tt
rises-lower m n bound (a ∷ rest) le (low, below, field, more) = (omega (arith, le, low), below, field, more)

field-in : (fields : List IndexedField) (field : IndexedField) → AllByRecursion IsWritableField fields → IsIn field fields → IsWritableField field
field-in [] field all h = absurd h
field-in (f ∷ fields) field all (inl same) = subst IsWritableField (sym same) all.0
field-in (f ∷ fields) field all (inr h) = field-in fields field all.1 h

rises-doc : (name : List ℕ) (n bound : ℕ) (doc : Document) (rest : List Appeared) (found : Option IndexedField) → find (is_field_named name) doc.indexed ≡ found → n < bound → AllByRecursion IsWritableField doc.indexed → RisesFrom (suc n) bound rest
    → RisesFrom n bound (option_to_list (option_map (appeared_in n) found) ++ rest)
unfolding RisesFrom
rises-doc name n bound doc rest None is lt all more = rises-lower (suc n) n bound rest (omega arith) more
rises-doc name n bound doc rest (Some f) is lt all more = (omega arith, lt, field-in doc.indexed f all (find_in (is_field_named name) f doc.indexed is).0, more)

rises-column : (name : List ℕ) (n bound : ℕ) (docs : List Document) → n + length docs ≤ bound → AreWritableDocuments docs → RisesFrom n bound (column_from name n docs)
unfolding RisesFrom
rises-column name n bound [] le all = tt
rises-column name n bound (doc ∷ docs) le all =
    rises-doc name n bound doc (column_from name (suc n) docs) (find (is_field_named name) doc.indexed) refl (omega (arith, le)) (all 0 doc (omega arith))
    (rises-column name (suc n) bound docs (omega (arith, le)) (λ k d lt. all (suc k) d (omega (arith, lt))))

few-rise : (n bound : ℕ) (xs : List Appeared) → n ≤ bound → RisesFrom n bound xs → n + length xs ≤ bound
unfolding RisesFrom
few-rise n bound [] le h = omega (arith, le)
few-rise n bound (a ∷ rest) le (low, below, field, more) = let later = few-rise (suc a.document) bound rest (omega (arith, below)) more in omega (arith, low, later)

-- what holds of one of them
one-of : (n bound : ℕ) (column : List Appearance) → RisesFrom n bound (map appeared column) → (k : ℕ) (d : Appearance) → k < length column → (n ≤ (get_or column k d).doc) × ((get_or column k d).doc < bound) × IsWritableField (get_or column k d).field.now
unfolding RisesFrom
one-of n bound [] h k d lt = absurd (omega (arith, lt))
one-of n bound (a ∷ column) (low, below, field, more) zero d lt = (low, below, field)
one-of n bound (a ∷ column) (low, below, field, more) (suc k) d lt =
    let later = one-of (suc a.doc) bound column more k d (omega (arith, lt)) in
    let above = later.0 in
    (omega (arith, low, above), later.1, later.2)

rise-at : (n bound : ℕ) (column : List Appearance) → RisesFrom n bound (map appeared column) → (j k : ℕ) (d : Appearance) → j < k → k < length column → (get_or column j d).doc < (get_or column k d).doc
unfolding RisesFrom
rise-at n bound [] h j k d low lt = absurd (omega (arith, lt))
rise-at n bound (a ∷ column) (l, below, field, more) zero zero d low lt = absurd (omega (arith, low))
rise-at n bound (a ∷ column) (l, below, field, more) zero (suc k) d low lt = let above = (one-of (suc a.doc) bound column more k d (omega (arith, lt))).0 in omega (arith, above)
rise-at n bound (a ∷ column) (l, below, field, more) (suc j) zero d low lt = absurd (omega (arith, low))
rise-at n bound (a ∷ column) (l, below, field, more) (suc j) (suc k) d low lt = rise-at (suc a.doc) bound column more j k d (omega (arith, low)) (omega (arith, lt))

pub column-sound : (name : List ℕ) (docs : List Document) (column : List Appearance) → length docs < 2 ^ 31 → AreWritableDocuments docs → map appeared column ≡ column_from name 0 docs → IsColumn column
column-sound name docs column few all is =
    let h : RisesFrom 0 (length docs) (map appeared column) = subst (RisesFrom 0 (length docs)) (sym is) (rises-column name 0 (length docs) docs (omega arith) all) in
    let many = few-rise 0 (length docs) (map appeared column) (omega arith) h in
    let size = length-map column appeared in
    record {
      numberable = record { fields = omega (arith, many, size, few); tokens = λ k d lt. (one-of 0 (length docs) column h k d lt).2.few };
      rise = rise-at 0 (length docs) column h;
      small = λ k d lt. (let below = (one-of 0 (length docs) column h k d lt).1 in omega (arith, below, few));
      sound = λ k d lt. (one-of 0 (length docs) column h k d lt).2.sound;
    }
