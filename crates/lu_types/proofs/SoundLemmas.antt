-- A document that breaks no limit has no fault.
use Rattle.std.proofs.Common.{◌≡◌, ◌≢◌, ℕ, ◌≤◌, Bool, true, false, List, [], ◌∷◌, ◌++◌, Option, None, length, map, refl, sym, ap, ◌∙◌, arith}
use Rattle.std.specs.Prelude.{nat_lt, ◌||◌}
use Rattle.std.specs.List.{AllByRecursion}
use Rattle.std.specs.Str.{bytes_eq}
use Rattle.std.specs.Cmp.Lexicographic.{bytes_decides}
use Rattle.std.proofs.lemmas.Bool.Decides.{nat_tests}
use Rattle.lu_types.specs.Bounds.{most_bytes, most_place}
use Rattle.lu_types.specs.declared.document.Document.{Document}
use Rattle.lu_types.specs.declared.document.IndexedField.{IndexedField}
use Rattle.lu_types.specs.declared.document.Token.{Token}
use Rattle.lu_types.specs.declared.document.Limits.{Limits}
use Rattle.lu_types.specs.declared.document.DocFault.{DocFault}
use Rattle.lu_types.specs.declared.document.DocFault.TheVariants.{NameLong, TextLong, PositionOrder, OffsetOrder, PayloadLong, FieldTwice, TokensMany}
use Rattle.lu_types.specs.declared.stored.StoredValue.{StoredValue}
use Rattle.lu_types.specs.DocFaults.{fault_if, first_fault, is_named, token_fault, tokens_fault, named_field_fault, fields_fault, values_fault, doc_fault, IsSoundToken, AreSoundTokens, IsSoundField, AreApart, IsSound}

-- a fault that is none, before others
after_none : (f : Option DocFault) (fs : List (Option DocFault)) → f ≡ None → first_fault fs ≡ None → first_fault (f ∷ fs) ≡ None
after_none f fs none rest = ap (λ (o : Option DocFault). first_fault (o ∷ fs)) none ∙ rest

passes : (b : Bool) (f : DocFault) → b ≡ false → fault_if b f ≡ None
passes b f e = ap (λ b. fault_if b f) e

neither : (a b : Bool) → a ≡ false → b ≡ false → (a || b) ≡ false
neither a b e h = ap (λ a. a || b) e ∙ h

lt-false : (m n : ℕ) → n ≤ m → nat_lt m n ≡ false
lt-false m n le = grind (arith, nat_tests)

token-none : (before : ℕ) (token : Token) → before ≤ token.position → IsSoundToken token → token_fault before token ≡ None
token-none before token rises sound =
    after_none _ _ (passes _ TextLong (lt-false most_bytes (length token.text) sound.text))
    (after_none _ _ (passes _ PositionOrder (neither _ _ (lt-false most_place token.position sound.position) (lt-false token.position before rises)))
    (after_none _ _ (passes _ OffsetOrder (neither _ _ (lt-false token.end token.start sound.start) (lt-false most_place token.end sound.end)))
    (after_none _ [] (passes _ PayloadLong (lt-false most_bytes (length token.payload) sound.payload)) refl)))

tokens-none : (before : ℕ) (tokens : List Token) → AreSoundTokens before tokens → tokens_fault before tokens ≡ None
tokens-none before [] sound = refl
tokens-none before (token ∷ tokens) sound =
    after_none _ _ (token-none before token sound.0 sound.1) (after_none _ [] (tokens-none token.position tokens sound.2) refl)

field-none : (limits : Limits) (is_twice : Bool) (field : IndexedField) → is_twice ≡ false → IsSoundField limits field → named_field_fault limits is_twice field ≡ None
field-none limits is_twice field new sound =
    after_none _ _ (passes _ NameLong (lt-false most_bytes (length field.field) sound.name))
    (after_none _ _ (passes is_twice FieldTwice new)
    (after_none _ _ (passes _ TokensMany (lt-false limits.tokens (length field.tokens) sound.few))
    (after_none _ [] (tokens-none 0 field.tokens sound.tokens) refl)))

-- ---- names

-- the names of fields are those of no earlier field
abbrev AreNew : List IndexedField → List IndexedField → Type 0
AreNew earlier fields = AllByRecursion (λ (field : IndexedField). is_named field.field earlier ≡ false) fields

named-append : (name : List ℕ) (earlier : List IndexedField) (last : IndexedField) → is_named name earlier ≡ false → bytes_eq name last.field ≡ false → is_named name (earlier ++ last ∷ []) ≡ false
named-append name [] last e differs = neither _ _ differs refl
named-append name (f ∷ earlier) last e differs = at_test (bytes_eq name f.field) e (named-append name earlier last)
  where
    at_test : (b : Bool) → (b || is_named name earlier) ≡ false → (is_named name earlier ≡ false → bytes_eq name last.field ≡ false → is_named name (earlier ++ last ∷ []) ≡ false) → (b || is_named name (earlier ++ last ∷ [])) ≡ false
    at_test true e _ = cc
    at_test false e rest = rest e differs

differs : (a b : List ℕ) → a ≢ b → bytes_eq b a ≡ false
differs a b apart = at_test (bytes_eq b a) refl
  where
    at_test : (t : Bool) → bytes_eq b a ≡ t → bytes_eq b a ≡ false
    at_test true e = absurd (apart (sym ((bytes_decides b a).0 e)))
    at_test false e = e

new-push : (earlier : List IndexedField) (last : IndexedField) (fields : List IndexedField) → AreNew earlier fields → AllByRecursion (λ other. last.field ≢ other) (map (λ (f : IndexedField). f.field) fields) → AreNew (earlier ++ last ∷ []) fields
new-push earlier last [] new apart = tt
new-push earlier last (f ∷ fields) new apart = (named-append f.field earlier last new.0 (differs last.field f.field apart.0), new-push earlier last fields new.1 apart.1)

fields-none : (limits : Limits) (earlier fields : List IndexedField) → AreNew earlier fields → AllByRecursion (IsSoundField limits) fields → AreApart (map (λ (f : IndexedField). f.field) fields) → fields_fault limits earlier fields ≡ None
fields-none limits earlier [] new sound apart = refl
fields-none limits earlier (f ∷ fields) new sound apart =
    after_none _ _ (field-none limits (is_named f.field earlier) f new.0 sound.0)
    (after_none _ [] (fields-none limits (earlier ++ f ∷ []) fields (new-push earlier f fields new.1 apart.0) sound.1 apart.1) refl)

-- ---- documents

values-none : (values : List StoredValue) → AllByRecursion (λ (value : StoredValue). length value.field ≤ most_bytes) values → values_fault values ≡ None
values-none [] sound = refl
values-none (v ∷ values) sound = after_none _ _ (passes _ NameLong (lt-false most_bytes (length v.field) sound.0)) (values-none values sound.1)

all_new : (fields : List IndexedField) → AreNew [] fields
all_new [] = tt
all_new (f ∷ fields) = (refl, all_new fields)

-- a document that breaks no limit has no fault
pub doc_fault-none : (doc : Document) (limits : Limits) → IsSound doc limits → doc_fault doc limits ≡ None
doc_fault-none doc limits sound =
    after_none _ _ (values-none doc.stored sound.stored) (after_none _ [] (fields-none limits [] doc.indexed (all_new doc.indexed) sound.fields sound.apart) refl)
