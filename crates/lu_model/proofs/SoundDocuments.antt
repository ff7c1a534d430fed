-- A document that breaks no limit has no fault.
use Rattle.std.proofs.Common.{◌≡◌, ◌≢◌, ℕ, ◌≤◌, Bool, true, false, List, [], ◌∷◌, ◌++◌, Option, Some, None, length, map, refl, sym, ap, ◌∙◌}
use Rattle.std.specs.Prelude.{nat_lt, ◌||◌}
use Rattle.std.specs.List.{list_any, AllByRecursion}
use Rattle.std.specs.Str.{bytes_eq}
use Rattle.std.proofs.lemmas.Bool.Decides.{nat_tests}
use Rattle.std.proofs.Common.{arith}
use Rattle.lu_types.specs.DocFaults.{AreApart, AreSoundTokens, IsSound, IsSoundField, IsSoundToken, doc_fault, fault_if, field_fault, fields_fault, first_fault, token_fault, tokens_fault, values_fault}
use Rattle.lu_types.specs.declared.document.Document.{Document}
use Rattle.lu_types.specs.declared.document.DocFault.{DocFault}
use Rattle.lu_types.specs.declared.document.DocFault.TheVariants.{NameLong, TextLong, PositionOrder, OffsetOrder, PayloadLong, FieldTwice, TokensMany}
use Rattle.lu_types.specs.declared.document.IndexedField.{IndexedField}
use Rattle.lu_types.specs.declared.document.Limits.{Limits}
use Rattle.lu_types.specs.declared.document.Token.{Token}
use Rattle.lu_types.specs.declared.stored.StoredValue.{StoredValue}
use Rattle.lu_types.specs.Bounds.{most_bytes, most_place}
use Rattle.lu_model.proofs.SoundTokens.{differs}

-- where the first is none, and the first of the rest
none_then : (f : Option DocFault) (fs : List (Option DocFault)) → f ≡ None → first_fault fs ≡ None → first_fault (f ∷ fs) ≡ None
none_then None fs e h = h
none_then (Some f) fs e h = cc

not_broken : (b : Bool) (f : DocFault) → b ≡ false → fault_if b f ≡ None
not_broken b f e = ap (λ v. fault_if v f) e

not_above : (m n : ℕ) → n ≤ m → nat_lt m n ≡ false
not_above m n h = grind (arith, nat_tests)

neither : (a b : Bool) → a ≡ false → b ≡ false → (a || b) ≡ false
neither a b p q = ap (λ v. v || b) p ∙ q

token_none : (before : ℕ) (token : Token) → before ≤ token.position → IsSoundToken token → token_fault before token ≡ None
token_none before token h s =
    none_then _ _ (not_broken _ TextLong (not_above most_bytes (length token.text) s.text))
    (none_then _ _ (not_broken _ PositionOrder (neither _ _ (not_above most_place token.position s.position) (not_above token.position before h)))
    (none_then _ _ (not_broken _ OffsetOrder (neither _ _ (not_above token.end token.start s.start) (not_above most_place token.end s.end)))
    (none_then _ _ (not_broken _ PayloadLong (not_above most_bytes (length token.payload) s.payload)) refl)))

tokens_none : (before : ℕ) (tokens : List Token) → AreSoundTokens before tokens → tokens_fault before tokens ≡ None
tokens_none before [] h = refl
tokens_none before (token ∷ tokens) h = none_then _ _ (token_none before token h.0 h.1) (none_then _ _ (tokens_none token.position tokens h.2) refl)

-- no field has the name
abbrev is_taken : List ℕ → List IndexedField → Bool
is_taken name fields = list_any (λ field. bytes_eq name field.field) fields

field_none : (limits : Limits) (earlier : List IndexedField) (field : IndexedField) → IsSoundField limits field → is_taken field.field earlier ≡ false → field_fault limits earlier field ≡ None
field_none limits earlier field s new =
    none_then _ _ (not_broken _ NameLong (not_above most_bytes (length field.field) s.name))
    (none_then _ _ (not_broken _ FieldTwice new)
    (none_then _ _ (not_broken _ TokensMany (not_above limits.tokens (length field.tokens) s.few))
    (none_then _ _ (tokens_none 0 field.tokens s.tokens) refl)))

taken-append : (name : List ℕ) (xs ys : List IndexedField) → is_taken name xs ≡ false → is_taken name ys ≡ false → is_taken name (xs ++ ys) ≡ false
taken-append name [] ys p q = q
taken-append name (x ∷ xs) ys p q = elim (bytes_eq name x.field) as (λ b. (b || is_taken name xs) ≡ false → (b || is_taken name (xs ++ ys)) ≡ false) [
  | true ↦ λ e. e
  | false ↦ λ e. taken-append name xs ys e q
] p

-- no name of these fields is that of an earlier field
abbrev AreNew : List IndexedField → List IndexedField → Type 0
AreNew earlier fields = AllByRecursion (λ field. is_taken field.field earlier ≡ false) fields

still_new : (earlier : List IndexedField) (first : IndexedField) (fields : List IndexedField) → AreNew earlier fields → AllByRecursion (λ other. first.field ≢ other) (map (λ field. field.field) fields) → AreNew (earlier ++ first ∷ []) fields
still_new earlier first [] h k = tt
still_new earlier first (f ∷ fields) h k =
    (taken-append f.field earlier (first ∷ []) h.0 (ap (λ b. b || false) (differs f.field first.field (λ e. k.0 (sym e)))), still_new earlier first fields h.1 k.1)

fields_none : (limits : Limits) (earlier fields : List IndexedField) → AllByRecursion (IsSoundField limits) fields → AreApart (map (λ field. field.field) fields) → AreNew earlier fields → fields_fault limits earlier fields ≡ None
fields_none limits earlier [] s apart new = refl
fields_none limits earlier (f ∷ fields) s apart new =
    none_then _ _ (field_none limits earlier f s.0 new.0)
    (none_then _ _ (fields_none limits (earlier ++ f ∷ []) fields s.1 apart.1 (still_new earlier f fields new.1 apart.0)) refl)

values_none : (values : List StoredValue) → AllByRecursion (λ (value : StoredValue). length value.field ≤ most_bytes) values → values_fault values ≡ None
values_none [] h = refl
values_none (v ∷ values) h = none_then _ _ (not_broken _ NameLong (not_above most_bytes (length v.field) h.0)) (values_none values h.1)

all_new : (fields : List IndexedField) → AreNew [] fields
all_new [] = tt
all_new (f ∷ fields) = (refl, all_new fields)

pub none-from_sound : (doc : Document) (limits : Limits) → IsSound doc limits → doc_fault doc limits ≡ None
none-from_sound doc limits s =
    none_then _ _ (values_none doc.stored s.stored)
    (none_then _ _ (fields_none limits [] doc.indexed s.fields s.apart (all_new doc.indexed)) refl)
