-- Indexed fields in turn, and their names in a table.
use Rattle.std.proofs.Common.{◌≡◌, ℕ, suc, ◌+◌, ◌<◌, Bool, true, false, List, [], ◌∷◌, ◌++◌, Option, Some, None, length, map, take, drop, get_or, refl, sym, ap, ◌∙◌, cond}
use Rattle.std.specs.Prelude.{◌||◌, is_some, option_map}
use Rattle.std.specs.Str.{bytes_eq}
use Rattle.std.proofs.lemmas.List.{take_more, drop_more, map-append}
use Rattle.lu_types.specs.Tables.{TableField, number_of}
use Rattle.lu_types.specs.DocFaults.{first_fault, is_named, named_field_fault, field_fault, fields_fault}
use Rattle.lu_types.specs.declared.document.Limits.{Limits}
use Rattle.lu_types.specs.declared.document.DocFault.{DocFault}
use Rattle.lu_types.specs.declared.document.IndexedField.{IndexedField}
use Rattle.lu_types.specs.Joins.{join_field}
use Rattle.lu_types.proofs.DocFaultLemmas.{sound_field}
use Rattle.lu_types.proofs.JoinLemmas.{number_of-cons, join_field-new}

-- the name of an indexed field, as a field of a table
abbrev pub named : IndexedField → TableField
named field = record { name = field.field; bits = 0 }

some_map : (o : Option ℕ) → is_some (option_map suc o) ≡ is_some o
some_map None = refl
some_map (Some n) = refl

some_cond : (b : Bool) (o : Option ℕ) (p : Bool) → is_some o ≡ p → is_some (cond b (Some 0) (option_map suc o)) ≡ (b || p)
some_cond true o p e = refl
some_cond false o p e = some_map o ∙ e

-- a name has a number in the table of names exactly where a field has it
pub is_named-numbers : (name : List ℕ) (fields : List IndexedField) → is_some (number_of name (map named fields)) ≡ is_named name fields
is_named-numbers name [] = refl
is_named-numbers name (f ∷ fields) =
    ap is_some (number_of-cons name (named f) (map named fields)) ∙ some_cond (bytes_eq name f.field) (number_of name (map named fields)) (is_named name fields) (is_named-numbers name fields)

-- what one fault, or none, and those after it come to
only_first : (o : Option DocFault) → first_fault (o ∷ []) ≡ o
only_first None = refl
only_first (Some fault) = refl

-- the fault of a field that is next, and of those after it
next_fault : (limits : Limits) (fields : List IndexedField) (i : ℕ) (field : IndexedField) → i < length fields → field ≡ get_or fields i field
    → fields_fault limits (take i fields) (drop i fields)
    ≡ first_fault (named_field_fault limits (is_named field.field (take i fields)) field ∷ fields_fault limits (take i fields ++ field ∷ []) (drop (i + 1) fields) ∷ [])
next_fault limits fields i field within is =
    ap (fields_fault limits (take i fields)) (drop_more fields i field within ∙ ap (λ (f : IndexedField). f ∷ drop (i + 1) fields) (sym is))

-- the next field has no fault: what is after it decides
pub next_passes : (limits : Limits) (fields : List IndexedField) (i : ℕ) (field : IndexedField) → i < length fields → field ≡ get_or fields i field
    → named_field_fault limits (is_named field.field (take i fields)) field ≡ None
    → fields_fault limits (take i fields) (drop i fields) ≡ fields_fault limits (take (i + 1) fields) (drop (i + 1) fields)
next_passes limits fields i field within is none =
    next_fault limits fields i field within is
    ∙ ap (λ o. first_fault (o ∷ fields_fault limits (take i fields ++ field ∷ []) (drop (i + 1) fields) ∷ [])) none
    ∙ only_first (fields_fault limits (take i fields ++ field ∷ []) (drop (i + 1) fields))
    ∙ ap (λ (fs : List IndexedField). fields_fault limits fs (drop (i + 1) fields)) (ap (λ (f : IndexedField). take i fields ++ f ∷ []) is ∙ sym (take_more fields i field within))

-- the next field has a fault: it is the first
pub next_fails : (limits : Limits) (fields : List IndexedField) (i : ℕ) (field : IndexedField) (fault : DocFault) → i < length fields → field ≡ get_or fields i field
    → named_field_fault limits (is_named field.field (take i fields)) field ≡ Some fault
    → fields_fault limits (take i fields) (drop i fields) ≡ Some fault
next_fails limits fields i field fault within is some =
    next_fault limits fields i field within is
    ∙ ap (λ o. first_fault (o ∷ fields_fault limits (take i fields ++ field ∷ []) (drop (i + 1) fields) ∷ [])) some

-- the names so far, and one more
pub names_more : (fields : List IndexedField) (i : ℕ) (field : IndexedField) → i < length fields → field ≡ get_or fields i field
    → map named (take (i + 1) fields) ≡ map named (take i fields) ++ named field ∷ []
names_more fields i field within is =
    ap (map named) (take_more fields i field within ∙ ap (λ (f : IndexedField). take i fields ++ f ∷ []) (sym is)) ∙ map-append named (take i fields) (field ∷ [])

-- the same of a name and a table that are known to be these
pub is_named-table : (name same : List ℕ) (table : List TableField) (fields : List IndexedField) → name ≡ same → table ≡ map named fields → is_some (number_of name table) ≡ is_named same fields
is_named-table name same table fields e t = ap (λ (n : List ℕ). is_some (number_of n table)) e ∙ ap (λ (fs : List TableField). is_some (number_of same fs)) t ∙ is_named-numbers same fields

none_from : (o : Option ℕ) → is_some o ≡ false → o ≡ None
none_from None e = refl
none_from (Some n) e = cc

-- a field without a fault has a new name, which goes last
pub join_named : (limits : Limits) (fields : List IndexedField) (i : ℕ) (field : IndexedField) (name : List ℕ) (table : List TableField) → i < length fields → field ≡ get_or fields i field → name ≡ field.field → table ≡ map named (take i fields)
    → field_fault limits (take i fields) field ≡ None
    → join_field table (record { name = name; bits = 0 }) ≡ map named (take (i + 1) fields)
join_named limits fields i field name table within is e t none =
    let new : number_of field.field (map named (take i fields)) ≡ None = none_from _ (is_named-numbers field.field (take i fields) ∙ (sound_field limits (take i fields) field none).1) in
    ap (λ (n : List ℕ). join_field table (record { name = n; bits = 0 })) e ∙ ap (λ (fs : List TableField). join_field fs (named field)) t
    ∙ join_field-new (map named (take i fields)) (named field) new ∙ sym (names_more fields i field within is)
