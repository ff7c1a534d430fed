-- The fields that a field table stands for can be a table, and their names are texts.
use Rattle.std.proofs.Common.{◌≡◌, ℕ, zero, suc, ◌+◌, ◌<◌, ◌^◌, Bool, true, false, List, [], ◌∷◌, ◌++◌, length, Option, Some, None, refl, sym, ap, subst, arith}
use Rattle.std.specs.Prelude.{All, is_some, nat_le}
use Rattle.std.specs.Str.{IsUtf8}
use Rattle.std.proofs.lemmas.List.{length_push}
use Rattle.std.proofs.lemmas.List.Elements.{All-append, All-cons, All-nil}
use mathlib.Core.Bool.{true≢false}
use Rattle.lu_grammar.specs.Records.{Spells, first_broken}
use Rattle.lu_grammar.specs.Plans.{Plan, done, due, each, times}
use Rattle.lu_grammar.specs.Meaning.{Spelled, AreGood, due_after}
use Rattle.lu_types.specs.Tables.{TableField, number_of, IsTable}
use Rattle.lu_types.specs.RuleNumbers as number
use Rattle.lu_types.specs.declared.stored.Stored.TheVariants.{Text}
use Rattle.lu_types.proofs.NumberLemmas.{IsTable_push}
use Rattle.lu_model.specs.Valid.{IsStorable}
use Rattle.field_infos.specs.Fnm.{FnmRecord, field, header_shape, field_shape, field_conditions, lacks_prox, with_field, one_field, after_header, fnm_plan}
use Rattle.field_infos.proofs.Records.{field-good}
use Rattle.check_index.specs.Stands.{Holds}

-- the fields can be a table, their names are texts, and none has positions in a segment that has none
pub record AreFine (has_prox : Bool) (fields : List TableField) : Type 0 where
  pub table : IsTable fields
  pub names : All (λ field. IsStorable (Text field.name)) fields
  pub prox : All (λ field. lacks_prox has_prox field.bits ≡ false) fields

-- what a plan stands for where nothing more is due, and whether that is so
abbrev value_or : List TableField → Plan (List TableField) FnmRecord → List TableField
value_or other (done v) = v
value_or other (due shape conditions after) = other

abbrev ends : Plan (List TableField) FnmRecord → Bool
ends (done v) = true
ends (due shape conditions after) = false

-- a field, whose name is a text
abbrev IsField : FnmRecord → Type 0
IsField r = (f : TableField) × (r ≡ field f) × IsUtf8 f.name × (length f.name < 2 ^ 31)

field-in : (r : FnmRecord) (front : List ℕ) → Spells field_shape r front → IsField r
field-in r front (name, back, named, is, (bits, end, fits, tail, (made, empty))) = (record { name = name; bits = bits }, sym made, named.1, named.0)

-- a field with positions stands in a segment that has positions
field-prox : (has_prox : Bool) (before : List TableField) (f : TableField) → first_broken (field_conditions has_prox before (field f)) ≡ None → lacks_prox has_prox f.bits ≡ false
field-prox has_prox before f good = go (is_some (number_of f.name before)) (nat_le 128 f.bits) (lacks_prox has_prox f.bits) good
  where
    go : (twice great lacks : Bool) → first_broken (record { rule = number.field_twice; broken = twice } ∷ record { rule = number.field_bits; broken = great } ∷ record { rule = number.prox_field; broken = lacks } ∷ []) ≡ None → lacks ≡ false
    go true great lacks e = absurd cc
    go false true lacks e = absurd cc
    go false false true e = absurd cc
    go false false false e = refl

-- one field more
field-more : (has_prox : Bool) (before : List TableField) (name : List ℕ) (bits : ℕ) → length before + 1 < 2 ^ 31 → IsUtf8 name → length name < 2 ^ 31 → AreFine has_prox before
    → first_broken (field_conditions has_prox before (field (record { name = name; bits = bits }))) ≡ None → AreFine has_prox (before ++ record { name = name; bits = bits } ∷ [])
field-more has_prox before name bits room text short h good =
    let f : TableField = record { name = name; bits = bits } in
    let new = field-good has_prox before f good in
    let P : TableField → Type 0 = λ field. IsStorable (Text field.name) in
    let Q : TableField → Type 0 = λ field. lacks_prox has_prox field.bits ≡ false in
    record {
      table = IsTable_push name bits before new.0 new.1 (omega (arith, room)) h.table;
      names = All-append P before (f ∷ []) h.names (All-cons P f [] (text, short) (All-nil P));
      prox = All-append Q before (f ∷ []) h.prox (All-cons Q f [] (field-prox has_prox before f good) (All-nil Q));
    }

fields-good : (has_prox : Bool) (n : ℕ) (before : List TableField) (place : ℕ) (ss : List (Spelled FnmRecord)) (fields : List TableField) → length before + n < 2 ^ 31 → AreFine has_prox before
    → AreGood (times (one_field has_prox) n before) place ss → due_after (times (one_field has_prox) n before) place ss ≡ done fields → AreFine has_prox fields
unfolding each
fields-good has_prox zero before place [] fields few h good none = subst (AreFine has_prox) (ap (value_or []) none) h
fields-good has_prox zero before place (s ∷ ss) fields few h good none = absurd good
fields-good has_prox (suc n) before place [] fields few h good none = absurd (true≢false (sym (ap ends none)))
fields-good has_prox (suc n) before place (s ∷ ss) fields few h good none =
    let is = field-in s.it s.front good.0.0 in
    let f = is.0 in
    let next = times (one_field has_prox) n in
    let there = place + length s.front in
    let here : first_broken (field_conditions has_prox before (field f)) ≡ None = subst (λ (r : FnmRecord). first_broken (field_conditions has_prox before r) ≡ None) is.1 good.0.1 in
    let step : with_field before s.it ≡ before ++ f ∷ [] = ap (with_field before) is.1 in
    fields-good has_prox n (before ++ f ∷ []) there ss fields (omega (arith, few, length_push before f)) (field-more has_prox before f.name f.bits (omega (arith, few)) is.2 is.3 h here)
    (subst (λ (fs : List TableField). AreGood (next fs) there ss) step good.1) (subst (λ (fs : List TableField). due_after (next fs) there ss ≡ done fields) step none)

file-good : (has_prox : Bool) (norm_fields : Option ℕ) (ss : List (Spelled FnmRecord)) (fields : List TableField) → AreGood (fnm_plan has_prox norm_fields) 0 ss
    → due_after (fnm_plan has_prox norm_fields) 0 ss ≡ done fields → AreFine has_prox fields
file-good has_prox norm_fields [] fields good none = absurd (true≢false (sym (ap ends none)))
file-good has_prox norm_fields (s ∷ ss) fields good none = body good.0.0
  where
    body : Spells header_shape s.it s.front → AreFine has_prox fields
    body (format, back, fits, is, (count, end, few, tail, (made, empty))) =
        let there = 0 + length s.front in
        fields-good has_prox count [] there ss fields (omega (arith, few)) none_yet (subst (λ (r : FnmRecord). AreGood (after_header has_prox r) there ss) (sym made) good.1)
        (subst (λ (r : FnmRecord). due_after (after_header has_prox r) there ss ≡ done fields) (sym made) none)
      where
        none_yet : AreFine has_prox []
        none_yet = record {
          table = record { few = omega arith; clear = All-nil (λ (f : TableField). f.bits < 128); apart = λ i j d low high. absurd (omega (arith, high)) };
          names = All-nil (λ (f : TableField). IsStorable (Text f.name));
          prox = All-nil (λ (f : TableField). lacks_prox has_prox f.bits ≡ false);
        }

-- the fields of a `.fnm` file
pub fields-are : (has_prox : Bool) (norm_fields : Option ℕ) (file : Option (List ℕ)) (fields : List TableField) → Holds file (λ _. fnm_plan has_prox norm_fields) fields → AreFine has_prox fields
fields-are has_prox norm_fields None fields h = absurd h
fields-are has_prox norm_fields (Some bytes) fields h = file-good has_prox norm_fields h.records fields h.good h.none_due
