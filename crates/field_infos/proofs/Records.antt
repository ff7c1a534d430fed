-- The records of a field table, as the code reads them.
use Rattle.std.proofs.Common.{◌≡◌, ℕ, ◌+◌, ◌<◌, Bool, false, eqb, leb, List, [], ◌∷◌, ◌++◌, length, Option, None, Some, Ok, Err, refl, ◌∙◌, inl, inr}
use Rattle.std.proofs.lemmas.Bool.{eqb-true, leb-false, cases_Bool}
use Rattle.lu_grammar.specs.Bytes.{IsBytes, Cursor, start_of}
use Rattle.lu_grammar.specs.Records.{first_broken, record_at}
use Rattle.lu_grammar.specs.Plans.{times, read_plan}
use Rattle.lu_grammar.proofs.Records.{record_at-read, record_at-breaks, record_at-unread}
use Rattle.lu_grammar.proofs.Plans.{read_due, read_due_broken}
use Rattle.lu_grammar.proofs.Loops.{times-more, times-fault}
use Rattle.lu_grammar.proofs.Files.{file-fault, file-left, file-read}
use Rattle.lu_grammar.specs.Meaning.{Reads, FirstFault}
use Rattle.lu_types.specs.RuleNumbers as number
use Rattle.lu_types.specs.Judging.{Checks, GivesIn}
use Rattle.lu_types.specs.declared.kind.FileKind.TheVariants.{Fnm}
use Rattle.lu_types.specs.declared.fault.CodecFault.{CodecFault}
use Rattle.lu_types.specs.declared.fault.CodecFault.TheVariants as faults
use Rattle.lu_types.specs.Tables.{TableField, number_of}
use Rattle.std.specs.Prelude.{is_some}
use Rattle.field_infos.specs.Fnm.{header, field, header_shape, header_conditions, field_shape, field_conditions, lacks_prox, format_number, one_field, after_header, fnm_plan}

-- what was read is good or breaks a rule, and what was not breaks that of its part
pub ruleset judged = (record_at-read, record_at-breaks, record_at-unread)

some_is_none : {n : ℕ} → Some n ≡ None → ⊥
some_is_none h = cc

-- a good header has the format number
pub format-good : (norm_fields : Option ℕ) (format count : ℕ) → first_broken (header_conditions norm_fields (header format count)) ≡ None → format ≡ format_number
format-good norm_fields format count e =
    elim (cases_Bool (eqb format format_number)) [
      | inl same ↦ eqb-true format format_number same
      | inr other ↦ absurd (some_is_none (rw other at e))
    ]

-- after a good header the file is its fields
pub fnm-header : (has_prox : Bool) (norm_fields : Option ℕ) (c d : Cursor) (count : ℕ) → record_at header_shape (header_conditions norm_fields) c ≡ Ok (header format_number count, d)
    → read_plan (fnm_plan has_prox norm_fields) c ≡ read_plan (times (one_field has_prox) count []) d
fnm-header has_prox norm_fields c d count e =
    read_due header_shape (λ place r. header_conditions norm_fields r) (λ place r. after_header has_prox r) c (header format_number count) d e

-- a header that breaks a rule is the fault of the file
pub fnm-header_broken : (has_prox : Bool) (norm_fields : Option ℕ) (c : Cursor) (rule : ℕ) → record_at header_shape (header_conditions norm_fields) c ≡ Err rule
    → read_plan (fnm_plan has_prox norm_fields) c ≡ Err (record { offset = c.place; rule = rule })
fnm-header_broken has_prox norm_fields c rule e =
    read_due_broken header_shape (λ place r. header_conditions norm_fields r) (λ place r. after_header has_prox r) c rule e

-- a good field is new in the table, and its bits are bits of a field
pub field-good : (has_prox : Bool) (fields : List TableField) (f : TableField) → first_broken (field_conditions has_prox fields (field f)) ≡ None → (number_of f.name fields ≡ None) × (f.bits < 128)
field-good has_prox fields f e = new (number_of f.name fields) refl e
  where
    bits : leb 128 f.bits ≡ false → f.bits < 128
    bits h = leb-false 128 f.bits h

    new : (o : Option ℕ) → number_of f.name fields ≡ o → first_broken (record { rule = number.field_twice; broken = is_some o } ∷ record { rule = number.field_bits; broken = leb 128 f.bits }
        ∷ record { rule = number.prox_field; broken = lacks_prox has_prox f.bits } ∷ []) ≡ None → (number_of f.name fields ≡ None) × (f.bits < 128)
    new (Some n) is h = absurd cc
    new None is h = elim (cases_Bool (leb 128 f.bits)) [
      | inl great ↦ absurd (some_is_none (rw great at h))
      | inr fine ↦ (is, bits fine)
    ]

-- the fields that were read, and then one more or the fault of the next one
pub fields-more : (has_prox : Bool) (i : ℕ) (c d e : Cursor) (fields : List TableField) (f : TableField) → read_plan (times (one_field has_prox) i []) c ≡ Ok (fields, d)
    → record_at field_shape (field_conditions has_prox fields) d ≡ Ok (field f, e) → read_plan (times (one_field has_prox) (i + 1) []) c ≡ Ok (fields ++ f ∷ [], e)
fields-more has_prox i c d e fields f before here = times-more (one_field has_prox) i [] c fields d (field f) e before here

pub fields-fault : (has_prox : Bool) (i n : ℕ) (c d : Cursor) (fields : List TableField) (rule : ℕ) → i < n → read_plan (times (one_field has_prox) i []) c ≡ Ok (fields, d)
    → record_at field_shape (field_conditions has_prox fields) d ≡ Err rule → read_plan (times (one_field has_prox) n []) c ≡ Err (record { offset = d.place; rule = rule })
fields-fault has_prox i n c d fields rule lt before here = times-fault (one_field has_prox) i n [] c fields d rule lt before here

-- ---- the whole file

module _ (has_prox : Bool) (norm_fields : Option ℕ) (bytes : List ℕ) (fits : IsBytes bytes) where
  -- a header that breaks a rule
  pub header-fault : (rule : ℕ) → record_at header_shape (header_conditions norm_fields) (start_of bytes) ≡ Err rule → FirstFault (fnm_plan has_prox norm_fields) bytes 0 rule
  header-fault rule e = file-fault (fnm_plan has_prox norm_fields) bytes 0 rule fits (fnm-header_broken has_prox norm_fields (start_of bytes) rule e)

  module _ (count : ℕ) (c : Cursor) (header_is : record_at header_shape (header_conditions norm_fields) (start_of bytes) ≡ Ok (header format_number count, c)) where
    -- a fault of its fields, or no memory
    pub fields-fails : (d : Cursor) (found : CodecFault) → GivesIn Fnm (λ table. table) (read_plan (times (one_field has_prox) count []) c) d (Err found) → Checks (λ table. table) Fnm (fnm_plan has_prox norm_fields) bytes (Err found)
    fields-fails d faults.OutOfMemory h = tt
    fields-fails d (faults.Spot spot) h =
        (h.0, file-fault (fnm_plan has_prox norm_fields) bytes spot.offset spot.rule fits (fnm-header has_prox norm_fields (start_of bytes) c count header_is ∙ h.1))

    -- bytes after them
    pub fields-left : (table : List TableField) (d : Cursor) → read_plan (times (one_field has_prox) count []) c ≡ Ok (table, d) → 0 < length d.rest → FirstFault (fnm_plan has_prox norm_fields) bytes d.place number.trailing
    fields-left table d e some = file-left (fnm_plan has_prox norm_fields) bytes table d fits (fnm-header has_prox norm_fields (start_of bytes) c count header_is ∙ e) some

    -- and none
    pub fields-read : (table : List TableField) (d : Cursor) → read_plan (times (one_field has_prox) count []) c ≡ Ok (table, d) → length d.rest ≡ 0 → Reads (fnm_plan has_prox norm_fields) bytes table
    fields-read table d e none = file-read (fnm_plan has_prox norm_fields) bytes table d fits (fnm-header has_prox norm_fields (start_of bytes) c count header_is ∙ e) none
