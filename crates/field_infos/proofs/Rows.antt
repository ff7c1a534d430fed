-- Worked rows on the definitions.
use Rattle.std.proofs.Common.{◌≡◌, ℕ, Bool, true, false, List, [], ◌∷◌, Option, Some, None, Result, Ok, Err, refl}
use Rattle.std.specs.Str.{is_utf8, chars}
use Rattle.lu_grammar.specs.Parts.{groups}
use Rattle.lu_grammar.specs.Reading.{read, read_groups}
use Rattle.lu_grammar.specs.Records.{record_at}
use Rattle.lu_grammar.specs.Plans.{each, read_plan, read_file, Broken}
use Rattle.lu_types.specs.Tables.{TableField}
use Rattle.field_infos.specs.Fnm.{fnm_plan}
use Rattle.field_infos.specs.Spelling.{fnm_spelling}

tried : Bool → Option ℕ → List ℕ → Result (List TableField) Broken
tried has_prox norm_fields bytes = read_file (fnm_plan has_prox norm_fields) bytes

fault : ℕ → ℕ → Result (List TableField) Broken
fault offset rule = Err (record { offset = offset; rule = rule })

-- the format, and then these bytes
fnm : List ℕ → List ℕ
fnm bytes = 0xFE ∷ 0xFF ∷ 0xFF ∷ 0xFF ∷ 0x0F ∷ bytes

-- the field `a`, with bit 01
letter : TableField
letter = record { name = 0x61 ∷ []; bits = 1 }

-- the fields `title` and `body`
two : List TableField
two = record { name = 0x74 ∷ 0x69 ∷ 0x74 ∷ 0x6C ∷ 0x65 ∷ []; bits = 0x10 } ∷ record { name = 0x62 ∷ 0x6F ∷ 0x64 ∷ 0x79 ∷ []; bits = 0x0F } ∷ []

-- their bytes
two_bytes : List ℕ
unfolding fnm
two_bytes = fnm (2 ∷ 5 ∷ 0x74 ∷ 0x69 ∷ 0x74 ∷ 0x6C ∷ 0x65 ∷ 0x10 ∷ 4 ∷ 0x62 ∷ 0x6F ∷ 0x64 ∷ 0x79 ∷ 0x0F ∷ [])

-- ---- good tables

good : tried true None (fnm (1 ∷ 1 ∷ 0x61 ∷ 1 ∷ [])) ≡ Ok (letter ∷ [])
unfolding tried letter fnm read read_groups each read_plan record_at is_utf8 chars lib.Utf8.encode
good = refl

good_two : tried true None two_bytes ≡ Ok two
unfolding tried two two_bytes fnm read read_groups each read_plan record_at is_utf8 chars lib.Utf8.encode
good_two = refl

no_fields : tried true None (fnm (0 ∷ [])) ≡ Ok []
unfolding tried fnm read read_groups each read_plan record_at
no_fields = refl

-- ---- faults of the header

no_bytes : tried true None [] ≡ fault 0 1
unfolding tried fault read read_groups each read_plan record_at
no_bytes = refl

long_count : tried true None (fnm (0x81 ∷ 0 ∷ 1 ∷ 0x61 ∷ 1 ∷ [])) ≡ fault 0 2
unfolding tried fault fnm read read_groups each read_plan record_at
long_count = refl

other_format : tried true None (0xFF ∷ 0xFF ∷ 0xFF ∷ 0xFF ∷ 0x0F ∷ 1 ∷ 1 ∷ 0x61 ∷ 1 ∷ []) ≡ fault 0 35
unfolding tried fault read read_groups each read_plan record_at
other_format = refl

other_count : tried true (Some 2) (fnm (1 ∷ 1 ∷ 0x61 ∷ 1 ∷ [])) ≡ fault 0 39
unfolding tried fault fnm read read_groups each read_plan record_at
other_count = refl

-- ---- faults of a field, and after the last

bytes_left : tried true None (fnm (1 ∷ 1 ∷ 0x61 ∷ 1 ∷ 0 ∷ [])) ≡ fault 9 6
unfolding tried fault fnm read read_groups each read_plan record_at is_utf8 chars lib.Utf8.encode
bytes_left = refl

great_bits : tried true None (fnm (1 ∷ 1 ∷ 0x61 ∷ 0x81 ∷ [])) ≡ fault 6 37
unfolding tried fault fnm read read_groups each read_plan record_at is_utf8 chars lib.Utf8.encode
great_bits = refl

same_name : tried true None (fnm (2 ∷ 1 ∷ 0x61 ∷ 1 ∷ 1 ∷ 0x61 ∷ 1 ∷ [])) ≡ fault 9 36
unfolding tried fault fnm read read_groups each read_plan record_at is_utf8 chars lib.Utf8.encode
same_name = refl

not_utf8 : tried true None (fnm (1 ∷ 2 ∷ 0xC3 ∷ 0x28 ∷ 1 ∷ [])) ≡ fault 6 4
unfolding tried fault fnm read read_groups each read_plan record_at is_utf8 chars lib.Utf8.encode
not_utf8 = refl

positions : tried false None (fnm (1 ∷ 1 ∷ 0x61 ∷ 1 ∷ [])) ≡ fault 6 38
unfolding tried fault fnm read read_groups each read_plan record_at is_utf8 chars lib.Utf8.encode
positions = refl

-- a field without frequencies, and one that is not indexed, have none
no_positions : tried false None (fnm (2 ∷ 1 ∷ 0x61 ∷ 0x41 ∷ 1 ∷ 0x62 ∷ 0 ∷ [])) ≡ Ok (record { name = 0x61 ∷ []; bits = 0x41 } ∷ record { name = 0x62 ∷ []; bits = 0 } ∷ [])
unfolding tried fnm read read_groups each read_plan record_at is_utf8 chars lib.Utf8.encode
no_positions = refl

-- ---- spelling

spelled : fnm_spelling two ≡ two_bytes
unfolding two two_bytes fnm groups
spelled = refl
