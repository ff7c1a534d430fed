-- Worked rows on the definitions: what reading answers at chosen bytes.
use Rattle.std.proofs.Common.{◌≡◌, ℕ, Some, None, true, false, List, [], ◌∷◌, ◌++◌, Result, Ok, Err, refl, pos, ℤ, map, take}
use Rattle.std.specs.Prelude.{codes, replicate}
use Rattle.std.specs.Str.{is_utf8, chars}
use Rattle.lu_types.specs.declared.stored.Stored.TheVariants.{Text, Binary}
use Rattle.lu_types.specs.declared.stored.Window.{Window}
use Rattle.lu_grammar.specs.Parts.{groups}
use Rattle.stored_fields.specs.Writing.{fdx_bytes, fdt_bytes, HeldDocuments, with_begun, with_stored}
use Rattle.lu_grammar.specs.Reading.{read, read_groups}
use Rattle.lu_grammar.specs.Records.{record_at}
use Rattle.lu_grammar.specs.Plans.{each, Broken, read_plan, read_file}
use Rattle.lu_types.specs.StoredFields.{StoredField}
use Rattle.stored_fields.specs.Values.{StoredDocument}
use Rattle.stored_fields.specs.Places.{fdx_plan}
use Rattle.stored_fields.specs.Documents.{fdt_plan}

abbrev broken : {A : Type 0} → ℕ → ℕ → Result A Broken
broken offset rule = Err (record { offset = offset; rule = rule })

abbrev whole : Window
whole = record { offset = 0; count = 1 }

abbrev places : List ℕ → Result (List ℤ) Broken
places bytes = read_file (fdx_plan 1 whole) bytes

abbrev documents : List ℕ → Result (List StoredDocument) Broken
documents bytes = read_file (fdt_plan whole 2 (pos 4 ∷ [])) bytes

-- `.fdx` of one document
abbrev fdx : List ℕ
fdx = 0 ∷ 0 ∷ 0 ∷ 2 ∷ 0 ∷ 0 ∷ 0 ∷ 0 ∷ 0 ∷ 0 ∷ 0 ∷ 4 ∷ []

-- `.fdt` of one document with one value of field 0: these bits, and `hello world`
abbrev fdt : ℕ → ℕ → List ℕ
fdt field bits = 0 ∷ 0 ∷ 0 ∷ 2 ∷ 1 ∷ field ∷ bits ∷ 0x0B ∷ codes "hello world"

fdx_good : places fdx ≡ Ok (pos 4 ∷ [])
unfolding read read_plan record_at each
fdx_good = refl

fdx_trailing : places (fdx ++ 0 ∷ []) ≡ broken 12 6
unfolding read read_plan record_at each
fdx_trailing = refl

fdx_cut : places (0 ∷ 0 ∷ []) ≡ broken 0 1
unfolding read read_plan record_at each
fdx_cut = refl

fdx_place : places (0 ∷ 0 ∷ 0 ∷ 2 ∷ 0 ∷ 0 ∷ 0 ∷ 0 ∷ 0 ∷ 0 ∷ 0 ∷ 5 ∷ []) ≡ broken 4 41
unfolding read read_plan record_at each
fdx_place = refl

fdt_good : documents (fdt 0 1) ≡ Ok ((record { field = 0; tokenized = true; value = Text (codes "hello world") } ∷ []) ∷ [])
unfolding read read_groups read_plan record_at each is_utf8 chars lib.Utf8.encode
fdt_good = refl

fdt_field : documents (fdt 2 1) ≡ broken 5 45
unfolding read read_groups read_plan record_at each is_utf8 chars lib.Utf8.encode
fdt_field = refl

fdt_bits : documents (fdt 0 4) ≡ broken 5 46
unfolding read read_groups read_plan record_at each is_utf8 chars lib.Utf8.encode
fdt_bits = refl

fdt_binary : documents (fdt 0 3) ≡ Ok ((record { field = 0; tokenized = true; value = Binary (codes "hello world") } ∷ []) ∷ [])
unfolding read read_groups read_plan record_at each
fdt_binary = refl

fdt_trailing : documents (fdt 0 1 ++ 0 ∷ []) ≡ broken 19 6
unfolding read read_groups read_plan record_at each is_utf8 chars lib.Utf8.encode
fdt_trailing = refl

-- ---- a window of a store of three documents, each with one value; those of the first and the last have a field that is not there

abbrev three_places : List ℤ
three_places = pos 4 ∷ pos 8 ∷ pos 12 ∷ []

abbrev three : List ℕ
three = 0 ∷ 0 ∷ 0 ∷ 2 ∷ 1 ∷ 9 ∷ 2 ∷ 0 ∷ 1 ∷ 1 ∷ 2 ∷ 0 ∷ 1 ∷ 9 ∷ 2 ∷ 0 ∷ []

abbrev empty_value : ℕ → StoredDocument
empty_value field = record { field = field; tokenized = false; value = Binary [] } ∷ []

window_good : read_file (fdt_plan (record { offset = 1; count = 1 }) 2 three_places) three ≡ Ok (empty_value 9 ∷ empty_value 1 ∷ empty_value 9 ∷ [])
unfolding read read_groups read_plan record_at each
window_good = refl

window_bad : read_file (fdt_plan (record { offset = 0; count = 1 }) 2 three_places) three ≡ broken 5 45
unfolding read read_groups read_plan record_at each
window_bad = refl

window_past : read_file (fdx_plan 3 (record { offset = 2; count = 2 })) fdx ≡ broken 0 42
unfolding read read_plan record_at each
window_past = refl

format_first : read_file (fdx_plan 3 (record { offset = 2; count = 2 })) (0 ∷ 0 ∷ 0 ∷ 3 ∷ []) ≡ broken 0 40
unfolding read read_plan record_at each
format_first = refl

fdt_place : read_file (fdt_plan whole 2 (pos 5 ∷ [])) (fdt 0 1) ≡ broken 4 44
unfolding read read_groups read_plan record_at each
fdt_place = refl

fdt_format : documents (0 ∷ 0 ∷ 0 ∷ 1 ∷ []) ≡ broken 0 43
unfolding read read_plan record_at each
fdt_format = refl

-- ---- each file, cut at every length

fdx_cuts : map (λ n. places (take n fdx)) (0 ∷ 1 ∷ 2 ∷ 3 ∷ 4 ∷ 5 ∷ 6 ∷ 7 ∷ 8 ∷ 9 ∷ 10 ∷ 11 ∷ []) ≡ replicate 4 (broken 0 1) ++ replicate 8 (broken 4 1)
unfolding read read_plan record_at each
fdx_cuts = refl

fdt_cuts : map (λ n. documents (take n (fdt 0 1))) (0 ∷ 1 ∷ 2 ∷ 3 ∷ 4 ∷ 5 ∷ 6 ∷ 7 ∷ 8 ∷ 9 ∷ 10 ∷ 11 ∷ 12 ∷ 13 ∷ 14 ∷ 15 ∷ 16 ∷ 17 ∷ 18 ∷ []) ≡ replicate 4 (broken 0 1) ++ broken 4 1 ∷ replicate 14 (broken 5 1)
unfolding read read_groups read_plan record_at each is_utf8 chars lib.Utf8.encode
fdt_cuts = refl

-- ---- what is written

hello : List StoredDocument
hello = (record { field = 0; tokenized = true; value = Text (codes "hello world") } ∷ []) ∷ []

written_fdx : fdx_bytes hello ≡ fdx
unfolding hello
written_fdx = refl

written_fdt : fdt_bytes hello ≡ fdt 0 1
unfolding hello groups
written_fdt = refl

-- ---- what the writer holds

none_yet : HeldDocuments
none_yet = record { finished = []; opened = None }

begun_empty : with_begun 0 none_yet ≡ record { finished = [] ∷ []; opened = None }
unfolding none_yet
begun_empty = refl

begun_two : with_begun 2 none_yet ≡ record { finished = []; opened = Some (record { announced = 2; values = [] }) }
unfolding none_yet
begun_two = refl

abbrev empty_text : StoredField
empty_text = record { field = 0; tokenized = false; value = Text [] }

stored_first : with_stored empty_text (with_begun 2 none_yet) ≡ record { finished = []; opened = Some (record { announced = 2; values = empty_text ∷ [] }) }
unfolding none_yet
stored_first = refl

stored_last : with_stored empty_text (with_stored empty_text (with_begun 2 none_yet)) ≡ record { finished = (empty_text ∷ empty_text ∷ []) ∷ []; opened = None }
unfolding none_yet
stored_last = refl
