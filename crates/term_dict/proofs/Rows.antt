-- Worked rows on the definitions: what some files stand for, or their first fault.
use Rattle.std.proofs.Common.{◌≡◌, ℕ, List, [], ◌∷◌, ◌++◌, Result, Ok, Err, refl}
use Rattle.std.specs.Str.{is_utf8, chars}
use lib.Utf8.{encode}
use Rattle.lu_grammar.specs.Reading.{read, read_groups}
use Rattle.lu_grammar.specs.Records.{record_at}
use Rattle.lu_grammar.specs.Plans.{Broken, each, read_plan, read_file}
use Rattle.lu_types.specs.Tables.{TableField}
use Rattle.lu_types.specs.declared.term.TermInfo.{TermInfo}
use Rattle.lu_types.specs.RuleNumbers as number
use Rattle.lu_types.specs.declared.term.TermNumbers.{TermNumbers}
use Rattle.term_dict.specs.Dictionary.{Dictionary, tis_plan}
use Rattle.term_dict.specs.Index.{tii_plan}

-- two fields: `a`, and `b` with bit 01
abbrev fields : List TableField
fields = record { name = 97 ∷ []; bits = 0 } ∷ record { name = 98 ∷ []; bits = 1 } ∷ []

-- a header with so many terms, the intervals 128 and 16, and 10 levels
abbrev header : ℕ → List ℕ
header count =
    0xFF ∷ 0xFF ∷ 0xFF ∷ 0xFC ∷ 0 ∷ 0 ∷ 0 ∷ 0 ∷ 0 ∷ 0 ∷ 0 ∷ count ∷ 0 ∷ 0 ∷ 0 ∷ 0x80 ∷ 0 ∷ 0 ∷ 0 ∷ 0x10 ∷ 0 ∷ 0 ∷ 0 ∷ 0x0A ∷ []

abbrev numbers : ℕ → TermNumbers
numbers count = record { count = count; index_interval = 128; skip_interval = 16; max_levels = 10 }

abbrev info : ℕ → ℕ → TermInfo
info freq prox = record { field = 1; doc_freq = 1; freq = freq; prox = prox; skip = 0 }

abbrev hello : List ℕ
hello = 0x68 ∷ 0x65 ∷ 0x6C ∷ 0x6C ∷ 0x6F ∷ []

abbrev world : List ℕ
world = 0x77 ∷ 0x6F ∷ 0x72 ∷ 0x6C ∷ 0x64 ∷ []

abbrev tried : List ℕ → ℕ → Result Dictionary Broken
tried bytes size = read_file (tis_plan fields 1 size) bytes

hello_world : tried (header 2 ++ (0 ∷ 5 ∷ hello ++ (1 ∷ 1 ∷ 0 ∷ 0 ∷ []) ++ (0 ∷ 5 ∷ world ++ (1 ∷ 1 ∷ 1 ∷ 1 ∷ [])))) 46
    ≡ Ok (record { numbers = numbers 2; terms = record { text = hello; info = info 0 0 } ∷ record { text = world; info = info 1 1 } ∷ []; starts = 24 ∷ 35 ∷ []; size = 46 })
unfolding read read_groups read_plan record_at each is_utf8 chars encode
hello_world = refl

-- the second term shares a byte of a character of two
accents : tried (header 2 ++ (0 ∷ 2 ∷ 0xC3 ∷ 0xA8 ∷ 1 ∷ 1 ∷ 0 ∷ 0 ∷ []) ++ (1 ∷ 1 ∷ 0xA9 ∷ 1 ∷ 1 ∷ 0 ∷ 0 ∷ [])) 39
    ≡ Ok (record { numbers = numbers 2; terms = record { text = 0xC3 ∷ 0xA8 ∷ []; info = info 0 0 } ∷ record { text = 0xC3 ∷ 0xA9 ∷ []; info = info 0 0 } ∷ []; starts = 24 ∷ 32 ∷ []; size = 39 })
unfolding read read_groups read_plan record_at each is_utf8 chars encode
accents = refl

-- U+10000 and then U+FF61, and the other order
units_rise : tried (header 2 ++ (0 ∷ 4 ∷ 0xF0 ∷ 0x90 ∷ 0x80 ∷ 0x80 ∷ 1 ∷ 1 ∷ 0 ∷ 0 ∷ []) ++ (0 ∷ 3 ∷ 0xEF ∷ 0xBD ∷ 0xA1 ∷ 1 ∷ 1 ∷ 0 ∷ 0 ∷ [])) 43
    ≡ Ok (record { numbers = numbers 2; terms = record { text = 0xF0 ∷ 0x90 ∷ 0x80 ∷ 0x80 ∷ []; info = info 0 0 } ∷ record { text = 0xEF ∷ 0xBD ∷ 0xA1 ∷ []; info = info 0 0 } ∷ []; starts = 24 ∷ 34 ∷ []; size = 43 })
unfolding read read_groups read_plan record_at each is_utf8 chars encode
units_rise = refl

bytes_rise : tried (header 2 ++ (0 ∷ 3 ∷ 0xEF ∷ 0xBD ∷ 0xA1 ∷ 1 ∷ 1 ∷ 0 ∷ 0 ∷ []) ++ (0 ∷ 4 ∷ 0xF0 ∷ 0x90 ∷ 0x80 ∷ 0x80 ∷ 1 ∷ 1 ∷ 0 ∷ 0 ∷ [])) 43
    ≡ Err (record { offset = 33; rule = number.term_order })
unfolding read read_groups read_plan record_at each is_utf8 chars encode
bytes_rise = refl

-- more documents than the segment has
too_often : tried (header 2 ++ (0 ∷ 5 ∷ hello ++ (1 ∷ 1 ∷ 0 ∷ 0 ∷ []) ++ (0 ∷ 5 ∷ world ++ (1 ∷ 2 ∷ 1 ∷ 1 ∷ [])))) 46 ≡ Err (record { offset = 35; rule = number.doc_freq })
unfolding read read_groups read_plan record_at each is_utf8 chars encode
too_often = refl

none : tried (header 0) 24 ≡ Ok (record { numbers = numbers 0; terms = []; starts = []; size = 24 })
unfolding read read_groups read_plan record_at each is_utf8 chars encode
none = refl

-- ---- the index of the first two terms

abbrev two_terms : Dictionary
two_terms = record { numbers = numbers 2; terms = record { text = hello; info = info 0 0 } ∷ record { text = world; info = info 1 1 } ∷ []; starts = 24 ∷ 35 ∷ []; size = 46 }

abbrev index_tried : ℕ → Result (Unit {0}) Broken
index_tried step = read_file (tii_plan two_terms) (header 1 ++ (0 ∷ 0 ∷ 0xFF ∷ 0xFF ∷ 0xFF ∷ 0xFF ∷ 0x0F ∷ 0 ∷ 0 ∷ 0 ∷ step ∷ []))

index_of_two : index_tried 0x18 ≡ Ok tt
unfolding read read_groups read_plan record_at each
index_of_two = refl

-- the place is one byte after the first term starts
index_past : index_tried 0x19 ≡ Err (record { offset = 24; rule = number.tii_place })
unfolding read read_groups read_plan record_at each
index_past = refl
