-- Worked rows on the definitions.
use Rattle.std.proofs.Common.{◌≡◌, ℕ, List, [], ◌∷◌, ◌++◌, length, Result, Ok, Err, refl}
use Rattle.std.specs.Prelude.{codes}
use Rattle.std.specs.Str.{is_utf8, chars}
use Rattle.lu_grammar.specs.Parts.{groups}
use Rattle.lu_grammar.specs.Reading.{read, read_groups}
use Rattle.lu_grammar.specs.Records.{record_at}
use Rattle.lu_grammar.specs.Plans.{each, read_plan, read_file, Broken}
use Rattle.compound_file.specs.Entries.{NamedPart}
use Rattle.compound_file.specs.Cfs.{cfs_plan}

-- what a file stands for, or its first fault
abbrev tried : List ℕ → Result (List NamedPart) Broken
tried bytes = read_file (cfs_plan (length bytes)) bytes

abbrev fault : ℕ → ℕ → Result (List NamedPart) Broken
fault offset rule = Err (record { offset = offset; rule = rule })

-- an entry of a part that starts at this place, below 256
abbrev entry : ℕ → List ℕ → List ℕ
entry start name = 0 ∷ 0 ∷ 0 ∷ 0 ∷ 0 ∷ 0 ∷ 0 ∷ start ∷ length name ∷ name

-- a field table of 9 bytes
abbrev fnm : List ℕ
fnm = 0xFE ∷ 0xFF ∷ 0xFF ∷ 0xFF ∷ 0x0F ∷ 1 ∷ 1 ∷ 0x61 ∷ 1 ∷ []

-- a file of one part, with an entry that says that it starts at this place
abbrev one : ℕ → List ℕ
one start = 1 ∷ entry start (codes "_0.fnm") ++ fnm

-- a file of two parts, which start at these places
abbrev two : ℕ → ℕ → List ℕ
two first second = 2 ∷ entry first (codes "a") ++ entry second (codes "b") ++ (1 ∷ 2 ∷ 3 ∷ [])

-- ---- no part

none : tried (0 ∷ []) ≡ Ok []
unfolding read read_groups each read_plan record_at
none = refl

none_trailing : tried (0 ∷ 0 ∷ []) ≡ fault 1 6
unfolding read read_groups each read_plan record_at
none_trailing = refl

-- ---- one part

one_part : tried (one 16) ≡ Ok (record { name = codes "_0.fnm"; bytes = fnm } ∷ [])
unfolding read read_groups each read_plan record_at is_utf8 chars lib.Utf8.encode groups
one_part = refl

inside : tried (one 15) ≡ fault 1 32
unfolding read read_groups each read_plan record_at is_utf8 chars lib.Utf8.encode groups
inside = refl

behind : tried (one 17) ≡ fault 1 32
unfolding read read_groups each read_plan record_at is_utf8 chars lib.Utf8.encode groups
behind = refl

past_the_end : tried (one 26) ≡ fault 1 30
unfolding read read_groups each read_plan record_at is_utf8 chars lib.Utf8.encode groups
past_the_end = refl

negative : tried (1 ∷ 0xFF ∷ 0xFF ∷ 0xFF ∷ 0xFF ∷ 0xFF ∷ 0xFF ∷ 0xFF ∷ 0xFF ∷ 1 ∷ 0x61 ∷ []) ≡ fault 1 30
unfolding read read_groups each read_plan record_at is_utf8 chars lib.Utf8.encode groups
negative = refl

-- ---- two parts

two_parts : tried (two 21 23) ≡ Ok (record { name = codes "a"; bytes = 1 ∷ 2 ∷ [] } ∷ record { name = codes "b"; bytes = 3 ∷ [] } ∷ [])
unfolding read read_groups each read_plan record_at is_utf8 chars lib.Utf8.encode groups
two_parts = refl

-- a part may be empty, also the last
empty_part : tried (two 21 24) ≡ Ok (record { name = codes "a"; bytes = 1 ∷ 2 ∷ 3 ∷ [] } ∷ record { name = codes "b"; bytes = [] } ∷ [])
unfolding read read_groups each read_plan record_at is_utf8 chars lib.Utf8.encode groups
empty_part = refl

-- the second starts before the first
falling : tried (two 21 20) ≡ fault 11 30
unfolding read read_groups each read_plan record_at is_utf8 chars lib.Utf8.encode groups
falling = refl

-- the first starts inside the directory: the records are walked on, and the last entry is at fault
inside_the_directory : tried (two 11 23) ≡ fault 11 32
unfolding read read_groups each read_plan record_at is_utf8 chars lib.Utf8.encode groups
inside_the_directory = refl

same_name : tried (2 ∷ entry 21 (codes "a") ++ entry 21 (codes "a")) ≡ fault 11 31
unfolding read read_groups each read_plan record_at is_utf8 chars lib.Utf8.encode groups
same_name = refl

cut : tried (2 ∷ entry 11 (codes "a")) ≡ fault 11 1
unfolding read read_groups each read_plan record_at is_utf8 chars lib.Utf8.encode groups
cut = refl

not_text : tried (1 ∷ entry 11 (0xFF ∷ [])) ≡ fault 1 4
unfolding read read_groups each read_plan record_at is_utf8 chars lib.Utf8.encode groups
not_text = refl
