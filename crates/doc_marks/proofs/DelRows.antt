-- Worked rows of deletions on the definitions.
use Rattle.std.proofs.Common.{◌≡◌, ℕ, List, [], ◌∷◌, Result, Ok, Err, refl}
use Rattle.lu_grammar.specs.Parts.{groups}
use Rattle.lu_grammar.specs.Reading.{read, read_groups}
use Rattle.lu_grammar.specs.Records.{record_at}
use Rattle.lu_grammar.specs.Plans.{read_plan, read_file, Broken}
use Rattle.doc_marks.specs.Marking.{bits, flags, places, is_in, flags_of, number_of_bits, marking}
use Rattle.doc_marks.specs.Deletions.{pairs_plan, del_plan}
use Rattle.doc_marks.specs.Spelling.{pairs_bytes, del_bytes}

fault : ℕ → ℕ → Result (List ℕ) Broken
fault offset rule = Err (record { offset = offset; rule = rule })

-- 8000 documents, of which 10, 12 and 32 are deleted
three : List ℕ
three = 10 ∷ 12 ∷ 32 ∷ []

three_bytes : List ℕ
three_bytes = 0xFF ∷ 0xFF ∷ 0xFF ∷ 0xFF ∷ 0 ∷ 0 ∷ 0x1F ∷ 0x40 ∷ 0 ∷ 0 ∷ 0 ∷ 3 ∷ 1 ∷ 0x14 ∷ 3 ∷ 1 ∷ []

three_read : read_file (del_plan 8000 3) three_bytes ≡ Ok three
unfolding three three_bytes read read_groups read_plan record_at pairs_plan bits places
three_read = refl

-- size 8, document 7 deleted
last_written : del_bytes 8 (7 ∷ []) ≡ 0 ∷ 0 ∷ 0 ∷ 8 ∷ 0 ∷ 0 ∷ 0 ∷ 1 ∷ 0x80 ∷ 0 ∷ []
unfolding marking flags_of is_in number_of_bits
last_written = refl

last_read : read_file (del_plan 8 1) (0 ∷ 0 ∷ 0 ∷ 8 ∷ 0 ∷ 0 ∷ 0 ∷ 1 ∷ 0x80 ∷ 0 ∷ []) ≡ Ok (7 ∷ [])
unfolding read read_plan record_at flags bits places
last_read = refl

none_written : del_bytes 0 [] ≡ 0 ∷ 0 ∷ 0 ∷ 0 ∷ 0 ∷ 0 ∷ 0 ∷ 0 ∷ 0 ∷ []
unfolding marking flags_of is_in number_of_bits
none_written = refl

none_read : read_file (del_plan 0 0) (0 ∷ 0 ∷ 0 ∷ 0 ∷ 0 ∷ 0 ∷ 0 ∷ 0 ∷ 0 ∷ []) ≡ Ok []
unfolding read read_plan record_at flags bits places
none_read = refl

three_written : del_bytes 8000 three ≡ three_bytes
unfolding three three_bytes marking flags_of is_in number_of_bits pairs_bytes groups
three_written = refl
