-- Worked rows on the definitions.
use Rattle.std.proofs.Common.{◌≡◌, [], ◌∷◌, Ok, Err, refl}
use Rattle.lu_grammar.specs.Reading.{read}
use Rattle.lu_grammar.specs.Records.{record_at}
use Rattle.lu_grammar.specs.Plans.{each, read_plan, read_file}
use Rattle.doc_marks.specs.Norms.{nrm_plan, separate_plan, nrm_spelling}

one_norm : read_file (nrm_plan 1 1) (0x4E ∷ 0x52 ∷ 0x4D ∷ 0xFF ∷ 0x7C ∷ []) ≡ Ok ((0x7C ∷ []) ∷ [])
unfolding read each read_plan record_at
one_norm = refl

cut_norm : read_file (nrm_plan 1 1) (0x4E ∷ 0x52 ∷ 0x4D ∷ 0xFF ∷ []) ≡ Err (record { offset = 4; rule = 1 })
unfolding read each read_plan record_at
cut_norm = refl

other_header : read_file (nrm_plan 1 1) (0x4E ∷ 0x52 ∷ 0x4D ∷ 0xFE ∷ 0x7C ∷ []) ≡ Err (record { offset = 0; rule = 85 })
unfolding read each read_plan record_at
other_header = refl

no_documents : read_file (nrm_plan 2 0) (0x4E ∷ 0x52 ∷ 0x4D ∷ 0xFF ∷ []) ≡ Ok ([] ∷ [] ∷ [])
unfolding read each read_plan record_at
no_documents = refl

separate_empty : read_file (separate_plan 0) [] ≡ Ok []
unfolding read read_plan record_at
separate_empty = refl

separate_long : read_file (separate_plan 1) (0xC8 ∷ 0 ∷ []) ≡ Err (record { offset = 1; rule = 6 })
unfolding read read_plan record_at
separate_long = refl

spelled : nrm_spelling ((0x7C ∷ []) ∷ (0xC8 ∷ []) ∷ []) ≡ 0x4E ∷ 0x52 ∷ 0x4D ∷ 0xFF ∷ 0x7C ∷ 0xC8 ∷ []
spelled = refl
