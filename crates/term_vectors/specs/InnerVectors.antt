-- The records of `.tvf` as the code takes them.
use Rattle.std.specs.Prelude.{◌≡◌, ℕ, Some, Result, Ok, Err}
use Rattle.lu_grammar.specs.Bytes.{Cursor}
use Rattle.lu_grammar.specs.Records.{record_at}
use Rattle.lu_grammar.specs.Plans.{read_plan}
use Rattle.lu_model.specs.Index.{VectorTerm}
use Rattle.term_vectors.specs.declared.texts.LastText.{LastText}
use Rattle.term_vectors.specs.declared.vectors.Heading.{Heading}
use Rattle.term_vectors.specs.Vectors.{TvfRecord, heading, term_shape, text_after, freq_of, term_conditions, term_plan}
use Rattle.term_vectors.specs.InnerTexts.{text_before, IsSoundText}

-- the record of the program
abbrev pub heading_record : Heading → TvfRecord
heading_record h = heading h.count h.bits

-- a term stood there, which stands so often in the field, and the text of which is the last now; or it breaks this rule first
abbrev pub IsTermTaken : LastText → LastText → Cursor → Cursor → Result ℕ ℕ → Type 0
IsTermTaken old new from to (Ok freq) = (r : TvfRecord) × (record_at term_shape (term_conditions (text_before old)) from ≡ Ok (r, to))
    × (text_before new ≡ Some (text_after (text_before old) r)) × IsSoundText new × (freq ≡ freq_of r)
IsTermTaken old new from to (Err rule) = record_at term_shape (term_conditions (text_before old)) from ≡ Err rule

-- a term of a vector with these bits was passed, and its text is the last now
abbrev pub IsTermPassed : ℕ → LastText → LastText → Cursor → Cursor → Type 0
IsTermPassed bits old new from to = (t : VectorTerm) × (read_plan (term_plan bits (text_before old)) from ≡ Ok (t, to)) × (text_before new ≡ Some t.text) × IsSoundText new
