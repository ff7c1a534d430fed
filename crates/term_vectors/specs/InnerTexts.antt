-- The text of the last term that was read, and the record of the next, as the code has them.
use Rattle.std.specs.Prelude.{◌≡◌, ℕ, false, cond, List, [], Option, Some, None}
use Rattle.std.specs.Str.{IsUtf8}
use Rattle.term_vectors.specs.declared.texts.LastText.{LastText}
use Rattle.term_vectors.specs.declared.texts.VectorTermEntry.{VectorTermEntry}
use Rattle.term_vectors.specs.Vectors.{TvfRecord, term}

-- the text, where there is one
abbrev pub text_before : LastText → Option (List ℕ)
text_before last = cond last.is_some (Some last.bytes.items) None

-- it is a text, and has no bytes where there is none
pub record IsSoundText (last : LastText) : Type 0 where
  pub text : IsUtf8 last.bytes.items
  pub none : last.is_some ≡ false → last.bytes.items ≡ []

-- the record of the program
abbrev pub term_record : VectorTermEntry → TvfRecord
term_record e = term e.prefix e.suffix.now e.freq
