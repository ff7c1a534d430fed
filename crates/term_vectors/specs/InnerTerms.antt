-- The parts of a term, as the code takes them from its place (format page, "Term vectors").
use Rattle.std.specs.Prelude.{◌≡◌, ℕ, ◌≤◌, List, [], ◌++◌, length, take, Option}
use Rattle.std.specs.Option.{unwrap_or}
use Rattle.std.specs.Str.{IsUtf8}
use Rattle.lu_grammar.specs.Bytes.{Cursor, place_in}
use Rattle.lu_model.specs.Index.{VectorTerm}
use Rattle.term_vectors.specs.declared.terms.TermParts.{TermParts}

-- the term's text is so many bytes of the text before and these, it stands so often, it has these positions and pairs, and it ends at this place
pub record HasParts (tvf : List ℕ) (before : Option (List ℕ)) (t : VectorTerm) (behind : Cursor) (parts : TermParts) : Type 0 where
  pub prefix : parts.prefix ≤ length (unwrap_or before [])
  pub text : take parts.prefix (unwrap_or before []) ++ parts.suffix.now ≡ t.text
  pub is_text : IsUtf8 t.text
  pub freq : parts.freq ≡ t.frequency
  pub positions : parts.positions ≡ t.positions
  pub pairs : parts.pairs ≡ t.spans
  pub end : behind ≡ place_in tvf parts.end
  pub within : parts.end ≤ length tvf
