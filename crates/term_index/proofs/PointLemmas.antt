-- Entries of the index that are read.
use Rattle.std.proofs.Common.{◌≡◌, ℕ, true, Result, Ok, ap, ◌∙◌}
use Rattle.lu_grammar.specs.declared.bad.Bad.{Bad}
use Rattle.lu_grammar.specs.Bytes.{Cursor}
use Rattle.lu_grammar.specs.Parts.{vlong}
use Rattle.lu_grammar.specs.Reading.{◌>>=◌, read_part}
use Rattle.lu_grammar.specs.Records.{whole, part, read_shape}
use Rattle.lu_grammar.proofs.Loops.{read_shape-followed}
use Rattle.term_dict.specs.Entries.{TermRecord, entry_shape}
use Rattle.term_dict.specs.Index.{IndexEntry, index_shape}

-- an entry whose term and step were read, whose step was not, and whose term was not
pub point_of_parts : (interval : ℕ) (c d : Cursor) (e : TermRecord) (step : ℕ) (after : Cursor) → read_shape (entry_shape true interval) c ≡ Ok (e, d) → read_part vlong d ≡ Ok (step, after)
    → read_shape (index_shape interval) c ≡ Ok (record { term = e; step = step }, after)
point_of_parts interval c d e step after read last =
    read_shape-followed (entry_shape true interval) (λ x. part vlong (λ step. whole (record { term = x; step = step }))) c
    ∙ ap (λ (r : Result (TermRecord × Cursor) Bad). r >>= λ x. read_shape (part vlong (λ step. whole (entry_with x.0 step))) x.1) read
    ∙ ap (λ (r : Result (ℕ × Cursor) Bad). r >>= λ y. read_shape (whole (entry_with e y.0)) y.1) last
  where
    entry_with : TermRecord → ℕ → IndexEntry
    entry_with x step = record { term = x; step = step }

pub ruleset reading = (point_of_parts)
