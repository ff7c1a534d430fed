-- The occurrences of a term beside its entries: where their cursor stands, or where it has yet to jump.
use Rattle.std.specs.Prelude.{◌≡◌, ℕ, ◌+◌, ◌≤◌, List, [], Option, Some, None, Result, Ok, Err}
use Rattle.lu_grammar.specs.Bytes.{Cursor, place_in}
use Rattle.lu_grammar.specs.Plans.{Broken, read_plan}
use Rattle.lu_types.specs.Occurrences.{Occurrence}
use Rattle.freq_skips.specs.declared.rules.RuledTerm.{RuledTerm}
use Rattle.freq_skips.specs.declared.skip_point.SkipPoint.{SkipPoint}
use Rattle.freq_skips.specs.Terms.{TermData}
use Rattle.freq_skips.specs.Points.{IsPoint}
use Rattle.positions.specs.Standing.{count_before}
use Rattle.positions.specs.Terms.{term_plan}
use Rattle.positions.specs.Cursors.{CursorState, posted_term, IsPointIn, IsAmong}
use Rattle.check_index.specs.Positions.{TermOccurrences}
use Rattle.seg_reader.specs.declared.beside.Beside.{Beside}

-- what reading occurrences answered, where they are good
abbrev pub read_occurrences : Result (TermOccurrences × Cursor) Broken → TermOccurrences
read_occurrences (Ok x) = x.0
read_occurrences (Err b) = []

-- the occurrences that the bytes at the place of the term stand for, entry by entry
abbrev pub occurrences_read : RuledTerm → TermData → List ℕ → TermOccurrences
occurrences_read t value prx = read_occurrences (read_plan (term_plan (posted_term t value)) (place_in prx t.info.prox))

-- the cursor stands among the occurrences of a term, of which so many entries are passed; or it has yet to jump there
abbrev pub LeadsTo : RuledTerm → TermData → TermOccurrences → ℕ → Option SkipPoint → CursorState → Type 0
LeadsTo t value all passed None c = (left : List Occurrence) × IsAmong t value all passed left c
LeadsTo t value all passed (Some point) c = (point.passed ≡ passed) × IsPoint t value point
    × ((before : ℕ) × (left : List Occurrence) × IsAmong t value all before left c)

-- the occurrences up to so many entries are counted, from where the cursor stands once it has jumped; it is not behind the reach
pub record IsBeside (t : RuledTerm) (value : TermData) (all : TermOccurrences) (reach entries between : ℕ) (b : Beside) : Type 0 where
  pub passed : ℕ
  pub leads : LeadsTo t value all passed b.ahead b.occurrences
  pub within : passed ≤ reach
  pub counts : count_before (posted_term t value) entries ≡ count_before (posted_term t value) passed + between

-- the point to which the cursor has yet to jump is one of its term
abbrev pub CanJump : Option SkipPoint → CursorState → Type 0
CanJump None c = Unit {0}
CanJump (Some point) c = IsPointIn c.term c.prx point
