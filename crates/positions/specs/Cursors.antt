-- A cursor over the occurrences of a term, and where it stands.
use Rattle.std.specs.Prelude.{◌≡◌, ℕ, suc, ◌+◌, ◌-◌, ◌*◌, ◌<◌, ◌≤◌, ◌⊎◌, Bool, true, false, List, [], ◌∷◌, length, drop, Ok, slice_index_or}
use Rattle.lu_grammar.specs.Bytes.{Cursor, place_in}
use Rattle.lu_grammar.specs.Parts.{vint}
use Rattle.lu_grammar.specs.Reading.{read_part}
use Rattle.lu_grammar.specs.Meaning.{ReadsTo}
use Rattle.lu_types.specs.Occurrences.{Occurrence}
use Rattle.freq_skips.specs.declared.rules.RuledTerm.{RuledTerm}
use Rattle.freq_skips.specs.declared.skip_point.SkipPoint.{SkipPoint}
use Rattle.freq_skips.specs.Terms.{TermData, term_plan as frq_term_plan}
use Rattle.freq_skips.specs.Points.{IsPoint}
use Rattle.positions.specs.Records.{states_length}
use Rattle.positions.specs.Occurrences.{PostedTerm, count_at}
use Rattle.positions.specs.Terms.{term_plan}
use Rattle.positions.specs.Standing.{StandsIn}

-- a cursor: the term, the bytes of the file, the place in them, the payload length in force, the position of the occurrence before, and how many occurrences of the open document are left
pub record CursorState : Type 0 where
  pub term : RuledTerm
  pub prx : List ℕ
  pub here : Cursor
  pub force : ℕ
  pub position : ℕ
  pub left : ℕ

-- a term with what its part of `.frq` stands for
abbrev pub posted_term : RuledTerm → TermData → PostedTerm
posted_term t value = record { term = t; value = value }

-- the term stands in both files: in some bytes its part of `.frq` stands for this value, and in these its part of `.prx` for these occurrences, entry by entry
pub record StandsInBoth (t : RuledTerm) (value : TermData) (prx : List ℕ) (occurrences : List (List Occurrence)) : Type 0 where
  pub interval : 2 ≤ t.rules.skip_interval
  pub frq : List ℕ
  pub behind : Cursor
  pub entries : ReadsTo (frq_term_plan t) (place_in frq t.info.freq) value behind
  pub end : Cursor
  pub reads : ReadsTo (term_plan (posted_term t value)) (place_in prx t.info.prox) occurrences end
  pub within : t.rules.omit_tf ≡ false → t.info.prox ≤ length prx

-- the point is one of a term that stands in both files
pub record IsPointIn (t : RuledTerm) (prx : List ℕ) (point : SkipPoint) : Type 0 where
  pub value : TermData
  pub occurrences : List (List Occurrence)
  pub good : StandsInBoth t value prx occurrences
  pub is_point : IsPoint t value point

-- the occurrence that stands here states its payload length
abbrev pub StatesLength : Bool → Cursor → Type 0
StatesLength payloads here = (delta : ℕ) × (next : Cursor) × (read_part vint here ≡ Ok (delta, next)) × (states_length payloads delta ≡ true)

-- this payload length is in force, or else the occurrence that stands next states its own
abbrev pub Agrees : Bool → ℕ → ℕ → Cursor → Type 0
Agrees payloads found force here = (found ≡ force) ⊎ StatesLength payloads here

-- the cursor stands where so many entries are passed
pub record StandsAtEntry (p : PostedTerm) (passed : ℕ) (c : CursorState) : Type 0 where
  pub force : ℕ
  pub position : ℕ
  pub stands : StandsIn p (place_in c.prx p.term.info.prox) passed 0 force position c.here
  pub agrees : Agrees p.term.rules.payloads c.force force c.here

-- the cursor stands in an entry of which these occurrences are left
pub record StandsAmong (p : PostedTerm) (occurrences : List (List Occurrence)) (passed : ℕ) (left : List Occurrence) (c : CursorState) : Type 0 where
  pub entry : ℕ
  pub count : ℕ
  pub force : ℕ
  pub stands : StandsIn p (place_in c.prx p.term.info.prox) entry count force c.position c.here
  pub agrees : Agrees p.term.rules.payloads c.force force c.here
  pub passed_is : passed ≡ entry + 1
  pub within : entry < p.term.info.doc_freq
  pub due : count + length left ≡ count_at p entry
  pub left_is : drop count (slice_index_or occurrences entry []) ≡ left

-- where the cursor stands, by what is left of the entry that is open
abbrev pub StandsWith : PostedTerm → List (List Occurrence) → ℕ → List Occurrence → CursorState → Type 0
StandsWith p occurrences passed [] c = p.term.rules.omit_tf ≡ false → StandsAtEntry p passed c
StandsWith p occurrences passed (o ∷ os) c = StandsAmong p occurrences passed (o ∷ os) c

-- the cursor stands among these occurrences of a term: so many entries are passed, an open one among them, and these occurrences of that one are left
pub record IsAmong (t : RuledTerm) (value : TermData) (occurrences : List (List Occurrence)) (passed : ℕ) (left : List Occurrence) (c : CursorState) : Type 0 where
  pub term_is : c.term ≡ t
  pub good : StandsInBoth t value c.prx occurrences
  pub count : c.left ≡ length left
  pub within : passed ≤ t.info.doc_freq
  pub stands : StandsWith (posted_term t value) occurrences passed left c
