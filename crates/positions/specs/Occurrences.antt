-- The occurrences of a term: what each stands for, and what it must meet (format page, "Positions").
use Rattle.std.specs.Prelude.{ℕ, zero, suc, ◌+◌, ◌-◌, ◌/◌, ◌%◌, ◌^◌, Bool, false, not, ◌||◌, ◌&&◌, ◌==◌, nat_le, List, [], ◌∷◌, ◌++◌, length, if◌then◌else◌, slice_index_or}
use Rattle.lu_types.specs.RuleNumbers as number
use Rattle.lu_types.specs.Occurrences.{Occurrence}
use Rattle.lu_grammar.specs.Records.{Condition}
use Rattle.lu_grammar.specs.Plans.{Plan, done, and_then, Kind, times, each}
use Rattle.freq_skips.specs.declared.rules.RuledTerm.{RuledTerm}
use Rattle.freq_skips.specs.declared.datum.Point.{Point}
use Rattle.freq_skips.specs.Records.{is_odd}
use Rattle.freq_skips.specs.Entries.{no_posting}
use Rattle.freq_skips.specs.Levels.{level_count, stride}
use Rattle.freq_skips.specs.Terms.{TermData}
use Rattle.freq_skips.specs.Walks.{point_at}
use Rattle.positions.specs.declared.due.DueOccurrence.{DueOccurrence}
use Rattle.positions.specs.Records.{OccurrenceRecord, position_gap, length_after, occurrence_shape}

-- a term with what its part of `.frq` stands for
pub record PostedTerm : Type 0 where
  pub term : RuledTerm
  pub value : TermData

-- what the occurrences so far stand for: the payload length in force, the position of the last one (0 at the start of a document), those of the document that is read, and those of the documents before
pub record Held : Type 0 where
  pub force : ℕ
  pub position : ℕ
  pub now : List Occurrence
  pub before : List (List Occurrence)

-- before the first occurrence
abbrev pub nothing_held : Held
nothing_held = record { force = 0; position = 0; now = []; before = [] }

-- the occurrence that a record stands for, after a position
abbrev pub occurrence_of : RuledTerm → ℕ → OccurrenceRecord → Occurrence
occurrence_of t last r = record { position = last + position_gap t.rules.payloads r.delta; payload = r.payload }

-- the occurrences so far with one more
abbrev pub with_occurrence : RuledTerm → Held → OccurrenceRecord → Held
with_occurrence t s r = record {
  force = length_after s.force r;
  position = s.position + position_gap t.rules.payloads r.delta;
  now = s.now ++ occurrence_of t s.position r ∷ [];
  before = s.before;
}

-- a document is at its end
abbrev pub closed : Held → Held
closed s = record { force = s.force; position = 0; now = []; before = s.before ++ s.now ∷ [] }

-- a test holds of a number below another
abbrev pub any_below : (ℕ → Bool) → ℕ → Bool
any_below test zero = false
any_below test (suc n) = any_below test n || test n

-- a level has a datum for the last of so many entries
abbrev pub has_datum : RuledTerm → ℕ → ℕ → Bool
has_datum t passed level = passed % stride t level == 0

-- where the datum of a level leads that belongs to the last of so many entries
abbrev pub datum_at : PostedTerm → ℕ → ℕ → Point
datum_at p passed level = point_at p.value level (passed / stride p.term level - 1)

-- a datum for the last of so many entries tells another sum of bytes of positions
abbrev pub tells_other_sum : PostedTerm → ℕ → ℕ → ℕ → Bool
tells_other_sum p passed so_far level = has_datum p.term passed level && not ((datum_at p passed level).prox == so_far)

-- a datum for the last of so many entries carries another payload length
abbrev pub carries_other_length : PostedTerm → ℕ → ℕ → ℕ → Bool
carries_other_length p passed force level = has_datum p.term passed level && not ((datum_at p passed level).payload == force)

-- an even delta does not restate the payload length, although on some level a datum for the last of so many entries carries another
abbrev pub is_misled : PostedTerm → ℕ → ℕ → ℕ → Bool
is_misled p passed force delta = p.term.rules.payloads && not (is_odd delta) && any_below (carries_other_length p passed force) (level_count p.term)

-- what is asked of an occurrence with a delta
abbrev pub occurrence_conditions : PostedTerm → DueOccurrence → ℕ → List Condition
occurrence_conditions p d delta =
    (record { rule = number.prox_start; broken = d.first && (d.index == 0) && not (d.place == p.term.info.prox) })
    ∷ (record { rule = number.position; broken = nat_le (2 ^ 31) (d.position + position_gap p.term.rules.payloads delta) })
    ∷ (record { rule = number.skip_prox; broken = d.first && any_below (tells_other_sum p (d.index + 1) (d.place - p.term.info.prox)) (level_count p.term) })
    ∷ (record { rule = number.skip_payload; broken = d.first && is_misled p (d.index + 1) d.force delta })
    ∷ []

-- what is known of an occurrence, by its parts
abbrev pub due_with : Bool → ℕ → ℕ → ℕ → ℕ → DueOccurrence
due_with first index force position place = record { first = first; index = index; force = force; position = position; place = place }

-- what is known of the occurrence that is due at a place
abbrev pub due_of : Held → ℕ → DueOccurrence
due_of s place = due_with (length s.now == 0) (length s.before) s.force s.position place

-- the occurrences of a term, which differ by those before
abbrev pub occurrence_kind : PostedTerm → Kind Held OccurrenceRecord
occurrence_kind p = record {
  shape = λ s. occurrence_shape p.term.rules.payloads s.force;
  conditions = λ s place r. occurrence_conditions p (due_of s place) r.delta;
  after = λ s place r. with_occurrence p.term s r;
}

-- how many occurrences of the entry with an index stand in the file: as many as its frequency, none in a field without positions
abbrev pub count_at : PostedTerm → ℕ → ℕ
count_at p index = if p.term.rules.omit_tf then 0 else (slice_index_or p.value.postings index no_posting).freq

-- the occurrences of the entry that is due
abbrev pub entry_plan : PostedTerm → Held → Plan Held OccurrenceRecord
entry_plan p s = and_then (times (occurrence_kind p) (count_at p (length s.before)) s) (λ held. done (closed held))

-- the occurrences of so many entries
abbrev pub entries_plan : PostedTerm → ℕ → Plan Held OccurrenceRecord
entries_plan p n = each (entry_plan p) n nothing_held
