-- So many occurrences of a term are good, and are read again.
use Rattle.std.specs.Prelude.{◌≡◌, ℕ, zero, suc, ◌+◌, Bool, [], Ok, length}
use Rattle.lu_grammar.specs.Bytes.{Cursor}
use Rattle.lu_grammar.specs.Plans.{Kind, times, read_plan}
use Rattle.positions.specs.Records.{OccurrenceRecord, occurrence_shape, length_after}
use Rattle.positions.specs.Occurrences.{PostedTerm, Held, count_at, occurrence_kind, entries_plan}

-- occurrences that are passed over, of which the payload length in force alone is kept
abbrev pub passed_kind : Bool → Kind ℕ OccurrenceRecord
passed_kind payloads = record { shape = λ force. occurrence_shape payloads force; conditions = λ force place r. []; after = λ force place r. length_after force r }

-- how many occurrences so many entries have
abbrev pub count_before : PostedTerm → ℕ → ℕ
count_before p zero = 0
count_before p (suc n) = count_before p n + count_at p n

-- from this start on so many occurrences stand, behind which this payload length is in force
pub record Skims (payloads : Bool) (start : Cursor) (count force : ℕ) (here : Cursor) : Type 0 where
  pub reads : read_plan (times (passed_kind payloads) count 0) start ≡ Ok (force, here)

-- from this start on the occurrences of so many entries are good, and so many of the next one; this payload length is in force, the last of them has this position (0 at the start of an entry), and the cursor is behind them
pub record StandsIn (p : PostedTerm) (start : Cursor) (passed count force position : ℕ) (here : Cursor) : Type 0 where
  pub mid : Held
  pub behind : Cursor
  pub held : Held
  pub entries_read : read_plan (entries_plan p passed) start ≡ Ok (mid, behind)
  pub reads : read_plan (times (occurrence_kind p) count mid) behind ≡ Ok (held, here)
  pub fresh : mid.now ≡ []
  pub begun : length mid.before ≡ passed
  pub force_is : held.force ≡ force
  pub position_is : held.position ≡ position
  pub now_is : length held.now ≡ count
  pub before_is : held.before ≡ mid.before
  pub skims : Skims p.term.rules.payloads start (count_before p passed + count) force here

-- passing over so many occurrences leads there, where they stand
pub record PassesOver (payloads : Bool) (count force : ℕ) (here : Cursor) (force_behind : ℕ) (behind : Cursor) : Type 0 where
  pub leads : (f : ℕ) (d : Cursor) → read_plan (times (passed_kind payloads) count force) here ≡ Ok (f, d) → (force_behind ≡ f) × (behind ≡ d)
