-- The records of `.prx`, one for each occurrence (format page, "Positions").
use Rattle.std.specs.Prelude.{◌≡◌, ℕ, ◌/◌, Bool, ◌&&◌, List, Option, Result, Ok, Err, if◌then◌else◌}
use Rattle.lu_grammar.specs.declared.bad.Bad.{Bad}
use Rattle.lu_grammar.specs.Bytes.{Cursor}
use Rattle.lu_grammar.specs.Parts.{vint, num, bytes}
use Rattle.lu_grammar.specs.Records.{Shape, whole, part, optional, read_shape}
use Rattle.freq_skips.specs.Records.{alone, is_odd}
use Rattle.freq_skips.specs.Levels.{number_or}

-- an occurrence as it is spelled: its delta, the length of its payload where that is stated, and the payload
pub record OccurrenceRecord : Type 0 where
  pub delta : ℕ
  pub stated : Option ℕ
  pub payload : List ℕ

-- the length of the payload follows an odd delta, in a field with payloads
abbrev pub states_length : Bool → ℕ → Bool
states_length payloads delta = payloads && is_odd delta

-- how far the position is above the one before
abbrev pub position_gap : Bool → ℕ → ℕ
position_gap payloads delta = if payloads then delta / 2 else delta

-- the length in force after an occurrence: the stated one, or else the one before
abbrev pub length_after : ℕ → OccurrenceRecord → ℕ
length_after force r = number_or force r.stated

-- as many bytes of payload as the length that is then in force
abbrev pub payload_shape : ℕ → ℕ → Option ℕ → Shape OccurrenceRecord
payload_shape force delta stated = part (bytes (number_or force stated)) (λ payload. whole (record { delta = delta; stated = stated; payload = payload }))

-- an occurrence is a delta, the length of its payload where that follows, and the payload
abbrev pub occurrence_shape : Bool → ℕ → Shape OccurrenceRecord
occurrence_shape payloads force = part vint (λ delta. optional (states_length payloads delta) (alone num) (payload_shape force delta))

-- what a call answers of a length that is there where the test holds: what follows it is read at the new place; or the length is not read
abbrev pub GivesLength : Bool → Cursor → Cursor → Result (Option ℕ) Bad → Type 0
GivesLength test old new (Ok found) = (next : Option ℕ → Shape OccurrenceRecord) → read_shape (optional test (alone num) next) old ≡ read_shape (next found) new
GivesLength test old new (Err bad) = (next : Option ℕ → Shape OccurrenceRecord) → read_shape (optional test (alone num) next) old ≡ Err bad
