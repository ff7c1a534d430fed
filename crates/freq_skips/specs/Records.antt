-- The records of `.frq`: entries, lengths of skip levels, and skip data.
use Rattle.std.specs.Prelude.{◌≡◌, ℕ, ◌+◌, ◌%◌, Bool, not, Option, Some, None, length, Result, Ok, Err, nat_lt, ◌==◌, ◌&&◌}
use Rattle.freq_skips.specs.declared.rules.RuledTerm.{RuledTerm}
use Rattle.freq_skips.specs.declared.datum.Skip.{Skip}
use Rattle.lu_grammar.specs.Parts.{Part, Value, vint, num, vlong, spelling}
use Rattle.lu_grammar.specs.declared.bad.Bad.{Bad}
use Rattle.lu_grammar.specs.Bytes.{Cursor}
use Rattle.lu_grammar.specs.Records.{Shape, whole, part, optional, read_shape}

-- an entry with its delta and its frequency where that is stated; the length of a skip level; or a skip datum
pub data Record : Type 0 where
  entry : ℕ → Option ℕ → Record
  level_length : ℕ → Record
  datum : Skip → Record

-- the delta of an entry
abbrev pub delta_of : Record → ℕ
delta_of (entry delta stated) = delta
delta_of (level_length n) = 0
delta_of (datum d) = 0

-- its frequency, where that is stated
abbrev pub stated_of : Record → Option ℕ
stated_of (entry delta stated) = stated
stated_of (level_length n) = None
stated_of (datum d) = None

-- the length of a level
abbrev pub length_of : Record → ℕ
length_of (entry delta stated) = 0
length_of (level_length n) = n
length_of (datum d) = 0

-- nothing skipped
abbrev pub no_skip : Skip
no_skip = record { doc = 0; payload = None; freq = 0; prox = 0; child = None }

-- a skip datum
abbrev pub skip_of : Record → Skip
skip_of (entry delta stated) = no_skip
skip_of (level_length n) = no_skip
skip_of (datum d) = d

-- one part by itself
abbrev pub alone : (p : Part) → Shape (Value p)
alone p = part p (λ v. whole v)

-- a number that is odd
abbrev pub is_odd : ℕ → Bool
is_odd n = n % 2 == 1

-- the frequency follows an even delta, in a field that keeps frequencies
abbrev pub states_frequency : RuledTerm → ℕ → Bool
states_frequency t delta = not t.rules.omit_tf && not (is_odd delta)

-- the payload length follows an odd number of skipped documents, in a field with payloads
abbrev pub states_payload : RuledTerm → ℕ → Bool
states_payload t doc = t.rules.payloads && is_odd doc

-- an entry is a delta, and a frequency where one follows
abbrev pub entry_shape : RuledTerm → Shape Record
entry_shape t = part vint (λ delta. optional (states_frequency t delta) (alone num) (λ stated. whole (entry delta stated)))

-- the length of a level
abbrev pub length_shape : Shape Record
length_shape = part vlong (λ n. whole (level_length n))

-- a datum has a child pointer where its level is not the lowest
abbrev pub datum_shape : RuledTerm → ℕ → Shape Record
datum_shape t level = part vint (λ doc. optional (states_payload t doc) (alone num) (λ payload. part num (λ freq. part num (λ prox.
    optional (nat_lt 0 level) (alone vlong) (λ child. whole (datum (record { doc = doc; payload = payload; freq = freq; prox = prox; child = child })))))))

-- how many bytes a number takes that may be there
abbrev pub optional_length : (p : Part) → Option (Value p) → ℕ
optional_length p None = 0
optional_length p (Some v) = length (spelling p v)

-- how many bytes a datum takes up to its child pointer
abbrev pub length_to_child : Skip → ℕ
length_to_child d = length (spelling vint d.doc) + optional_length num d.payload + length (spelling num d.freq) + length (spelling num d.prox)

-- how many bytes a datum takes
abbrev pub datum_length : Skip → ℕ
datum_length d = length_to_child d + optional_length vlong d.child

-- what a call answers of a part that is there where the test holds: what follows it is read at the new place; or the part is not read
abbrev pub GivesPart : Bool → (p : Part) → Cursor → Cursor → Result (Option (Value p)) Bad → Type 0
GivesPart test p old new (Ok found) = (next : Option (Value p) → Shape Record) → read_shape (optional test (alone p) next) old ≡ read_shape (next found) new
GivesPart test p old new (Err bad) = (next : Option (Value p) → Shape Record) → read_shape (optional test (alone p) next) old ≡ Err bad
