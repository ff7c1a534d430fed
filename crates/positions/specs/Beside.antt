-- What is written of the occurrences of a term beside its entries.
use Rattle.std.specs.Prelude.{◌≡◌, ◌<◌, ◌≤◌, ℕ, false, List, [], length, take, slice_index_or}
use Rattle.lu_types.specs.Occurrences.{Occurrence}
use Rattle.freq_skips.specs.declared.rules.RuledTerm.{RuledTerm}
use Rattle.freq_skips.specs.declared.writer.Handed.{Handed}
use Rattle.freq_skips.specs.Written.{no_handed}
use Rattle.positions.specs.Written.{occurrences_bytes, AreGoodOccurrences}

-- the occurrences of each entry are as many as the frequency that is handed to the writer of entries, and it is handed the bytes that the entries before have, as `begin_doc` answers them
pub record IsBeside (t : RuledTerm) (handed : List Handed) (written : List ℕ) (entries : List (List Occurrence)) : Type 0 where
  pub interval : 2 ≤ t.rules.skip_interval
  pub kept : t.rules.omit_tf ≡ false
  pub starts : length written ≡ t.info.prox
  pub count : length entries ≡ t.info.doc_freq
  pub as_many : length handed ≡ length entries
  pub some : (k : ℕ) → k < length entries → 0 < length (slice_index_or entries k [])
  pub documents : (k : ℕ) → k < length entries → AreGoodOccurrences t.rules.payloads 0 (slice_index_or entries k [])
  pub each : (k : ℕ) → k < length entries → ((slice_index_or handed k no_handed).freq ≡ length (slice_index_or entries k [])) × ((slice_index_or handed k no_handed).prox ≡ length (occurrences_bytes t.rules.payloads (take k entries)))
