-- A writer of `.frq`: what it was handed, and the bytes of a term as a function of its entries.
use Rattle.std.specs.Prelude.{◌≡◌, ◌^◌, true, ◌<◌, ◌≤◌, ◌-◌, ◌*◌, ℕ, suc, Bool, List, [], ◌∷◌, ◌++◌, length, ◌==◌, if◌then◌else◌, slice_index_or}
use Rattle.freq_skips.specs.declared.rules.RuledTerm.{RuledTerm}
use Rattle.freq_skips.specs.declared.writer.Mark.{Mark}
use Rattle.freq_skips.specs.declared.datum.Point.{Point}
use Rattle.freq_skips.specs.Levels.{greatest_power, level_count, stride, data_count, no_point}
use Rattle.freq_skips.specs.Terms.{TermData}
use Rattle.freq_skips.specs.Written.{Handed, no_handed, AreInOrder, entries_bytes, written_postings, mark_of, SkipLevel, skip_level, skip_bytes}

-- a file that is written: the interval and the most levels of its terms; the bytes of the terms before the one that is begun; of that term whether its field has no frequencies, whether it has
-- payloads, and the entries that were handed over
pub record FrqWriting : Type 0 where
  pub interval : ℕ
  pub most : ℕ
  pub bytes : List ℕ
  pub omit : Bool
  pub payloads : Bool
  pub entries : List Handed

-- the bytes so far: those before the term, and its entries
abbrev pub bytes_so_far : FrqWriting → List ℕ
bytes_so_far w = w.bytes ++ entries_bytes w.omit 0 w.entries

-- a term is begun
abbrev pub entries_begun : FrqWriting → Bool → Bool → FrqWriting
entries_begun w omit payloads = record { interval = w.interval; most = w.most; bytes = w.bytes; omit = omit; payloads = payloads; entries = [] }

-- an entry is added
abbrev pub entry_added : FrqWriting → Handed → FrqWriting
entry_added w h = record { interval = w.interval; most = w.most; bytes = w.bytes; omit = w.omit; payloads = w.payloads; entries = w.entries ++ h ∷ [] }

-- how many skip levels the term has
abbrev pub levels_due : FrqWriting → ℕ
levels_due w = greatest_power w.interval (length w.entries) w.most

-- its lowest level
abbrev pub lowest : FrqWriting → SkipLevel
lowest w = skip_level w.omit w.payloads w.interval w.entries 0

-- its skip data
abbrev pub skips : FrqWriting → List ℕ
skips w = skip_bytes (levels_due w) (lowest w)

-- the bytes of the term: its entries, and then its skip levels, the highest first
abbrev pub term_bytes : FrqWriting → List ℕ
term_bytes w = entries_bytes w.omit 0 w.entries ++ skips w

-- the term is finished
abbrev pub finished : FrqWriting → FrqWriting
finished w = record { interval = w.interval; most = w.most; bytes = w.bytes ++ term_bytes w; omit = w.omit; payloads = w.payloads; entries = [] }

-- how far its skip data start behind its first entry, or 0 where it has none
abbrev pub skip_delta : FrqWriting → ℕ
skip_delta w = if levels_due w == 0 then 0 else length (entries_bytes w.omit 0 w.entries)

-- the bytes of positions do not fall from entry to entry
abbrev pub IsRisingProx : List Handed → Type 0
IsRisingProx handed = (j k : ℕ) → j ≤ k → k < length handed → ((slice_index_or handed j no_handed).prox ≤ (slice_index_or handed k no_handed).prox) × ((slice_index_or handed k no_handed).prox < 2 ^ 31)

-- the bytes of positions before an entry, of which a field without frequencies has none
abbrev pub prox_of : Bool → List Handed → ℕ → ℕ
prox_of omit handed k = if omit then 0 else (slice_index_or handed k no_handed).prox

-- the term that a writer is to finish: what the dictionary is to say of it, in a segment with so many documents
abbrev pub term_written : FrqWriting → ℕ → ℕ → ℕ → RuledTerm
term_written w documents field prox = record {
  info = record { field = field; doc_freq = length w.entries; freq = length w.bytes; prox = prox; skip = skip_delta w };
  rules = record { documents = documents; skip_interval = w.interval; max_levels = w.most; omit_tf = w.omit; payloads = w.payloads };
}

-- what a writer may finish: entries in order of documents below so many, with bytes of positions that do not fall
pub record IsFinishable (w : FrqWriting) (documents : ℕ) : Type 0 where
  pub interval : 2 ≤ w.interval
  pub order : AreInOrder documents true 0 w.entries
  pub prox : IsRisingProx w.entries
  pub small : length (bytes_so_far w) < 2 ^ 31
  pub skips_small : length (skips w) < 2 ^ 63

-- a datum leads where a mark does, and no payload length is carried there
abbrev pub LeadsTo : Point → Mark → Type 0
LeadsTo p k = (p.doc ≡ k.doc) × (p.freq ≡ k.freq) × (p.prox ≡ k.prox) × (p.payload ≡ 0)

-- what a term's bytes stand for is what was handed over: these postings, and on each level, for each datum, the mark of the entry that it belongs to
pub record IsAsHanded (t : RuledTerm) (handed : List Handed) (value : TermData) : Type 0 where
  pub postings : value.postings ≡ written_postings t.rules.omit_tf t.info.freq 0 handed
  pub leads : (n m : ℕ) → n < level_count t → m < data_count t n → LeadsTo (slice_index_or (slice_index_or value.levels n []) m no_point) (mark_of t.rules.omit_tf handed (suc m * stride t n - 1))
