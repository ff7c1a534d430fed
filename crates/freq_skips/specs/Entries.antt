-- The entries of a term: what each stands for, and what it must meet.
use Rattle.std.specs.Prelude.{ℕ, ◌+◌, ◌/◌, Bool, not, ◌≡◌, List, [], ◌∷◌, ◌++◌, length, Result, Ok, Err, Option, Some, None, nat_lt, nat_le, ◌==◌, ◌&&◌, if◌then◌else◌, slice_index_or, map}
use Rattle.lu_types.specs.RuleNumbers as number
use Rattle.lu_grammar.specs.Bytes.{Cursor}
use Rattle.lu_grammar.specs.Records.{Condition}
use Rattle.lu_grammar.specs.Plans.{Plan, Kind, times, Broken, read_plan}
use Rattle.freq_skips.specs.declared.rules.RuledTerm.{RuledTerm}
use Rattle.freq_skips.specs.declared.entry.Entry.{Entry}
use Rattle.freq_skips.specs.Records.{Record, delta_of, stated_of, entry_shape}

-- a document that has the term: its number, how often the term stands in it, the document of the entry before (0 for the first), and the place where the entry starts
pub record Posting : Type 0 where
  pub doc : ℕ
  pub freq : ℕ
  pub before : ℕ
  pub place : ℕ

-- no posting
abbrev pub no_posting : Posting
no_posting = record { doc = 0; freq = 0; before = 0; place = 0 }

-- what the entries so far stand for: the document of the last (0 where there is none), and the postings
pub record EntriesSoFar : Type 0 where
  pub doc : ℕ
  pub postings : List Posting

-- before the first entry
abbrev pub no_entry : EntriesSoFar
no_entry = record { doc = 0; postings = [] }

-- how far the document is above the one before
abbrev pub gap : RuledTerm → ℕ → ℕ
gap t delta = if t.rules.omit_tf then delta else delta / 2

-- the stated frequency, or else 1
abbrev pub stated_or_one : Option ℕ → ℕ
stated_or_one None = 1
stated_or_one (Some n) = n

-- the posting of an entry that stands at a place, after a document
abbrev pub posting_of : RuledTerm → ℕ → ℕ → Record → Posting
posting_of t last place r = record { doc = last + gap t (delta_of r); freq = stated_or_one (stated_of r); before = last; place = place }

-- a frequency is stated and below 2
abbrev pub is_low : Option ℕ → Bool
is_low None = nat_lt 1 0
is_low (Some n) = nat_lt n 2

-- what is asked of an entry at a place, the first of its term or not, after a document
abbrev pub entry_conditions : RuledTerm → Bool → ℕ → ℕ → Record → List Condition
entry_conditions t first last place r =
    (record { rule = number.freq_start; broken = first && not (place == t.info.freq) })
    ∷ (record { rule = number.doc_order; broken = not first && (gap t (delta_of r) == 0) })
    ∷ (record { rule = number.doc_range; broken = nat_le t.rules.documents (last + gap t (delta_of r)) })
    ∷ (record { rule = number.freq; broken = is_low (stated_of r) })
    ∷ []

-- the entries so far with one more
abbrev pub with_posting : EntriesSoFar → Posting → EntriesSoFar
with_posting s p = record { doc = p.doc; postings = s.postings ++ p ∷ [] }

-- the entries of a term, which differ by what those before stand for
abbrev pub entry_kind : RuledTerm → Kind EntriesSoFar Record
entry_kind t = record {
  shape = λ s. entry_shape t;
  conditions = λ s place r. entry_conditions t (length s.postings == 0) s.doc place r;
  after = λ s place r. with_posting s (posting_of t s.doc place r);
}

-- so many entries, one for each document of the term
abbrev pub entries : RuledTerm → Plan EntriesSoFar Record
entries t = times (entry_kind t) t.info.doc_freq no_entry

-- what reading the entries answered, where they are good
abbrev pub read_postings : Result (EntriesSoFar × Cursor) Broken → List Posting
read_postings (Ok x) = x.0.postings
read_postings (Err b) = []

-- the postings of a term whose entries are good and start here
abbrev pub postings_from : RuledTerm → Cursor → List Posting
postings_from t start = read_postings (read_plan (entries t) start)

-- the entries of the term that start here are good, and end there
pub record AreEntries (t : RuledTerm) (start end : Cursor) : Type 0 where
  pub passed : EntriesSoFar
  pub reads : read_plan (entries t) start ≡ Ok (passed, end)

-- the entries of the term that start here are good
abbrev pub AreGoodFrom : RuledTerm → Cursor → Type 0
AreGoodFrom t start = (end : Cursor) × AreEntries t start end

-- from this start on so many entries are good; the last has this document, and the cursor is behind them
pub record IsBehindEntries (t : RuledTerm) (start : Cursor) (index doc : ℕ) (here : Cursor) : Type 0 where
  pub passed : EntriesSoFar
  pub reads : read_plan (times (entry_kind t) index no_entry) start ≡ Ok (passed, here)
  pub last : passed.doc ≡ doc
  pub count : length passed.postings ≡ index

-- the entry that stands next is the posting with this number
pub record IsNext (t : RuledTerm) (start : Cursor) (index : ℕ) (p : Posting) (next : Cursor) : Type 0 where
  pub stands : IsBehindEntries t start (index + 1) p.doc next
  pub posting : (end : Cursor) → AreEntries t start end → slice_index_or (postings_from t start) index no_posting ≡ p

-- the document of a posting, and how often the term stands in it
abbrev pub entry_of : Posting → Entry
entry_of p = record { doc = p.doc; freq = p.freq }

-- the entries of a term whose entries are good and start here
abbrev pub entries_from : RuledTerm → Cursor → List Entry
entries_from t start = map entry_of (postings_from t start)
