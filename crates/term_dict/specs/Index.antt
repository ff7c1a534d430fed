-- The sparse index of a file of terms: its records, given the terms.
use Rattle.std.specs.Prelude.{ℕ, zero, suc, ◌+◌, ◌-◌, ◌*◌, ◌/◌, pos, Bool, true, not, ◌&&◌, ◌==◌, List, [], ◌∷◌, length, nat_lt, slice_index, slice_index_or}
use Rattle.std.specs.Ordering.{int_eq}
use Rattle.std.specs.Str.{bytes_eq}
use Rattle.lu_grammar.specs.Parts.{vlong}
use Rattle.lu_grammar.specs.Records.{Shape, whole, part, followed, Condition}
use Rattle.lu_grammar.specs.Plans.{Plan, done, due, and_then, Kind, times}
use Rattle.lu_types.specs.declared.term.TermInfo.{TermInfo}
use Rattle.lu_types.specs.RuleNumbers as number
use Rattle.term_dict.specs.declared.heading.Heading.{Heading}
use Rattle.lu_types.specs.declared.term.TermNumbers.{TermNumbers}
use Rattle.term_dict.specs.Headings.{header, is_other_format, Line, entry, heading_of, on_entry}
use Rattle.term_dict.specs.Entries.{TermRecord, entry_shape}
use Rattle.term_dict.specs.Terms.{DictionaryTerm, no_term, term_after}
use Rattle.term_dict.specs.Dictionary.{Dictionary}

-- the record of an entry: a term, and how far the place is above that of the entry before
pub record IndexEntry : Type 0 where
  pub term : TermRecord
  pub step : ℕ

-- its parts
abbrev pub index_shape : ℕ → Shape IndexEntry
index_shape interval = followed (entry_shape true interval) (λ e. part vlong (λ step. whole (record { term = e; step = step })))

-- how many entries there are: one for each interval of terms that has intervals_begun
abbrev pub entry_count : TermNumbers → ℕ
entry_count numbers = (numbers.count + (numbers.index_interval - 1)) / numbers.index_interval

-- what entry 0 stands for: no text, field -1, no document, and both places 0
abbrev pub blank : DictionaryTerm
blank = record { text = []; info = record { field = 4294967295; doc_freq = 0; freq = 0; prox = 0; skip = 0 } }

-- the last of so many terms, and of none the blank one
abbrev pub point_after : List DictionaryTerm → ℕ → DictionaryTerm
point_after terms zero = blank
point_after terms (suc n) = slice_index_or terms n no_term

-- what an entry stands for: the term before each interval of terms begins
abbrev pub index_entry_term : Dictionary → ℕ → DictionaryTerm
index_entry_term d i = point_after d.terms (i * d.numbers.index_interval)

-- where this interval of terms starts
abbrev pub indexed_place : Dictionary → ℕ → ℕ
indexed_place d i = slice_index d.starts (i * d.numbers.index_interval)

-- two terms have the same text, and the same is said of them
abbrev pub same_info : TermInfo → TermInfo → Bool
same_info a b = a.field == b.field && a.doc_freq == b.doc_freq && a.freq == b.freq && a.prox == b.prox && a.skip == b.skip

abbrev pub same_term : DictionaryTerm → DictionaryTerm → Bool
same_term a b = bytes_eq a.text b.text && same_info a.info b.info

-- how many entries were passed, the term of the last, and its place
pub record IndexProgress : Type 0 where
  pub passed : ℕ
  pub last : DictionaryTerm
  pub place : ℕ

-- before the first entry
abbrev pub no_entries : IndexProgress
no_entries = record { passed = 0; last = no_term; place = 0 }

-- one entry more
abbrev pub with_entry : IndexProgress → IndexEntry → IndexProgress
with_entry s e = record { passed = s.passed + 1; last = term_after s.last e.term; place = s.place + e.step }

-- the three numbers after the count are those of the terms
abbrev pub same_intervals : Heading → TermNumbers → Bool
same_intervals h numbers = int_eq h.index_interval (pos numbers.index_interval) && int_eq h.skip_interval (pos numbers.skip_interval) && int_eq h.max_levels (pos numbers.max_levels)

-- the conditions against the header of the index
abbrev pub index_heading_conditions : TermNumbers → Heading → List Condition
index_heading_conditions numbers h =
    record { rule = number.tii_format; broken = is_other_format h } ∷
    record { rule = number.tii_count; broken = not (int_eq h.count (pos (entry_count numbers))) } ∷
    record { rule = number.tii_intervals; broken = not (same_intervals h numbers) } ∷
    []

-- the conditions against an entry after this last term and place, which is to stand for the wanted term and place
abbrev pub index_against : DictionaryTerm → ℕ → IndexEntry → DictionaryTerm → ℕ → List Condition
index_against last place e wanted wanted_place =
    record { rule = number.tii_prefix; broken = nat_lt (length last.text) e.term.prefix } ∷
    record { rule = number.tii_term; broken = not (same_term (term_after last e.term) wanted) } ∷
    record { rule = number.tii_place; broken = not (place + e.step == wanted_place) } ∷
    []

-- the conditions against the next entry
abbrev pub index_conditions : Dictionary → IndexProgress → IndexEntry → List Condition
index_conditions d s e = index_against s.last s.place e (index_entry_term d s.passed) (indexed_place d s.passed)

-- the records of entries
abbrev pub index_kind : Dictionary → Kind IndexProgress (Line IndexEntry)
index_kind d = record {
  shape = λ s. followed (index_shape d.numbers.skip_interval) (λ e. whole (entry e));
  conditions = λ s place line. on_entry [] (index_conditions d s) line;
  after = λ s place line. on_entry s (with_entry s) line;
}

-- as many entries as there are intervals; they stand for nothing that the terms do not say
abbrev pub entries_plan : Dictionary → Plan (Unit {0}) (Line IndexEntry)
entries_plan d = and_then (times (index_kind d) (entry_count d.numbers) no_entries) (λ s. done tt)

-- the index of these terms
abbrev pub tii_plan : Dictionary → Plan (Unit {0}) (Line IndexEntry)
tii_plan d = due header (λ place line. index_heading_conditions d.numbers (heading_of line)) (λ place line. entries_plan d)
