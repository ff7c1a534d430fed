-- What the steps of a check answer.
use Rattle.std.specs.Prelude.{◌≡◌, ℕ, ◌<◌, ◌≤◌, ◌^◌, List, length, Option, Some, None, Result, Ok, Err, slice_index_or}
use Rattle.lu_grammar.specs.Bytes.{Cursor}
use Rattle.lu_grammar.specs.Records.{record_at}
use Rattle.lu_grammar.specs.Plans.{Plan, Broken, Kind}
use Rattle.term_dict.specs.declared.heading.Heading.{Heading}
use Rattle.lu_types.specs.declared.term.TermNumbers.{TermNumbers}
use Rattle.term_dict.specs.Headings.{header, heading_conditions, numbers_of, Line, heading, entry, heading_of}
use Rattle.term_dict.specs.Entries.{TermRecord}
use Rattle.term_dict.specs.Terms.{DictionaryTerm, no_term, last_term, term_after}
use Rattle.term_dict.specs.Dictionary.{TermConditions, Progress, term_kind}

-- a rule is broken at a place
abbrev pub broken_so : ℕ → ℕ → Result (Unit {0}) Broken
broken_so place rule = Err (record { offset = place; rule = rule })

-- what stands at a cursor: a good record, or the first rule that is broken
abbrev pub record_of : {S R : Type 0} → Kind S R → S → Cursor → Result (R × Cursor) ℕ
record_of kind s c = record_at (kind.shape s) (kind.conditions s c.place) c

-- the numbers of a file of terms are within their limits
pub record AreBounded (numbers : TermNumbers) : Type 0 where
  pub count : numbers.count < 2 ^ 31
  pub index_interval : (1 ≤ numbers.index_interval) × (numbers.index_interval < 2 ^ 31)
  pub skip_interval : (2 ≤ numbers.skip_interval) × (numbers.skip_interval < 2 ^ 31)
  pub max_levels : (1 ≤ numbers.max_levels) × (numbers.max_levels < 2 ^ 31)

-- the numbers of a good header between two places, which are within their limits; or the rule is broken first
abbrev pub IsHeader : Cursor → Cursor → Result TermNumbers ℕ → Type 0
IsHeader old new (Ok numbers) = (h : Heading) × (record_at {R = Line TermRecord} header (λ line. heading_conditions (heading_of line)) old ≡ Ok (heading h, new)) × (numbers ≡ numbers_of h) × AreBounded numbers
IsHeader old new (Err rule) = record_at {R = Line TermRecord} header (λ line. heading_conditions (heading_of line)) old ≡ Err rule

-- after these terms the entry of this last one stands between two places and is good; or the rule is broken first
abbrev pub IsNextTerm : TermConditions → ℕ → Progress → Cursor → Cursor → DictionaryTerm → Option ℕ → Type 0
IsNextTerm standing interval s old new last None = (e : TermRecord) × (record_of (term_kind standing interval) s old ≡ Ok (entry e, new)) × (last ≡ term_after (last_term s.terms) e)
IsNextTerm standing interval s old new last (Some rule) = record_of (term_kind standing interval) s old ≡ Err rule

-- no text is longer
abbrev pub AreWithin : ℕ → List DictionaryTerm → Type 0
AreWithin longest terms = (i : ℕ) → length (slice_index_or terms i no_term).text ≤ longest
