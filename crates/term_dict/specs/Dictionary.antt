-- The file of terms: its records, and what they stand for.
use Rattle.std.specs.Prelude.{ℕ, ◌^◌, Bool, false, not, ◌||◌, ◌==◌, List, [], ◌∷◌, ◌++◌, length, nat_lt, nat_le}
use Rattle.std.specs.Str.{is_utf8}
use Rattle.lu_grammar.specs.Records.{whole, followed, Condition}
use Rattle.lu_grammar.specs.Plans.{Plan, done, due, and_then, Kind, times}
use Rattle.lu_types.specs.RuleNumbers as number
use Rattle.lu_types.specs.Tables.{TableField}
use Rattle.lu_types.specs.declared.term.TermNumbers.{TermNumbers}
use Rattle.term_dict.specs.Headings.{header, heading_conditions, numbers_of, Line, entry, heading_of, on_entry}
use Rattle.term_dict.specs.Entries.{TermRecord, entry_shape}
use Rattle.term_dict.specs.Terms.{DictionaryTerm, last_term, term_after, is_indexed, is_above}

-- what a file of terms stands for: its numbers, its terms, where the record of each starts, and the length of the file
pub record Dictionary : Type 0 where
  pub numbers : TermNumbers
  pub terms : List DictionaryTerm
  pub starts : List ℕ
  pub size : ℕ

-- the terms so far, and where the record of each starts
pub record Progress : Type 0 where
  pub terms : List DictionaryTerm
  pub starts : List ℕ

-- before the first term
abbrev pub no_terms : Progress
no_terms = record { terms = []; starts = [] }

-- one term more, whose record starts at this place
abbrev pub with_term : Progress → ℕ → TermRecord → Progress
with_term s place e = record { terms = s.terms ++ term_after (last_term s.terms) e ∷ []; starts = s.starts ++ place ∷ [] }

-- what a term must meet in its segment, given the terms before it
abbrev pub TermConditions : Type 0
TermConditions = List DictionaryTerm → DictionaryTerm → List Condition

-- nothing
abbrev pub anywhere : TermConditions
anywhere before t = []

-- its field is indexed, it is above the term before, and it is in some of the documents and in no more
abbrev pub within : List TableField → ℕ → TermConditions
within fields documents before t =
    record { rule = number.term_field; broken = not (is_indexed fields t.info.field) } ∷
    record { rule = number.term_order; broken = not (is_above fields before t) } ∷
    record { rule = number.doc_freq; broken = t.info.doc_freq == 0 || nat_lt documents t.info.doc_freq } ∷
    []

-- a place is over the last that a file can have
abbrev pub is_past_files : DictionaryTerm → Bool
is_past_files t = nat_le (2 ^ 31) t.info.freq || nat_le (2 ^ 31) t.info.prox

-- what a term must meet in any segment, after all else
abbrev pub term_place_conditions : DictionaryTerm → List Condition
term_place_conditions t = record { rule = number.term_place; broken = is_past_files t } ∷ []

-- the conditions against the entry that stands for this term, after these
abbrev pub against : TermConditions → List DictionaryTerm → TermRecord → DictionaryTerm → List Condition
against standing before e t =
    record { rule = number.term_prefix; broken = nat_lt (length (last_term before).text) e.prefix } ∷
    record { rule = number.term_utf8; broken = not (is_utf8 t.text) } ∷
    standing before t ++
    term_place_conditions t

-- the conditions against an entry after these terms
abbrev pub term_conditions : TermConditions → List DictionaryTerm → TermRecord → List Condition
term_conditions standing before e = against standing before e (term_after (last_term before) e)

-- the records of terms, with these conditions against an entry after some terms
abbrev pub terms_by : (List DictionaryTerm → TermRecord → List Condition) → ℕ → Kind Progress (Line TermRecord)
terms_by conditions interval = record {
  shape = λ s. followed (entry_shape false interval) (λ e. whole (entry e));
  conditions = λ s place line. on_entry [] (conditions s.terms) line;
  after = λ s place line. on_entry s (with_term s place) line;
}

-- the records of terms
abbrev pub term_kind : TermConditions → ℕ → Kind Progress (Line TermRecord)
term_kind standing interval = terms_by (term_conditions standing) interval

-- so many terms, as the numbers say
abbrev pub terms_plan : TermConditions → ℕ → TermNumbers → Plan Dictionary (Line TermRecord)
terms_plan standing size numbers =
    and_then (times (term_kind standing numbers.skip_interval) numbers.count no_terms) (λ s. done (record { numbers = numbers; terms = s.terms; starts = s.starts; size = size }))

-- a file of so many bytes: its header, and then the terms
abbrev pub dictionary_plan : TermConditions → ℕ → Plan Dictionary (Line TermRecord)
dictionary_plan standing size =
    due header (λ place line. heading_conditions (heading_of line)) (λ place line. terms_plan standing size (numbers_of (heading_of line)))

-- a file of so many bytes in a segment with these fields and so many documents
abbrev pub tis_plan : List TableField → ℕ → ℕ → Plan Dictionary (Line TermRecord)
tis_plan fields documents size = dictionary_plan (within fields documents) size
