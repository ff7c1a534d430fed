-- A term's part of `.frq`, and the whole file.
use Rattle.std.specs.Prelude.{◌≤◌, ℕ, List, [], length, map}
use Rattle.lu_types.specs.declared.term.TermInfo.{TermInfo}
use Rattle.lu_types.specs.declared.term.TermNumbers.{TermNumbers}
use Rattle.lu_types.specs.Tables.{TableField, bits_at}
use Rattle.lu_types.specs.Terms.{term_rules}
use Rattle.freq_skips.specs.declared.datum.Point.{Point}
use Rattle.lu_types.specs.declared.term.TermRules.{TermRules}
use Rattle.lu_grammar.specs.Bytes.{Cursor, start_of, place_in}
use Rattle.lu_grammar.specs.Plans.{Plan, done, and_then, in_turn}
use Rattle.freq_skips.specs.declared.rules.RuledTerm.{RuledTerm}
use Rattle.lu_grammar.specs.Meaning.{ReadsTo, FaultFrom}
use Rattle.freq_skips.specs.Records.{Record}
use Rattle.freq_skips.specs.Entries.{Posting, entries}
use Rattle.freq_skips.specs.Levels.{level_count, levels}

-- what a term's part stands for: its postings, and where the data of each skip level lead, the lowest level first
pub record TermData : Type 0 where
  pub postings : List Posting
  pub levels : List (List Point)

-- the entries of a term, and then its skip levels
abbrev pub term_plan : RuledTerm → Plan TermData Record
term_plan t = and_then (entries t) (λ s. and_then (levels t s.postings (level_count t) []) (λ points. done (record { postings = s.postings; levels = points })))

-- a term by the line of the dictionary and the rules
abbrev pub ruled_by : TermInfo → TermRules → RuledTerm
ruled_by info rules = record { info = info; rules = rules }

-- the terms of a dictionary with these numbers, in a segment with these fields and so many documents
abbrev pub terms_of : List TableField → TermNumbers → ℕ → List TermInfo → List RuledTerm
terms_of fields numbers documents infos = map (λ info. ruled_by info (term_rules numbers (bits_at fields info.field) documents)) infos

-- some terms in turn
abbrev pub terms_plan : List RuledTerm → Plan (List TermData) Record
terms_plan terms = in_turn term_plan terms

-- the file: the terms of the dictionary in turn
abbrev pub frq_plan : List TableField → TermNumbers → ℕ → List TermInfo → Plan (List TermData) Record
frq_plan fields numbers documents infos = terms_plan (terms_of fields numbers documents infos)

-- the term stands in the file: from its place on all of its records are good
pub record IsGoodTerm (info : TermInfo) (rules : TermRules) (frq : List ℕ) : Type 0 where
  pub interval : 2 ≤ rules.skip_interval
  pub within : info.freq ≤ length frq
  pub value : TermData
  pub end : Cursor
  pub reads : ReadsTo (term_plan (ruled_by info rules)) (place_in frq info.freq) value end

-- the records of the term do not all stand there: the first that is not good is at this offset, and breaks this rule first
pub record IsTermFault (t : RuledTerm) (from : Cursor) (offset rule : ℕ) : Type 0 where
  pub fault : FaultFrom (term_plan t) from offset rule
  pub unread : (value : TermData) (end : Cursor) → ReadsTo (term_plan t) from value end → ⊥

-- the first records of a file are the terms in turn, which stand for these, and they end at a place
abbrev pub AreTermsUpTo : List RuledTerm → List ℕ → ℕ → List TermData → Type 0
AreTermsUpTo terms frq place values = ReadsTo (terms_plan terms) (start_of frq) values (place_in frq place)
