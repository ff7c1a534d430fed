-- A term's part of `.prx`, and the whole file (format page, "Positions").
use Rattle.std.specs.Prelude.{ℕ, List, [], ◌∷◌}
use Rattle.lu_types.specs.declared.term.TermInfo.{TermInfo}
use Rattle.lu_types.specs.declared.term.TermRules.{TermRules}
use Rattle.lu_types.specs.declared.term.TermNumbers.{TermNumbers}
use Rattle.lu_types.specs.Tables.{TableField}
use Rattle.lu_grammar.specs.Bytes.{Cursor, start_of, place_in}
use Rattle.lu_grammar.specs.Plans.{Plan, done, and_then, in_turn}
use Rattle.lu_grammar.specs.Meaning.{ReadsTo, FaultFrom}
use Rattle.lu_types.specs.Occurrences.{Occurrence}
use Rattle.freq_skips.specs.declared.rules.RuledTerm.{RuledTerm}
use Rattle.freq_skips.specs.Terms.{TermData, ruled_by, terms_of}
use Rattle.positions.specs.Records.{OccurrenceRecord}
use Rattle.positions.specs.Occurrences.{PostedTerm, entries_plan}

-- the occurrences of a term, entry by entry
abbrev pub term_plan : PostedTerm → Plan (List (List Occurrence)) OccurrenceRecord
term_plan p = and_then (entries_plan p p.term.info.doc_freq) (λ s. done s.before)

-- a term by the line of the dictionary, the rules, and what its part of `.frq` stands for
abbrev pub posted : TermInfo → TermRules → TermData → PostedTerm
posted info rules value = record { term = ruled_by info rules; value = value }

-- some terms, each with what its part of `.frq` stands for
abbrev pub posted_terms : List RuledTerm → List TermData → List PostedTerm
posted_terms [] values = []
posted_terms (t ∷ ts) [] = []
posted_terms (t ∷ ts) (v ∷ vs) = (record { term = t; value = v }) ∷ posted_terms ts vs

-- some terms in turn
abbrev pub terms_plan : List PostedTerm → Plan (List (List (List Occurrence))) OccurrenceRecord
terms_plan terms = in_turn term_plan terms

-- the file: the terms of the dictionary in turn, of which `.frq` stands for these values
abbrev pub prx_plan : List TableField → TermNumbers → ℕ → List TermInfo → List TermData → Plan (List (List (List Occurrence))) OccurrenceRecord
prx_plan fields numbers documents infos values = terms_plan (posted_terms (terms_of fields numbers documents infos) values)

-- the records of the term do not all stand there: the first that is not good is at this offset, and breaks this rule first
pub record IsTermFault (p : PostedTerm) (from : Cursor) (offset rule : ℕ) : Type 0 where
  pub fault : FaultFrom (term_plan p) from offset rule
  pub unread : (occurrences : List (List Occurrence)) (end : Cursor) → ReadsTo (term_plan p) from occurrences end → ⊥

-- the first records of a file are the terms in turn, which stand for these, and they end at a place
abbrev pub AreTermsUpTo : List PostedTerm → List ℕ → ℕ → List (List (List Occurrence)) → Type 0
AreTermsUpTo terms prx place values = ReadsTo (terms_plan terms) (start_of prx) values (place_in prx place)
