-- The terms of a file, one after another.
use Rattle.std.proofs.Common.{◌≡◌, ℕ, inl, inr, List, [], ◌∷◌, ◌++◌, Err}
use Rattle.lu_grammar.specs.Bytes.{IsBytes, Cursor, place_in}
use Rattle.lu_grammar.specs.Plans.{read_plan}
use Rattle.lu_grammar.specs.Meaning.{ReadsTo, FirstFault}
use Rattle.lu_grammar.proofs.Parts.{IsBytes-drop}
use Rattle.lu_grammar.proofs.Files.{read_plan-FaultFrom}
use Rattle.lu_grammar.proofs.Codecs.{read_plan-ReadsTo, reads-read_plan, turns-more, turns-fault}
use Rattle.lu_grammar.proofs.Records.{at}
use Rattle.freq_skips.specs.declared.rules.RuledTerm.{RuledTerm}
use Rattle.freq_skips.specs.Terms.{TermData, IsTermFault, AreTermsUpTo, term_plan, terms_plan}

pub terms-more : (terms : List RuledTerm) (values : List TermData) (t : RuledTerm) (frq : List ℕ) (place end : ℕ) (value : TermData) → IsBytes frq → AreTermsUpTo terms frq place values
    → ReadsTo (term_plan t) (place_in frq place) value (place_in frq end) → AreTermsUpTo (terms ++ t ∷ []) frq end (values ++ value ∷ [])
terms-more terms values t frq place end value fits before here =
    turns-more term_plan frq fits terms values t place end value before (read_plan-ReadsTo (term_plan t) (place_in frq place) value (place_in frq end) here)

-- a fault of a term is read as one
term-broken : (t : RuledTerm) (from : Cursor) (offset rule : ℕ) → IsBytes from.rest → IsTermFault t from offset rule → read_plan (term_plan t) from ≡ Err (record { offset = offset; rule = rule })
term-broken t from offset rule fits h = elim (read_plan-FaultFrom (term_plan t) from offset rule fits h.fault) [
  | inl e ↦ e
  | inr (v, more, some, is, e) ↦ absurd (h.unread v (at offset more) (reads-read_plan (term_plan t) from v (at offset more) fits e))
]

pub terms-fault : (terms : List RuledTerm) (values : List TermData) (t : RuledTerm) (rest : List RuledTerm) (frq : List ℕ) (place offset rule : ℕ) → IsBytes frq → AreTermsUpTo terms frq place values
    → IsTermFault t (place_in frq place) offset rule → FirstFault (terms_plan (terms ++ t ∷ rest)) frq offset rule
terms-fault terms values t rest frq place offset rule fits before here =
    turns-fault term_plan frq fits terms values t rest place (record { offset = offset; rule = rule }) before (term-broken t (place_in frq place) offset rule (IsBytes-drop place frq fits) here)
