-- The terms of a file, one after another.
use Rattle.std.proofs.Common.{◌≡◌, ℕ, inl, inr, List, [], ◌∷◌, ◌++◌, Err}
use Rattle.lu_grammar.specs.Bytes.{IsBytes, Cursor, place_in}
use Rattle.lu_grammar.specs.Plans.{read_plan}
use Rattle.lu_grammar.specs.Meaning.{ReadsTo, FirstFault}
use Rattle.lu_grammar.proofs.Parts.{IsBytes-drop}
use Rattle.lu_grammar.proofs.Files.{read_plan-FaultFrom}
use Rattle.lu_grammar.proofs.Codecs.{read_plan-ReadsTo, reads-read_plan, turns-more, turns-fault}
use Rattle.lu_grammar.proofs.Records.{at}
use Rattle.lu_types.specs.Occurrences.{Occurrence}
use Rattle.positions.specs.Occurrences.{PostedTerm}
use Rattle.positions.specs.Terms.{IsTermFault, AreTermsUpTo, term_plan, terms_plan}

pub terms-more : (terms : List PostedTerm) (values : List (List (List Occurrence))) (p : PostedTerm) (prx : List ℕ) (place end : ℕ) (value : List (List Occurrence)) → IsBytes prx
    → AreTermsUpTo terms prx place values → ReadsTo (term_plan p) (place_in prx place) value (place_in prx end) → AreTermsUpTo (terms ++ p ∷ []) prx end (values ++ value ∷ [])
terms-more terms values p prx place end value fits before here =
    turns-more term_plan prx fits terms values p place end value before (read_plan-ReadsTo (term_plan p) (place_in prx place) value (place_in prx end) here)

-- a fault of a term is read as one
term-broken : (p : PostedTerm) (from : Cursor) (offset rule : ℕ) → IsBytes from.rest → IsTermFault p from offset rule → read_plan (term_plan p) from ≡ Err (record { offset = offset; rule = rule })
term-broken p from offset rule fits h = elim (read_plan-FaultFrom (term_plan p) from offset rule fits h.fault) [
  | inl e ↦ e
  | inr (v, more, some, is, e) ↦ absurd (h.unread v (at offset more) (reads-read_plan (term_plan p) from v (at offset more) fits e))
]

pub terms-fault : (terms : List PostedTerm) (values : List (List (List Occurrence))) (p : PostedTerm) (rest : List PostedTerm) (prx : List ℕ) (place offset rule : ℕ) → IsBytes prx
    → AreTermsUpTo terms prx place values → IsTermFault p (place_in prx place) offset rule → FirstFault (terms_plan (terms ++ p ∷ rest)) prx offset rule
terms-fault terms values p rest prx place offset rule fits before here =
    turns-fault term_plan prx fits terms values p rest place (record { offset = offset; rule = rule }) before (term-broken p (place_in prx place) offset rule (IsBytes-drop place prx fits) here)
