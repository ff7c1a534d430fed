-- What reading a term answers, as the check tells it.
use Rattle.std.proofs.Common.{◌≡◌, ℕ, zero, suc, ◌+◌, ◌<◌, ◌≤◌, true, false, List, [], ◌∷◌, length, Ok, Err, refl, sym, ap, subst, ◌∙◌, arith}
use Rattle.lu_grammar.specs.Bytes.{IsBytes, Cursor, place_in}
use Rattle.lu_grammar.specs.Plans.{Broken, each, read_plan}
use Rattle.lu_grammar.specs.Meaning.{ReadsTo}
use Rattle.lu_grammar.proofs.Parts.{IsBytes-drop}
use Rattle.lu_grammar.proofs.Plans.{err_is_not_ok, fault-read_plan}
use Rattle.lu_grammar.proofs.Codecs.{read_plan-ReadsTo, reads-read_plan, place_in-after}
use Rattle.lu_types.specs.Occurrences.{Occurrence}
use Rattle.positions.specs.Occurrences.{PostedTerm}
use Rattle.positions.specs.Terms.{IsTermFault, term_plan}

-- the occurrences of the term stand between two places
abbrev pub StandsBetween : PostedTerm → List ℕ → ℕ → ℕ → Type 0
StandsBetween p prx at end = (occurrences : List (List Occurrence)) × ReadsTo (term_plan p) (place_in prx at) occurrences (place_in prx end)

pub term-good : (p : PostedTerm) (prx : List ℕ) (at : ℕ) (v : List (List Occurrence)) (d : Cursor) (end : ℕ) → IsBytes prx → at ≤ length prx → read_plan (term_plan p) (place_in prx at) ≡ Ok (v, d) → end ≡ d.place
    → StandsBetween p prx at end × (end ≤ length prx)
term-good p prx at v d end fits le e is =
    let after = place_in-after (term_plan p) prx at v d fits le e in
    let here : d ≡ place_in prx end = after.0 ∙ ap (λ (n : ℕ). place_in prx n) (sym is) in
    ((v, subst (λ (c : Cursor). ReadsTo (term_plan p) (place_in prx at) v c) here (reads-read_plan (term_plan p) (place_in prx at) v d (IsBytes-drop at prx fits) e)), omega (arith, after.1))

pub term-bad : (p : PostedTerm) (prx : List ℕ) (at offset rule : ℕ) → IsBytes prx → read_plan (term_plan p) (place_in prx at) ≡ Err (record { offset = offset; rule = rule }) → IsTermFault p (place_in prx at) offset rule
term-bad p prx at offset rule fits e = record {
  fault = fault-read_plan (term_plan p) (place_in prx at) (record { offset = offset; rule = rule }) (IsBytes-drop at prx fits) e;
  unread = λ v end h. err_is_not_ok (sym e ∙ read_plan-ReadsTo (term_plan p) (place_in prx at) v end h);
}
