-- A walk that stands before a term by what an entry of the index says.
use Rattle.std.proofs.Common.{◌≡◌, ℕ, zero, suc, ◌+◌, ◌<◌, ◌≤◌, ◌^◌, ◌-◌, List, length, take, get_or, refl, sym, ap, subst, ◌∙◌, arith, add-one}
use Rattle.std.specs.Prelude.{slice_index_or, All}
use Rattle.std.proofs.lemmas.List.{get_or-take, get_or_default, length-take-le}
use Rattle.lu_grammar.specs.Bytes.{IsBytes}
use Rattle.lu_types.specs.declared.term.TermNumbers.{TermNumbers}
use Rattle.term_dict.specs.Terms.{DictionaryTerm, no_term, last_term, term_after}
use Rattle.term_dict.specs.Content.{dictionary_in, IsRead}
use Rattle.term_dict.specs.Walk.{IsAt, walk_in, term_passed, next_place}
use Rattle.term_dict.proofs.LoopLemmas.{IsSoundTerm-none}
use Rattle.term_dict.proofs.WalkLemmas.{start_at, next_term, place_is, passed-terms, dictionary_in-length}

-- a walk can stand after so many terms
walked : (bytes : List ℕ) (numbers : TermNumbers) (longest n : ℕ) → IsBytes bytes → IsRead bytes numbers longest → n ≤ numbers.count → (place : ℕ) × (last : DictionaryTerm) × IsAt bytes numbers n place last
walked bytes numbers longest zero fits h le = (24, no_term, start_at bytes numbers longest no_term fits h refl (IsSoundTerm-none no_term refl))
walked bytes numbers longest (suc n) fits h le =
    let w = walked bytes numbers longest n fits h (omega arith) in
    let next = next_term bytes numbers longest n w.0 w.1 fits h w.2 (omega arith) in
    (next.new.place, term_after w.1 next.e, subst (λ (k : ℕ). IsAt bytes numbers k next.new.place (term_after w.1 next.e)) (add-one n) next.after)

-- and where it does, its place and its last term are those
pub IsAt-there : (bytes : List ℕ) (numbers : TermNumbers) (longest number place : ℕ) (t : DictionaryTerm) → IsRead bytes numbers longest → number < length (dictionary_in bytes).terms
    → place ≡ next_place (walk_in bytes number) → t ≡ term_passed (walk_in bytes number) → IsAt bytes numbers number place t
IsAt-there bytes numbers longest number place t h lt at is =
    let w = walked bytes numbers longest number h.fits h (omega (arith, (dictionary_in-length bytes numbers longest h.fits h).0)) in
    let here = at ∙ sym (place_is bytes numbers longest number w.0 w.1 h.fits h w.2) in
    let last = is ∙ passed-terms bytes numbers longest number w.0 w.1 h.fits h w.2 in
    subst (λ (p : ℕ). IsAt bytes numbers number p t) (sym here) (subst (λ (u : DictionaryTerm). IsAt bytes numbers number w.0 u) (sym last) w.2)

-- the last of so many terms
pub last_term-take : (terms : List DictionaryTerm) (n : ℕ) → n < length terms → last_term (take (n + 1) terms) ≡ slice_index_or terms n no_term
last_term-take terms n lt =
    ap (λ (k : ℕ). get_or (take (n + 1) terms) (k - 1) no_term) (length-take-le (n + 1) terms (omega arith))
    ∙ ap (λ (k : ℕ). get_or (take (n + 1) terms) k no_term) (let e : n + 1 - 1 ≡ n = omega arith in e)
    ∙ get_or-take (n + 1) terms n no_term (omega arith)

-- no text that was passed is longer than the buffer
pub passed-fits : (bytes : List ℕ) (numbers : TermNumbers) (longest number : ℕ) (t : DictionaryTerm) → IsRead bytes numbers longest → number < length (dictionary_in bytes).terms → t ≡ term_passed (walk_in bytes number) → length t.text ≤ longest
passed-fits bytes numbers longest zero t h lt is = subst (λ (u : DictionaryTerm). length u.text ≤ longest) (sym is) (omega arith)
passed-fits bytes numbers longest (suc n) t h lt is =
    let terms = (dictionary_in bytes).terms in
    let last : last_term (take (suc n) terms) ≡ slice_index_or terms n no_term = ap (λ (k : ℕ). last_term (take k terms)) (sym (add-one n)) ∙ last_term-take terms n (omega arith) in
    subst (λ (u : DictionaryTerm). length u.text ≤ longest) (sym (is ∙ last)) (h.within n)

-- each term starts inside the file
pub starts-inside : (bytes : List ℕ) (numbers : TermNumbers) (longest : ℕ) → IsRead bytes numbers longest → All (λ place. place < 2 ^ 31) (dictionary_in bytes).starts
starts-inside bytes numbers longest h = λ k d lt.
    let w = walked bytes numbers longest k h.fits h (omega (arith, lt, (dictionary_in-length bytes numbers longest h.fits h).1)) in
    let is = place_is bytes numbers longest k w.0 w.1 h.fits h w.2 in
    let same = get_or_default (dictionary_in bytes).starts k d (dictionary_in bytes).size lt in
    omega (arith, is, same, w.2.inside, h.small)
