-- The first condition that is broken, and what decides the conditions of a term.
use Rattle.std.proofs.Common.{◌≡◌, ◌≤◌, ℕ, Bool, true, false, ◌||◌, eqb, ltb, List, [], ◌∷◌, ◌++◌, length, take, drop, Some, None, refl, sym, ap, subst, ◌∙◌}
use Rattle.std.specs.Prelude.{if◌then◌else◌}
use Rattle.std.proofs.lemmas.Bool.{le-ltb}
use Rattle.std.specs.Str.{IsUtf8, is_utf8}
use Rattle.std.specs.Ordering.{ordering_then, is_lt}
use Rattle.std.specs.declared.cmp.Ordering.{Ordering}
use Rattle.lu_prims.specs.Order.{text_cmp, bytes_cmp}
use Rattle.lu_grammar.proofs.Codecs.{first_broken-front, first_broken-after}
use Rattle.lu_grammar.specs.Records.{Condition, first_broken}
use Rattle.lu_prims.proofs.TextLemmas.{text_cmp-tail}
use Rattle.lu_types.specs.Tables.{TableField}
use Rattle.term_dict.specs.Entries.{TermRecord}
use Rattle.term_dict.specs.Terms.{DictionaryTerm, last_term, term_after, is_above, field_of}
use Rattle.term_dict.specs.Dictionary.{TermConditions, term_place_conditions, against, term_conditions}

-- a term whose text stands is judged by its segment and its places
pub against-text : (standing : TermConditions) (before : List DictionaryTerm) (e : TermRecord) (t : DictionaryTerm) → e.prefix ≤ length (last_term before).text → is_utf8 t.text ≡ true
    → first_broken (against standing before e t) ≡ first_broken (standing before t ++ term_place_conditions t)
against-text standing before e t fits valid =
    let f : ltb (length (last_term before).text) e.prefix ≡ false = le-ltb _ _ fits in
    rw (f, valid) refl

-- the term of the entry after this one
pub standing-broken : (standing : TermConditions) (before : List DictionaryTerm) (e : TermRecord) (last : DictionaryTerm) (rule : ℕ) → last_term before ≡ last → e.prefix ≤ length last.text → is_utf8 (term_after last e).text ≡ true
    → first_broken (standing before (term_after last e)) ≡ Some rule → first_broken (term_conditions standing before e) ≡ Some rule
standing-broken standing before e last rule is =
    subst (λ (l : DictionaryTerm). e.prefix ≤ length l.text → is_utf8 (term_after l e).text ≡ true → first_broken (standing before (term_after l e)) ≡ Some rule → first_broken (term_conditions standing before e) ≡ Some rule) is
    (λ fits valid broken. against-text standing before e (term_after (last_term before) e) fits valid ∙ first_broken-front (standing before (term_after (last_term before) e)) (term_place_conditions (term_after (last_term before) e)) rule broken)

pub standing-good : (standing : TermConditions) (before : List DictionaryTerm) (e : TermRecord) (last : DictionaryTerm) → last_term before ≡ last → e.prefix ≤ length last.text → is_utf8 (term_after last e).text ≡ true
    → first_broken (standing before (term_after last e)) ≡ None → first_broken (term_conditions standing before e) ≡ first_broken (term_place_conditions (term_after last e))
standing-good standing before e last is =
    subst (λ (l : DictionaryTerm). e.prefix ≤ length l.text → is_utf8 (term_after l e).text ≡ true → first_broken (standing before (term_after l e)) ≡ None → first_broken (term_conditions standing before e) ≡ first_broken (term_place_conditions (term_after l e))) is
    (λ fits valid good. against-text standing before e (term_after (last_term before) e) fits valid ∙ first_broken-after (standing before (term_after (last_term before) e)) (term_place_conditions (term_after (last_term before) e)) good)

-- what the bytes after the shared ones say of the order
pub is_above-tail : (fields : List TableField) (before : List DictionaryTerm) (e : TermRecord) (last : DictionaryTerm) → last_term before ≡ last → false ≡ eqb (length before) 0 → IsUtf8 last.text → IsUtf8 (term_after last e).text
    → is_lt (ordering_then (text_cmp (field_of fields last.info.field).name (field_of fields e.field).name) (bytes_cmp (drop e.prefix last.text) e.suffix)) ≡ is_above fields before (term_after last e)
is_above-tail fields before e last is some text_before text =
    let o = text_cmp (field_of fields last.info.field).name (field_of fields e.field).name in
    ap (λ (p : Ordering). is_lt (ordering_then o p)) (sym (text_cmp-tail last.text e.suffix e.prefix text_before text))
    ∙ ap (λ (l : DictionaryTerm). is_lt (ordering_then (text_cmp (field_of fields l.info.field).name (field_of fields e.field).name) (text_cmp l.text (take e.prefix last.text ++ e.suffix)))) (sym is)
    ∙ ap (λ (b : Bool). b || is_lt (ordering_then (text_cmp (field_of fields (last_term before).info.field).name (field_of fields e.field).name) (text_cmp (last_term before).text (take e.prefix last.text ++ e.suffix)))) some
