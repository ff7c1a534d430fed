-- What the steps of a check show of the records at a cursor.
use Rattle.std.proofs.Common.{◌≡◌, ℕ, false, List, Option, Some, None, Result, Ok, Err, refl, sym, ap, ◌∙◌, []}
use Rattle.std.specs.Prelude.{IfOk, MatchResult}
use Rattle.lu_grammar.specs.declared.bad.Bad.{Bad}
use Rattle.lu_grammar.specs.Bytes.{Cursor}
use Rattle.lu_grammar.specs.Records.{Condition, first_broken, rule_of, read_shape}
use Rattle.term_dict.specs.declared.heading.Heading.{Heading}
use Rattle.lu_types.specs.declared.term.TermNumbers.{TermNumbers}
use Rattle.term_dict.specs.Headings.{heading_shape, heading_conditions, numbers_of, Line, heading, entry, heading_of, on_entry}
use Rattle.term_dict.specs.Entries.{TermRecord, entry_shape}
use Rattle.term_dict.specs.Terms.{DictionaryTerm, last_term, term_after}
use Rattle.term_dict.specs.Dictionary.{TermConditions, Progress, term_conditions, term_kind}
use Rattle.term_dict.specs.Last.{IsSoundTerm}
use Rattle.term_dict.specs.Checks.{AreBounded, IsHeader, IsNextTerm, record_of}
use Rattle.term_dict.proofs.LineLemmas.{line_at-good, line_at-broken, line_at-unread}

abbrev header_rules : Line TermRecord → List Condition
header_rules line = heading_conditions (heading_of line)

-- a header that was read
pub header-read : (old new : Cursor) (h : Heading) (r : Result TermNumbers ℕ) → read_shape heading_shape old ≡ Ok (h, new)
    → MatchResult r (λ numbers. (first_broken (heading_conditions h) ≡ None) × (numbers ≡ numbers_of h) × AreBounded numbers) (λ rule. first_broken (heading_conditions h) ≡ Some rule)
    → IsHeader old new r
header-read old new h (Ok numbers) e p = (h, line_at-good heading_shape heading header_rules old h new e p.0, p.1, p.2)
header-read old new h (Err rule) e p = line_at-broken heading_shape heading header_rules old h new rule e p

pub header-unread : (old new : Cursor) (bad : Bad) (rule : ℕ) → read_shape heading_shape old ≡ Err bad → rule ≡ rule_of bad → IsHeader old new (Err rule)
header-unread old new bad rule e is = line_at-unread heading_shape heading header_rules old bad e ∙ ap (λ (n : ℕ). Err n) (sym is)

-- an entry that was read, and what was found against it
next-read : (standing : TermConditions) (interval : ℕ) (s : Progress) (old new : Cursor) (e : TermRecord) (last : DictionaryTerm) (o : Option ℕ) → read_shape (entry_shape false interval) old ≡ Ok (e, new)
    → o ≡ first_broken (term_conditions standing s.terms e) → (o ≡ None → last ≡ term_after (last_term s.terms) e) → IsNextTerm standing interval s old new last o
next-read standing interval s old new e last None read is good =
    (e, line_at-good (entry_shape false interval) entry (λ line. on_entry [] (term_conditions standing s.terms) line) old e new read (sym is), good refl)
next-read standing interval s old new e last (Some rule) read is good =
    line_at-broken (entry_shape false interval) entry (λ line. on_entry [] (term_conditions standing s.terms) line) old e new rule read (sym is)

pub next-judged : {E : Type 0} (standing : TermConditions) (interval : ℕ) (s : Progress) (old new : Cursor) (e : TermRecord) (before last : DictionaryTerm) (r : Result (Option ℕ) E) → read_shape (entry_shape false interval) old ≡ Ok (e, new)
    → last_term s.terms ≡ before → IfOk r (λ o. o ≡ first_broken (term_conditions standing s.terms e)) → IfOk r (λ o. o ≡ None → (last ≡ term_after before e) × IsSoundTerm last) → IfOk r (IsNextTerm standing interval s old new last)
next-judged standing interval s old new e before last (Ok o) read is judged good = next-read standing interval s old new e last o read judged (λ none. (good none).0 ∙ ap (λ (t : DictionaryTerm). term_after t e) (sym is))
next-judged standing interval s old new e before last (Err x) read is judged good = tt

pub next-unread : (standing : TermConditions) (interval : ℕ) (s : Progress) (old : Cursor) (bad : Bad) (rule : ℕ) → read_shape (entry_shape false interval) old ≡ Err bad → rule ≡ rule_of bad
    → record_of (term_kind standing interval) s old ≡ Err rule
next-unread standing interval s old bad rule e is =
    line_at-unread (entry_shape false interval) entry (λ line. on_entry [] (term_conditions standing s.terms) line) old bad e ∙ ap (λ (n : ℕ). Err n) (sym is)
