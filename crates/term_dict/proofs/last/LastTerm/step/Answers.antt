use Rattle.std.proofs.Common.{◌≡◌, ◌++◌, ℕ, true, List, take, refl, sym, ap, subst, ◌∙◌, arith}
use Rattle.std.specs.Str.{IsUtf8, is_utf8}
use Rattle.std.proofs.lemmas.Str.{IsUtf8-from_is_utf8}
use Rattle.lu_grammar.specs.Records.{first_broken}
use Rattle.lu_types.specs.declared.term.TermInfo.{TermInfo}
use Rattle.term_dict.specs.Entries.{term_record_of}
use Rattle.term_dict.specs.Terms.{DictionaryTerm, term_after}
use Rattle.term_dict.specs.Dictionary.{within, term_place_conditions}
use Rattle.term_dict.specs.Last.{term_of_last}
use Rattle.term_dict.proofs.ConditionLemmas.{standing-broken, standing-good}
use Rattle.term_dict.proofs.last.LastTerm.step.Goals as goal

abbrev term_with : List ℕ → TermInfo → DictionaryTerm
term_with text info = record { text = text; info = info }

-- the text that was made is UTF-8
valid_text : (text shared : List ℕ) (valid : _) → text ≡ shared → valid ≡ is_utf8 text → valid ≡ true → is_utf8 shared ≡ true
valid_text text shared valid e test so = ap is_utf8 (sym e) ∙ sym test ∙ so

pub returns-in-Some-clause-rule : goal.returns-in-Some-clause-rule
returns-in-Some-clause-rule c = λ before is first.
    let last = term_of_last c.args.self.now in
    let e = term_record_of c.args.entry.now in
    let made = c.in_ok-set_text.ensures.text in
    let valid : is_utf8 (take e.prefix last.text ++ e.suffix) ≡ true = valid_text _ _ _ made.0 made.1 c.if-not-branch.false in
    let text : IsUtf8 (take e.prefix last.text ++ e.suffix) = IsUtf8-from_is_utf8 _ valid in
    let above = c.is_below-above.ensures before is first text in
    sym (standing-broken (within c.args.fields.now c.args.documents) before e last c.in-Some.rule is (omega arith) valid (sym (c.in-Some.ensures before (term_after last e) refl refl above)))

pub returns-clause-rule : goal.returns-clause-rule
returns-clause-rule c = λ before is first.
    let last = term_of_last c.args.self.now in
    let e = term_record_of c.args.entry.now in
    let made = c.in_ok-set_text.ensures.text in
    let valid : is_utf8 (take e.prefix last.text ++ e.suffix) ≡ true = valid_text _ _ _ made.0 made.1 c.if-not-branch.false in
    let text : IsUtf8 (take e.prefix last.text ++ e.suffix) = IsUtf8-from_is_utf8 _ valid in
    c.set_info.ensures.rule
    ∙ ap (λ (i : TermInfo). first_broken (term_place_conditions (term_after (term_with last.text i) e))) c.in_ok-set_text.ensures.info
    ∙ sym (standing-good (within c.args.fields.now c.args.documents) before e last is (omega arith) valid (sym (c.standing_rule.ensures before (term_after last e) refl refl (c.is_below-above.ensures before is first text)) ∙ c.in_default.is))

pub returns-clause-good : goal.returns-clause-good
returns-clause-good c = λ none.
    let last = term_of_last c.args.self.now in
    let e = term_record_of c.args.entry.now in
    let made = c.in_ok-set_text.ensures.text in
    let valid : is_utf8 (take e.prefix last.text ++ e.suffix) ≡ true = valid_text _ _ _ made.0 made.1 c.if-not-branch.false in
    let good = c.set_info.ensures.good none in
    let text_is : c.set_info.new.self.text.items ≡ take e.prefix last.text ++ e.suffix = ap (λ v. v.items) c.set_info.ensures.text ∙ made.0 in
    let info_is : c.set_info.new.self.info ≡ (term_after last e).info = good.0 ∙ ap (λ (i : TermInfo). (term_after (term_with last.text i) e).info) c.in_ok-set_text.ensures.info in (
      ap (λ (t : List ℕ). term_with t c.set_info.new.self.info) text_is ∙ ap (term_with (take e.prefix last.text ++ e.suffix)) info_is,
      record { text = subst IsUtf8 (sym text_is) (IsUtf8-from_is_utf8 _ valid); freq = good.1; prox = good.2 },
    )
