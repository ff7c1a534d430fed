use Rattle.std.proofs.Common.{◌≡◌, ℕ, Some, sym, ap, subst, ◌∙◌, refl}
use Rattle.std.specs.Prelude.{slice_get, option_map}
use Rattle.lu_types.specs.Judging.{IsFirstFault}
use Rattle.lu_types.specs.declared.fault.Spot.{Spot}
use Rattle.lu_types.specs.declared.kind.FileKind.TheVariants.{Frq}
use Rattle.lu_types.specs.Tables.{bits_at}
use Rattle.lu_types.specs.Terms.{term_rules}
use Rattle.lu_types.specs.declared.term.TermNumbers.{TermNumbers}
use Rattle.term_dict.specs.Terms.{DictionaryTerm}
use Rattle.term_dict.specs.Walk.{TermWalk}
use Rattle.term_dict.specs.Dictionary.{Dictionary}
use Rattle.freq_skips.specs.Terms.{frq_plan}
use Rattle.check_index.specs.Terms.{infos_of, HavePassedTerms}
use Rattle.check_index.proofs.TurnLemmas.{past_end}
use Rattle.check_index.proofs.TermLemmas.{used_at, terms-none, terms-more, terms-fault, terms-trailing, terms-all}
use Rattle.check_index.proofs.terms.check_entries.Goals as goal

pub loop-info-init : goal.loop-info-init
loop-info-init c = (
  ap (λ (w : TermWalk). w.dictionary) c.in-Ok.ensures,
  subst (λ (n : ℕ). HavePassedTerms c.args.fields.now c.args.size c.args.terms.now c.args.frq.now n 0) (sym (ap (λ (w : TermWalk). w.passed) c.in-Ok.ensures)) (terms-none c.args.fields.now c.args.size c.args.terms.now c.args.frq.now (λ i. (c.type_inv.frq i).fits)),
)

pub returns-in-Err-check_term-clause-fault : goal.returns-in-Err-check_term-clause-fault
returns-in-Err-check_term-clause-fault c =
    let d = c.args.terms.now in
    let passed = c.loop-info.cursor.passed in
    let info = c.in-Some.info in
    let spot = c.in-Err-check_term.spot in
    let there : option_map (λ (t : DictionaryTerm). t.info) (slice_get d.terms passed) ≡ Some info =
    ap (λ (x : Dictionary). option_map (λ (t : DictionaryTerm). t.info) (slice_get x.terms passed)) (sym c.loop-info.invariant.0) ∙ sym c.in-Some.ensures.term in
    let is = c.rules_of-rules.ensures ∙ ap (λ (m : TermNumbers). term_rules m (bits_at c.args.fields.now info.field) c.args.size) c.numbers-numbers.ensures.numbers in
    (c.in-Err-check_term.ensures.term.0, terms-fault c.args.fields.now c.args.size d c.args.frq.now (λ i. (c.type_inv.frq i).fits) passed c.loop-info.at spot.offset spot.rule info c.rules_of-rules.result there is c.loop-info.invariant.1 c.in-Err-check_term.ensures.term.1)

pub loop-info-preserved : goal.loop-info-preserved
loop-info-preserved c =
    let fields = c.args.fields.now in
    let d = c.args.terms.now in
    let passed = c.loop-info.cursor.passed in
    let info = c.in-Some.info in
    let end = c.in-Ok-check_term.end in
    let there : option_map (λ (t : DictionaryTerm). t.info) (slice_get d.terms passed) ≡ Some info =
    ap (λ (x : Dictionary). option_map (λ (t : DictionaryTerm). t.info) (slice_get x.terms passed)) (sym c.loop-info.invariant.0) ∙ sym c.in-Some.ensures.term in
    let is = c.rules_of-rules.ensures ∙ ap (λ (m : TermNumbers). term_rules m (bits_at fields info.field) c.args.size) c.numbers-numbers.ensures.numbers in
    let read = c.in-Ok-check_term.ensures.term in
    let good = c.in-Ok-check_term.ensures.good (used_at fields c.args.size d passed info c.requires there).0 in
    let more = terms-more fields c.args.size d c.args.frq.now (λ i. (c.type_inv.frq i).fits) passed c.loop-info.at end info c.rules_of-rules.result read.0 there is c.loop-info.invariant.1 read.1 good.0 good.1 c.in-Ok-check_term.ensures.within in
    let moved = c.in-Some.ensures.passed in
    (ap (λ (w : TermWalk). w.dictionary) moved ∙ c.loop-info.invariant.0, subst (λ (n : ℕ). HavePassedTerms fields c.args.size d c.args.frq.now n end) (sym (ap (λ (w : TermWalk). w.passed) moved)) more)

pub returns-then-at-frq-clause-fault : goal.returns-then-at-frq-clause-fault
returns-then-at-frq-clause-fault c =
    let d = c.args.terms.now in
    let ended = past_end (λ (t : DictionaryTerm). t.info) d.terms c.loop-info.cursor.passed (ap (λ (x : Dictionary). option_map (λ (t : DictionaryTerm). t.info) (slice_get x.terms c.loop-info.cursor.passed)) (sym c.loop-info.invariant.0) ∙ sym c.in_default.ensures.term) in
    subst (λ (s : Spot). IsFirstFault Frq (frq_plan c.args.fields.now d.numbers c.args.size (infos_of d)) c.args.frq.now s) (sym c.at.ensures)
    (refl, terms-trailing c.args.fields.now c.args.size d c.args.frq.now (λ i. (c.type_inv.frq i).fits) c.loop-info.cursor.passed c.loop-info.at ended c.loop-info.invariant.1 c.if-at-frq.true)

pub returns-clause-listed : goal.returns-clause-listed
returns-clause-listed c =
    let d = c.args.terms.now in
    let ended = past_end (λ (t : DictionaryTerm). t.info) d.terms c.loop-info.cursor.passed (ap (λ (x : Dictionary). option_map (λ (t : DictionaryTerm). t.info) (slice_get x.terms c.loop-info.cursor.passed)) (sym c.loop-info.invariant.0) ∙ sym c.in_default.ensures.term) in
    terms-all c.args.fields.now c.args.size d c.args.frq.now (λ i. (c.type_inv.frq i).fits) c.loop-info.cursor.passed c.loop-info.at ended c.if-at-frq.false c.loop-info.invariant.1
