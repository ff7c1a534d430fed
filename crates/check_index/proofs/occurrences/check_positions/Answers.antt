use Rattle.std.proofs.Common.{◌≡◌, ℕ, ◌≤◌, List, length, Some, None, sym, ap, subst, ◌∙◌, refl}
use Rattle.std.specs.Prelude.{slice_get, option_map}
use Rattle.lu_types.specs.Judging.{IsFirstFault}
use Rattle.lu_types.specs.Tables.{TableField, bits_at}
use Rattle.lu_types.specs.Terms.{term_rules}
use Rattle.lu_types.specs.declared.fault.Spot.{Spot}
use Rattle.lu_types.specs.declared.kind.FileKind.TheVariants.{Prx}
use Rattle.lu_types.specs.declared.term.TermInfo.{TermInfo}
use Rattle.lu_types.specs.declared.term.TermNumbers.{TermNumbers}
use Rattle.lu_types.specs.declared.term.TermRules.{TermRules}
use Rattle.term_dict.specs.Terms.{DictionaryTerm}
use Rattle.term_dict.specs.Walk.{TermWalk}
use Rattle.term_dict.specs.Dictionary.{Dictionary}
use Rattle.positions.specs.Terms.{prx_plan}
use Rattle.check_index.specs.Terms.{infos_of, lists_in}
use Rattle.check_index.specs.Positions.{HavePassedPositions}
use Rattle.check_index.proofs.TurnLemmas.{past_end}
use Rattle.check_index.proofs.TermLemmas.{used_at, rules_for}
use Rattle.check_index.proofs.PositionLemmas.{entries_at, positions-none, positions-more, positions-fault, positions-trailing, positions-all}
use Rattle.check_index.proofs.occurrences.check_positions.Goals as goal

-- the term that a walk answers is the one with the number of those that it passed
there_is : (d : Dictionary) (w : TermWalk) (info : TermInfo) → w.dictionary ≡ d → Some info ≡ option_map (λ (t : DictionaryTerm). t.info) (slice_get w.dictionary.terms w.passed) → option_map (λ (t : DictionaryTerm). t.info) (slice_get d.terms w.passed) ≡ Some info
there_is d w info same e = ap (λ (x : Dictionary). option_map (λ (t : DictionaryTerm). t.info) (slice_get x.terms w.passed)) (sym same) ∙ sym e

-- where it answers none, all are passed
none_is : (d : Dictionary) (w : TermWalk) → w.dictionary ≡ d → None ≡ option_map (λ (t : DictionaryTerm). t.info) (slice_get w.dictionary.terms w.passed) → length d.terms ≤ w.passed
none_is d w same e = past_end (λ (t : DictionaryTerm). t.info) d.terms w.passed (ap (λ (x : Dictionary). option_map (λ (t : DictionaryTerm). t.info) (slice_get x.terms w.passed)) (sym same) ∙ sym e)

rules_are : (fields : List TableField) (size : ℕ) (d : Dictionary) (info : TermInfo) (numbers : TermNumbers) (rules : TermRules) → numbers ≡ d.numbers → rules ≡ term_rules numbers (bits_at fields info.field) size → rules ≡ rules_for fields size d info
rules_are fields size d info numbers rules same is = is ∙ ap (λ (m : TermNumbers). term_rules m (bits_at fields info.field) size) same

pub loop-info-init : goal.loop-info-init
loop-info-init c =
    let fields = c.args.fields.now in
    let size = c.args.size in
    let d = c.args.opened.now.terms in
    let frq = c.args.opened.now.frq.now in
    let lists = lists_in fields size d frq in (
      ap (λ (w : TermWalk). w.dictionary) c.in-Ok.ensures,
      subst (λ (n : ℕ). HavePassedPositions fields size d lists c.args.prx.now n 0) (sym (ap (λ (w : TermWalk). w.passed) c.in-Ok.ensures)) (positions-none fields size d frq lists c.requires.listed c.args.prx.now (λ i. (c.type_inv.prx i).fits)),
    )

pub check_term-requires-clause-good : goal.check_term-requires-clause-good
check_term-requires-clause-good c =
    let fields = c.args.fields.now in
    let size = c.args.size in
    let d = c.args.opened.now.terms in
    let frq = c.args.opened.now.frq.now in
    let info = c.in-Some.info in
    let w = c.loop-info.cursor in
    let there = there_is d w info c.loop-info.invariant.0 c.in-Some.ensures.term in
    let is = rules_are fields size d info c.numbers-numbers.result c.rules_of-rules.result c.numbers-numbers.ensures.numbers c.rules_of-rules.ensures in
    (entries_at fields size d frq (lists_in fields size d frq) c.requires.listed w.passed info c.rules_of-rules.result there is).2.good

pub returns-in-Err-check_term-clause-fault : goal.returns-in-Err-check_term-clause-fault
returns-in-Err-check_term-clause-fault c =
    let fields = c.args.fields.now in
    let size = c.args.size in
    let d = c.args.opened.now.terms in
    let frq = c.args.opened.now.frq.now in
    let lists = lists_in fields size d frq in
    let info = c.in-Some.info in
    let rules = c.rules_of-rules.result in
    let w = c.loop-info.cursor in
    let spot = c.in-Err-check_term.spot in
    let there = there_is d w info c.loop-info.invariant.0 c.in-Some.ensures.term in
    let is = rules_are fields size d info c.numbers-numbers.result rules c.numbers-numbers.ensures.numbers c.rules_of-rules.ensures in
    let held = entries_at fields size d frq lists c.requires.listed w.passed info rules there is in
    let fault = c.in-Err-check_term.ensures.term held.0 held.2.end held.2.reads in
    (fault.0, positions-fault fields size d frq lists c.requires.listed c.args.prx.now (λ i. (c.type_inv.prx i).fits) w.passed c.loop-info.at spot.offset spot.rule info rules held.0 there is held.1 c.loop-info.invariant.1 fault.1)

pub loop-info-preserved : goal.loop-info-preserved
loop-info-preserved c =
    let fields = c.args.fields.now in
    let size = c.args.size in
    let d = c.args.opened.now.terms in
    let frq = c.args.opened.now.frq.now in
    let lists = lists_in fields size d frq in
    let info = c.in-Some.info in
    let rules = c.rules_of-rules.result in
    let w = c.loop-info.cursor in
    let end = c.in-Ok-check_term.end in
    let prx = c.args.prx.now in
    let there = there_is d w info c.loop-info.invariant.0 c.in-Some.ensures.term in
    let is = rules_are fields size d info c.numbers-numbers.result rules c.numbers-numbers.ensures.numbers c.rules_of-rules.ensures in
    let held = entries_at fields size d frq lists c.requires.listed w.passed info rules there is in
    let used = (used_at fields size d w.passed info c.requires.good there).0 in
    let read = c.in-Ok-check_term.ensures.term held.0 held.2.end held.2.reads in
    let stands = c.in-Ok-check_term.ensures.stands used held.0 held.2.end held.2.reads in
    let more = positions-more fields size d frq lists c.requires.listed prx (λ i. (c.type_inv.prx i).fits) w.passed c.loop-info.at end info rules held.0 held.2.end there is held.1 c.loop-info.invariant.1
    read.0 read.1 stands.0 stands.1 (λ omit. c.in-Ok-check_term.ensures.starts omit used) c.in-Ok-check_term.ensures.within in
    let moved = c.in-Some.ensures.passed in
    (ap (λ (x : TermWalk). x.dictionary) moved ∙ c.loop-info.invariant.0, subst (λ (n : ℕ). HavePassedPositions fields size d lists prx n end) (sym (ap (λ (x : TermWalk). x.passed) moved)) more)

pub returns-then-at-prx-clause-fault : goal.returns-then-at-prx-clause-fault
returns-then-at-prx-clause-fault c =
    let fields = c.args.fields.now in
    let size = c.args.size in
    let d = c.args.opened.now.terms in
    let frq = c.args.opened.now.frq.now in
    let lists = lists_in fields size d frq in
    subst (λ (s : Spot). IsFirstFault Prx (prx_plan fields d.numbers size (infos_of d) lists) c.args.prx.now s) (sym c.at.ensures)
    (refl, positions-trailing fields size d frq lists c.requires.listed c.args.prx.now (λ i. (c.type_inv.prx i).fits) c.loop-info.cursor.passed c.loop-info.at (none_is d c.loop-info.cursor c.loop-info.invariant.0 c.in_default.ensures.term) c.loop-info.invariant.1 c.if-at-prx.true)

pub returns-clause-posted : goal.returns-clause-posted
returns-clause-posted c =
    let fields = c.args.fields.now in
    let size = c.args.size in
    let d = c.args.opened.now.terms in
    let frq = c.args.opened.now.frq.now in
    let lists = lists_in fields size d frq in
    positions-all fields size d frq lists c.requires.listed c.args.prx.now (λ i. (c.type_inv.prx i).fits) c.loop-info.cursor.passed c.loop-info.at (none_is d c.loop-info.cursor c.loop-info.invariant.0 c.in_default.ensures.term) c.if-at-prx.false c.loop-info.invariant.1
