use Rattle.std.proofs.Common.{◌≤◌, ℕ, eqb, length, Option, sym, ap, subst, arith}
use Rattle.lu_grammar.specs.Plans.{read_plan, times}
use Rattle.lu_types.specs.declared.kind.FileKind.TheVariants.{Tis}
use Rattle.term_dict.specs.Dictionary.{within, term_kind, no_terms}
use Rattle.term_dict.specs.Last.{term_of_last}
use Rattle.term_dict.specs.Checks.{IsNextTerm}
use Rattle.term_dict.proofs.LoopLemmas.{HasRead-none, HasRead-more, HasRead-fault, IsSoundTerm-none, IsBrokenSo-same, ord_max-above}
use Rattle.term_dict.proofs.checking.check_terms.Goals as goal

pub loop-number-init : goal.loop-number-init
loop-number-init c = HasRead-none (within c.args.fields.now c.args.documents) c.args.numbers.now.skip_interval c.args.cur.now (term_of_last c.args.last.now) c.requires (IsSoundTerm-none _ c.requires)

pub returns-in-Ok-Some-clause-err : goal.returns-in-Ok-Some-clause-err
returns-in-Ok-Some-clause-err c =
    let h = c.loop-number.invariant in
    let standing = within c.args.fields.now c.args.documents in
    let k = c.args.numbers.now.skip_interval in
    let next = subst (λ (o : Option ℕ). IsNextTerm standing k h.so_far c.loop-number.cur c.next_term.new.cur (term_of_last c.next_term.new.last) o) c.in-Ok-Some.field-0-is
    (c.in-Ok-Some.ensures.next h.so_far h.is_last (ap (λ (n : ℕ). eqb n 0) (sym h.count))) in
    IsBrokenSo-same Tis c.loop-number.cur.place c.in-Ok-Some.rule (read_plan (times (term_kind standing k) c.args.numbers.now.count no_terms) c.args.cur.now) c.fault_at.result
    (HasRead-fault standing k c.args.cur.now c.loop-number.number c.args.numbers.now.count c.loop-number.cur (term_of_last c.loop-number.last) c.loop-number.longest c.next_term.new.cur (term_of_last c.next_term.new.last) c.in-Ok-Some.rule h c.loop-number-test.true next)
    (rw c.place-place.ensures at c.fault_at.ensures)

pub loop-number-preserved : goal.loop-number-preserved
loop-number-preserved c =
    let h = c.loop-number.invariant in
    let standing = within c.args.fields.now c.args.documents in
    let k = c.args.numbers.now.skip_interval in
    let next = subst (λ (o : Option ℕ). IsNextTerm standing k h.so_far c.loop-number.cur c.next_term.new.cur (term_of_last c.next_term.new.last) o) c.in-Ok-None.field-0-is
    (c.in-Ok-None.ensures.next h.so_far h.is_last (ap (λ (n : ℕ). eqb n 0) (sym h.count))) in
    let above = ord_max-above c.loop-number.longest c.len.result in
    let le : c.loop-number.longest ≤ c.max-longest.result = omega (arith, above.0) in
    let fits : length c.next_term.new.last.text.items ≤ c.max-longest.result = omega (arith, above.1) in
    HasRead-more standing k c.args.cur.now c.loop-number.number c.loop-number.cur (term_of_last c.loop-number.last) c.loop-number.longest c.next_term.new.cur (term_of_last c.next_term.new.last) c.max-longest.result h next
    (c.in-Ok-None.ensures.sound c.in-Ok-None.field-0-is) le fits
