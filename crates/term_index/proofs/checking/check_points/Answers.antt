use Rattle.std.proofs.Common.{◌≡◌, ◌*◌, ◌-◌, ℕ, length, take, Option, sym, ap, subst, ◌∙◌, arith}
use Rattle.lu_grammar.specs.Plans.{read_plan, times}
use Rattle.lu_types.specs.declared.kind.FileKind.TheVariants.{Tii}
use Rattle.lu_types.specs.declared.term.TermNumbers.{TermNumbers}
use Rattle.term_dict.specs.Terms.{DictionaryTerm}
use Rattle.term_dict.specs.Index.{index_kind, no_entries, entry_count}
use Rattle.term_dict.specs.Walk.{TermWalk}
use Rattle.term_dict.proofs.LoopLemmas.{IsBrokenSo-same}
use Rattle.term_index.specs.Points.{last_term_of, wanted_of, progress, IsNextPoint}
use Rattle.term_index.proofs.PointLoop.{HasPoints-none, HasPoints-more, HasPoints-fault, interval_begins, turn}
use Rattle.term_index.proofs.checking.check_points.Goals as goal

pub loop-number-init : goal.loop-number-init
loop-number-init c = HasPoints-none c.args.cur.now (last_term_of c.new-last.result) c.new-last.result.place c.args.cursor.now c.requires.start c.new-last.ensures.last c.new-last.ensures.place

pub pass_interval-passed-requires-clause-at : goal.pass_interval-passed-requires-clause-at
pass_interval-passed-requires-clause-at c =
    let n = c.loop-number.number in
    ap (λ (w : TermWalk). w.passed) c.loop-number.invariant.walk ∙ ap (λ (m : TermNumbers). (n - 1) * m.index_interval) (sym c.requires.numbers)

pub pass_interval-passed-requires-clause-enough : goal.pass_interval-passed-requires-clause-enough
pass_interval-passed-requires-clause-enough c =
    let n = c.loop-number.number in
    let terms = ap (λ (w : TermWalk). length w.dictionary.terms) c.loop-number.invariant.walk in
    omega (arith, terms, c.requires.terms, interval_begins c.args.numbers.now n c.requires.bounded (omega (arith, c.entry_count-number-end.ensures)))

pub next_point-requires : goal.next_point-requires
next_point-requires c = ap (take c.pass_interval-passed.result.shared) c.loop-number.invariant.text ∙ c.pass_interval-passed.ensures.shared

pub returns-in-Ok-Some-clause-err : goal.returns-in-Ok-Some-clause-err
returns-in-Ok-Some-clause-err c =
    let d = c.args.cursor.now.dictionary in
    let n = c.loop-number.number in
    let h = c.loop-number.invariant in
    let last = last_term_of c.loop-number.last in
    let place = c.loop-number.last.place in
    let after = c.pass_interval-passed.new.cursor in
    let wanted = wanted_of c.pass_interval-passed.result.info after in
    let t = turn d c.args.numbers.now n _ c.loop-number.cursor after wanted c.requires.numbers c.requires.bounded c.requires.starts (omega (arith, c.entry_count-number-end.ensures)) h.walk c.pass_interval-passed.ensures.cursor c.pass_interval-passed.ensures.wanted in
    let next = subst (λ (o : Option ℕ). IsNextPoint d (progress n last place) c.loop-number.cur c.next_point.new.cur o) c.in-Ok-Some.field-0-is
    (c.in-Ok-Some.ensures.next d n (ap (λ (m : TermNumbers). m.skip_interval) c.requires.numbers) t.wanted_is t.place_is) in
    IsBrokenSo-same Tii c.loop-number.cur.place c.in-Ok-Some.rule (read_plan (times (index_kind d) (entry_count c.args.numbers.now) no_entries) c.args.cur.now) c.fault_at.result
    (HasPoints-fault d c.args.cur.now n (entry_count c.args.numbers.now) c.loop-number.cur last place c.loop-number.cursor c.next_point.new.cur c.in-Ok-Some.rule h (omega (arith, c.entry_count-number-end.ensures)) next)
    (rw c.place-place.ensures at c.fault_at.ensures)

pub loop-number-preserved : goal.loop-number-preserved
loop-number-preserved c =
    let d = c.args.cursor.now.dictionary in
    let n = c.loop-number.number in
    let h = c.loop-number.invariant in
    let last = last_term_of c.loop-number.last in
    let place = c.loop-number.last.place in
    let after = c.pass_interval-passed.new.cursor in
    let wanted = wanted_of c.pass_interval-passed.result.info after in
    let t = turn d c.args.numbers.now n _ c.loop-number.cursor after wanted c.requires.numbers c.requires.bounded c.requires.starts (omega (arith, c.entry_count-number-end.ensures)) h.walk c.pass_interval-passed.ensures.cursor c.pass_interval-passed.ensures.wanted in
    let next = subst (λ (o : Option ℕ). IsNextPoint d (progress n last place) c.loop-number.cur c.next_point.new.cur o) c.in-Ok-None.field-0-is
    (c.in-Ok-None.ensures.next d n (ap (λ (m : TermNumbers). m.skip_interval) c.requires.numbers) t.wanted_is t.place_is) in
    let good = c.in-Ok-None.ensures.good c.in-Ok-None.field-0-is in
    HasPoints-more d c.args.cur.now n c.loop-number.cur last place c.loop-number.cursor c.next_point.new.cur (last_term_of c.next_point.new.last) c.next_point.new.last.place after h next (good.0 ∙ t.wanted_is) (good.1 ∙ t.place_is) t.walk (ap (λ (x : DictionaryTerm). x.text) good.0)

pub returns-clause-ok : goal.returns-clause-ok
returns-clause-ok c =
    let d = c.args.cursor.now.dictionary in
    let all : c.loop-number.number ≡ entry_count c.args.numbers.now = omega (arith, c.entry_count-number-end.ensures, c.loop-number-test.false, c.loop-number.auto.number-end) in
    (progress c.loop-number.number (last_term_of c.loop-number.last) c.loop-number.last.place, ap (λ (n : ℕ). read_plan (times (index_kind d) n no_entries) c.args.cur.now) (sym all) ∙ c.loop-number.invariant.read)
