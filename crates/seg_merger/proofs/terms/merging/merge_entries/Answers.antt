use Rattle.std.proofs.Common.{◌≡◌, ◌<◌, ◌++◌, ◌||◌, true, false, List, length, get_or, sym, ap, ◌∙◌, subst}
use Rattle.std.specs.Prelude.{slice_set}
use Rattle.std.specs.List.{AllByRecursion}
use Rattle.lu_model.specs.Index.{IndexedEntry}
use Rattle.lu_model.specs.Contents.{renumbered}
use Rattle.seg_merger.specs.TermRests.{Rest, count, entries_of_all, is_head}
use Rattle.seg_merger.specs.TermSources.{entries_of_first, first_term}
use Rattle.seg_merger.specs.TermSteps.{IsGoing, IsInTerm, TermPlace}
use Rattle.seg_merger.proofs.PutLemmas.{going-next}
use Rattle.seg_merger.proofs.StepLemmas.{Stepped}
use Rattle.seg_merger.proofs.TurnLemmas.{either-none, either-some, ended-none, ended-past, gone, good-here, head-some, low-first, some-is, turn, turn-entries, turn-shorter}
use Rattle.seg_merger.proofs.terms.merging.merge_entries.Goals as goal
use Rattle.seg_merger.proofs.terms.merging.merge_entries.Goals.{then-some, else-some}

pub add_first-requires-clause-some : goal.add_first-requires-clause-some
add_first-requires-clause-some g c =
    let r = c.first-in-loop-contest.result.now in
    let t = c.args.current.now in
    let rests = c.loop-contest.contest.rests in
    let k = c.loop-contest.contest.first in
    let head : is_head t (first_term (get_or rests k r).left) ≡ true = ap (is_head t) (sym (c.head.ensures ∙ ap (λ (x : Rest). first_term x.left) (c.first.ensures.slot r))) ∙ sym c.is.ensures ∙ c.loop-contest-test.true in
    subst (λ (x : Rest). 0 < length x.left) (sym (c.first-in-loop-contest.ensures.slot r)) (head-some t (get_or rests k r).left head)

pub add_first-requires-clause-low : goal.add_first-requires-clause-low
add_first-requires-clause-low g c =
    let r = c.first-in-loop-contest.result.now in
    let rests = c.loop-contest.contest.rests in
    let k = c.loop-contest.contest.first in
    subst (λ (x : Rest). AllByRecursion (λ (e : IndexedEntry). e.document < x.size) (entries_of_first x.left)) (sym (c.first-in-loop-contest.ensures.slot r))
    (low-first (get_or rests k r) (good-here c.args.current.now rests k r c.loop-contest.invariant.good c.requires.name c.loop-contest.invariant.least c.first.ensures.first))

pub add_first-requires-clause-going : goal.add_first-requires-clause-going
add_first-requires-clause-going g c =
    let r = c.first-in-loop-contest.result.now in
    let t = c.args.current.now in
    let rests = c.loop-contest.contest.rests in
    let k = c.loop-contest.contest.first in
    let head : is_head t (first_term (get_or rests k r).left) ≡ true = ap (is_head t) (sym (c.head.ensures ∙ ap (λ (x : Rest). first_term x.left) (c.first.ensures.slot r))) ∙ sym c.is.ensures ∙ c.loop-contest-test.true in
    let split = turn-entries t rests k r c.loop-contest.invariant.good c.requires.name c.loop-contest.invariant.least c.first.ensures.first c.args.bits head r (c.first-in-loop-contest.ensures.slot r) in
    (entries_of_all c.args.bits (slice_set rests k (gone (get_or rests k r))) t, subst (λ es. IsGoing c.args.bits es c.loop-contest.writer) split c.loop-contest.invariant.going)

pub returns-in-Err-clause-adds : goal.returns-in-Err-clause-adds
returns-in-Err-clause-adds g c at all h =
    let r = c.first-in-loop-contest.result.now in
    let t = c.args.current.now in
    let rests = c.loop-contest.contest.rests in
    let k = c.loop-contest.contest.first in
    let head : is_head t (first_term (get_or rests k r).left) ≡ true = ap (is_head t) (sym (c.head.ensures ∙ ap (λ (x : Rest). first_term x.left) (c.first.ensures.slot r))) ∙ sym c.is.ensures ∙ c.loop-contest-test.true in
    let split = turn-entries t rests k r c.loop-contest.invariant.good c.requires.name c.loop-contest.invariant.least c.first.ensures.first c.args.bits head r (c.first-in-loop-contest.ensures.slot r) in
    c.in-Err.ensures.adds at all (entries_of_all c.args.bits (slice_set rests k (gone (get_or rests k r))) t) (subst (λ es. IsInTerm at all es c.loop-contest.writer) split (c.loop-contest.invariant.adds at all h))

pub loop-contest-smaller : goal.loop-contest-smaller
loop-contest-smaller g c =
    let r = c.first-in-loop-contest.result.now in
    let t = c.args.current.now in
    let rests = c.loop-contest.contest.rests in
    let k = c.loop-contest.contest.first in
    let head : is_head t (first_term (get_or rests k r).left) ≡ true = ap (is_head t) (sym (c.head.ensures ∙ ap (λ (x : Rest). first_term x.left) (c.first.ensures.slot r))) ∙ sym c.is.ensures ∙ c.loop-contest-test.true in
    subst (λ ys. count ys < count rests) (sym (c.advance.ensures r)) (turn-shorter t rests k r c.loop-contest.invariant.good c.requires.name c.loop-contest.invariant.least c.first.ensures.first head)

pub loop-contest-preserved : goal.loop-contest-preserved
loop-contest-preserved g c =
    let inv = c.loop-contest.invariant in
    let bits = c.args.bits in
    let r = c.first-in-loop-contest.result.now in
    let t = c.args.current.now in
    let rests = c.loop-contest.contest.rests in
    let k = c.loop-contest.contest.first in
    let new = c.advance.new.self.rests in
    let head : is_head t (first_term (get_or rests k r).left) ≡ true = ap (is_head t) (sym (c.head.ensures ∙ ap (λ (x : Rest). first_term x.left) (c.first.ensures.slot r))) ∙ sym c.is.ensures ∙ c.loop-contest-test.true in
    let moved : new ≡ slice_set rests k (gone (get_or rests k r)) = c.advance.ensures r in
    let step = subst (Stepped t rests bits k r) (sym moved) (turn t rests k r inv.good c.requires.name inv.least c.first.ensures.first bits head) in
    let own = renumbered bits r.base r.deleted (entries_of_first r.left) in
    let split : entries_of_all bits rests t ≡ own ++ entries_of_all bits new t =
    turn-entries t rests k r inv.good c.requires.name inv.least c.first.ensures.first bits head r (c.first-in-loop-contest.ensures.slot r) ∙ ap (λ ys. own ++ entries_of_all bits ys t) (sym moved) in
    let adds : (at : TermPlace) (all : List IndexedEntry) → IsInTerm at all (entries_of_all bits rests t) c.loop-contest.writer → IsInTerm at all (entries_of_all bits new t) c.add_first.new.writer =
    λ at all h. c.in-Ok.ensures.adds at all (entries_of_all bits new t) (subst (λ es. IsInTerm at all es c.loop-contest.writer) split h) in
    let either : c.if-some.some ≡ (c.loop-contest.some || c.in-Ok.added) = elim c.if-some.branch [
      | then-some w ↦ w.some-is ∙ w.if-some.true ∙ sym (ap (λ b. b || c.in-Ok.added) w.if-some.true)
      | else-some w ↦ w.some-is ∙ sym (ap (λ b. b || c.in-Ok.added) w.if-some.false)
    ] in
    record {
      good = step.good;
      least = step.least;
      going = going-next bits (entries_of_all bits rests t) (entries_of_all bits new t) c.loop-contest.writer c.add_first.new.writer adds inv.going;
      adds = λ at all h. adds at all (inv.adds at all h);
      passed = step.passed ∙ inv.passed;
      none = either-none c.loop-contest.some c.in-Ok.added c.if-some.some own (entries_of_all bits new t) (entries_of_all bits rests t) (entries_of_all bits c.args.contest.now.rests t) either c.in-Ok.ensures.some split inv.none;
      some = either-some c.loop-contest.some c.in-Ok.added c.if-some.some own (entries_of_all bits new t) (entries_of_all bits rests t) (entries_of_all bits c.args.contest.now.rests t) either c.in-Ok.ensures.some split inv.none inv.some;
    }

pub returns-clause-adds : goal.returns-clause-adds
returns-clause-adds g c at all h =
    let r = c.first.result.now in
    let t = c.args.current.now in
    let rests = c.loop-contest.contest.rests in
    let k = c.loop-contest.contest.first in
    let head : is_head t (first_term (get_or rests k r).left) ≡ false = ap (is_head t) (sym (c.head.ensures ∙ ap (λ (x : Rest). first_term x.left) (c.first.ensures.slot r))) ∙ sym c.is.ensures ∙ c.loop-contest-test.false in
    subst (λ es. IsInTerm at all es c.loop-contest.writer) (ended-none t rests k r c.loop-contest.invariant.good c.requires.name c.loop-contest.invariant.least c.first.ensures.first c.args.bits head) (c.loop-contest.invariant.adds at all h)

pub returns-clause-passed : goal.returns-clause-passed
returns-clause-passed g c =
    let r = c.first.result.now in
    let t = c.args.current.now in
    let rests = c.loop-contest.contest.rests in
    let k = c.loop-contest.contest.first in
    let head : is_head t (first_term (get_or rests k r).left) ≡ false = ap (is_head t) (sym (c.head.ensures ∙ ap (λ (x : Rest). first_term x.left) (c.first.ensures.slot r))) ∙ sym c.is.ensures ∙ c.loop-contest-test.false in
    sym (ended-past t rests k r c.loop-contest.invariant.good c.requires.name c.loop-contest.invariant.least c.first.ensures.first head) ∙ c.loop-contest.invariant.passed

pub returns-clause-some : goal.returns-clause-some
returns-clause-some g c =
    let r = c.first.result.now in
    let t = c.args.current.now in
    let rests = c.loop-contest.contest.rests in
    let k = c.loop-contest.contest.first in
    let head : is_head t (first_term (get_or rests k r).left) ≡ false = ap (is_head t) (sym (c.head.ensures ∙ ap (λ (x : Rest). first_term x.left) (c.first.ensures.slot r))) ∙ sym c.is.ensures ∙ c.loop-contest-test.false in
    some-is c.loop-contest.some (entries_of_all c.args.bits rests t) (entries_of_all c.args.bits c.args.contest.now.rests t) c.loop-contest.invariant.none c.loop-contest.invariant.some
    (ended-none t rests k r c.loop-contest.invariant.good c.requires.name c.loop-contest.invariant.least c.first.ensures.first c.args.bits head)
