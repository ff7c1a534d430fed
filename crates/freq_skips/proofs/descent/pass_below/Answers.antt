use Rattle.std.proofs.Common.{◌≡◌, ◌⊎◌, ℕ, suc, ◌+◌, ◌-◌, ◌<◌, ◌≤◌, inl, inr, refl, sym, ap, subst, ◌∙◌, arith}
use Rattle.std.specs.Prelude.{slice_index_or, min}
use Rattle.std.proofs.lemmas.Bool.{cases_lt}
use Rattle.freq_skips.specs.Levels.{no_point}
use Rattle.freq_skips.specs.Walks.{points_in}
use Rattle.lu_prims.specs.Steps.{ticked}
use Rattle.freq_skips.proofs.PassLemmas.{StandsOn-next, StandsOn-unread}
use Rattle.lu_prims.proofs.StepLemmas.{ticked-next}
use Rattle.freq_skips.proofs.descent.pass_below.Goals as goal

pub loop-walk-init : goal.loop-walk-init
loop-walk-init g c = record {
  grows = omega arith;
  within = inl refl;
  steps = ap (λ (n : ℕ). ticked n c.args.steps.now) (let e : 0 ≡ c.args.walk.now.count - c.args.walk.now.count = omega arith in e);
  passes = λ frq stands le most. (stands, le, λ j ge lt. absurd (omega arith));
}

-- one step more
step-more : (tick steps old count first : ℕ) → first ≤ count → tick ≡ min (steps + 1) 18446744073709551615 → steps ≡ ticked (count - first) old → tick ≡ ticked (count + 1 - first) old
step-more tick steps old count first le is before =
    is ∙ ap (λ (n : ℕ). min (n + 1) 18446744073709551615) before ∙ ticked-next (count - first) old ∙ ap (λ (n : ℕ). ticked n old) (let e : count - first + 1 ≡ count + 1 - first = omega arith in e)

step-last : (tick steps old count first most : ℕ) → first ≤ count → count < most → tick ≡ min (steps + 1) 18446744073709551615 → steps ≡ ticked (count - first) old → tick ≡ ticked (min (suc count) most - first) old
step-last tick steps old count first most le lt is before =
    step-more tick steps old count first le is before ∙ ap (λ (n : ℕ). ticked n old) (let e : count + 1 - first ≡ min (suc count) most - first = omega arith in e)

pub loop-walk-preserved : goal.loop-walk-preserved
loop-walk-preserved g c =
    let l = c.loop-walk in
    let i = l.invariant in
    let told = c.in-Some.ensures in
    let lt = c.loop-walk-test.true in
    record {
      grows = let le = i.grows in omega arith;
      within = inr (omega arith);
      steps = step-more c.tick.new.self l.steps c.args.steps.now l.walk.count c.args.walk.now.count i.grows c.tick.ensures i.steps;
      passes = λ frq stands le most.
          let h = i.passes frq stands le most in
          let next = StandsOn-next c.args.term.now frq c.args.sought.now.level l.walk.count l.walk.last l.walk.cur told.read.0 c.in-Some.point c.good_datum.new.cur h.0 (omega arith) told.read.1 told.read.2 in
          let low : c.in-Some.point.doc < c.args.sought.now.target = omega (arith, c.if-point-from.false, c.from.ensures) in (
            next.0,
            omega arith,
            λ j ge below. elim (cases_lt j l.walk.count) [
              | inl before ↦ h.2 j ge before
              | inr last ↦ let same : j ≡ l.walk.count = omega arith in
                  subst (λ (n : ℕ). (slice_index_or (points_in c.args.term.now frq c.args.sought.now.level) n no_point).doc < c.args.sought.now.target) (sym same) (omega (arith, low, next.1))
            ],
          );
    }

pub returns-in-None-clause-passes : goal.returns-in-None-clause-passes
returns-in-None-clause-passes g c = λ frq stands le most.
    let l = c.loop-walk in
    let h = l.invariant.passes frq stands le most in
    let lt = c.loop-walk-test.true in
    absurd (StandsOn-unread c.args.term.now frq c.args.sought.now.level l.walk.count l.walk.last l.walk.cur c.in-None.ensures.read.0 h.0 (omega arith) c.in-None.ensures.read.1)

pub returns-in-None-clause-steps : goal.returns-in-None-clause-steps
returns-in-None-clause-steps g c =
    let l = c.loop-walk in step-last c.tick.new.self l.steps c.args.steps.now l.walk.count c.args.walk.now.count c.args.sought.now.most l.invariant.grows c.loop-walk-test.true c.tick.ensures l.invariant.steps

pub returns-then-point-from-clause-passes : goal.returns-then-point-from-clause-passes
returns-then-point-from-clause-passes g c = λ frq stands le most.
    let l = c.loop-walk in
    let h = l.invariant.passes frq stands le most in
    let told = c.in-Some.ensures in
    let lt = c.loop-walk-test.true in
    let next = StandsOn-next c.args.term.now frq c.args.sought.now.level l.walk.count l.walk.last l.walk.cur told.read.0 c.in-Some.point c.good_datum.new.cur h.0 (omega arith) told.read.1 told.read.2 in (
      h.0.passed,
      record { grows = l.invariant.grows; within = h.1; below = h.2; stops = inr (lt, omega (arith, next.1, c.if-point-from.true, c.from.ensures)) },
    )

pub returns-then-point-from-clause-steps : goal.returns-then-point-from-clause-steps
returns-then-point-from-clause-steps g c =
    let l = c.loop-walk in step-last c.tick.new.self l.steps c.args.steps.now l.walk.count c.args.walk.now.count c.args.sought.now.most l.invariant.grows c.loop-walk-test.true c.tick.ensures l.invariant.steps

-- at the end no datum is left to read
step-none : (steps old count first most : ℕ) → most ≤ count → (count ≡ first) ⊎ (count ≤ most) → steps ≡ ticked (count - first) old → steps ≡ ticked (min (suc count) most - first) old
step-none steps old count first most ge which is = elim which [
  | inl same ↦ is ∙ ap (λ (n : ℕ). ticked n old) (let e : count - first ≡ min (suc count) most - first = omega arith in e)
  | inr le ↦ is ∙ ap (λ (n : ℕ). ticked n old) (let e : count - first ≡ min (suc count) most - first = omega arith in e)
]

pub returns : goal.returns
returns g c =
    let l = c.loop-walk in
    let ge = c.loop-walk-test.false in
    record {
      steps = step-none l.steps c.args.steps.now l.walk.count c.args.walk.now.count c.args.sought.now.most ge l.invariant.within l.invariant.steps;
      passes = λ frq stands le most. let h = l.invariant.passes frq stands le most in (h.0.passed, record { grows = l.invariant.grows; within = h.1; below = h.2; stops = inl (omega (arith, h.1)) });
    }
