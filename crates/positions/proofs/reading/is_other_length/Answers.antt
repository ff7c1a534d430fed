use Rattle.std.proofs.Common.{◌≡◌, ℕ, ◌+◌, ◌^◌, ◌<◌, ◌≤◌, false, rules, below_more, inl, inr, sym, arith}
use Rattle.std.proofs.lemmas.Bool.{cases_lt}
use Rattle.freq_skips.specs.Levels.{level_count}
use Rattle.positions.specs.Occurrences.{carries_other_length}
use Rattle.positions.specs.Walked.{posted_by}
use Rattle.positions.proofs.LevelTests.{any_below-none, any_below-some, level_count-most, length-true, length-false, length-none}
use Rattle.positions.proofs.reading.is_other_length.Goals as goal

pub loop-datum-init : goal.loop-datum-init
loop-datum-init c = record { within = omega arith; below = λ n lt. absurd (omega arith) }

pub returns-then-datum-force : goal.returns-then-datum-force
returns-then-datum-force c =
    let w = c.args.walk.now in
    let has = c.in-Some.ensures in
    sym (any_below-some (carries_other_length (posted_by w) w.passed c.args.force) (level_count w.term) c.loop-datum.number has.0.0 (length-true (posted_by w) w.passed c.args.force c.loop-datum.number c.in-Some.datum has.0 has.1 c.if-datum-force.true))

pub overflow_add-number : goal.overflow_add-number
overflow_add-number c =
    let lt : c.loop-datum.number + 1 < 2 ^ 32 = omega (arith, c.in-Some.ensures.0.0, c.requires.few) in search rules

pub loop-datum-smaller : goal.loop-datum-smaller
loop-datum-smaller c = let lt : c.loop-datum.number < level_count c.args.walk.now.term = c.in-Some.ensures.0.0 in omega arith

pub loop-datum-preserved : goal.loop-datum-preserved
loop-datum-preserved c =
    let w = c.args.walk.now in
    let has = c.in-Some.ensures in
    let lt : c.loop-datum.number < level_count w.term = has.0.0 in
    record {
      within = omega arith;
      below = below_more (λ (n : ℕ). carries_other_length (posted_by w) w.passed c.args.force n ≡ false) c.loop-datum.number c.loop-datum.invariant.below
          (length-false (posted_by w) w.passed c.args.force c.loop-datum.number c.in-Some.datum has.1 c.if-datum-force.false);
    }

pub returns : goal.returns
returns c =
    let w = c.args.walk.now in
    sym (any_below-none (carries_other_length (posted_by w) w.passed c.args.force) (level_count w.term) (λ n lt. elim (cases_lt n c.loop-datum.number) [
      | inl low ↦ c.loop-datum.invariant.below n low
      | inr high ↦ length-none (posted_by w) w.passed c.args.force c.loop-datum.number n c.requires.some high lt c.in_default.ensures
    ]))
