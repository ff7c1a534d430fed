use Rattle.std.proofs.Common.{◌≡◌, ℕ, suc, ◌+◌, ◌-◌, ◌*◌, ◌/◌, ◌^◌, ◌<◌, ◌≤◌, inl, add-one, refl, sym, ap, subst, ◌∙◌, arith}
use Rattle.std.specs.Prelude.{min, ◌==◌, if◌then◌else◌}
use Rattle.freq_skips.specs.declared.rules.RuledTerm.{RuledTerm}
use Rattle.freq_skips.specs.Levels.{level_count, data_count, stride}
use Rattle.freq_skips.specs.Walks.{start_in, value_from}
use Rattle.lu_prims.specs.Steps.{ticked}
use Rattle.freq_skips.specs.Points.{is_highest, data_below, find_steps}
use Rattle.freq_skips.specs.Finding.{LevelsLeft, HasPassedData}
use Rattle.freq_skips.proofs.Powers.{stride-two}
use Rattle.freq_skips.proofs.LevelsLemmas.{power-less}
use Rattle.freq_skips.proofs.EnterLemmas.{led-within}
use Rattle.freq_skips.proofs.FindLemmas.{below-none, LevelsLeft-first, most-within}
use Rattle.freq_skips.proofs.SearchedLemmas.{level-searched, steps-left}
use Rattle.freq_skips.proofs.descent.descended.Goals as goal

pub loop-number-init : goal.loop-number-init
loop-number-init g c =
    let t = c.args.term.now in
    let frq = c.args.frq.now in
    let can = c.requires.search in
    let count = c.requires.count in
    record {
      within = omega arith;
      stride = c.requires.power;
      left = λ some. subst (λ (n : ℕ). LevelsLeft t frq n (t.info.freq + t.info.skip)) (sym count) (LevelsLeft-first t frq can (omega (arith, count)));
      passed = record { within = omega arith; level_within = inl refl; like = record { doc = refl; freq = refl; prox = refl; child = refl } };
      below = sym (ap (λ (n : ℕ). data_below (value_from t (start_in t frq)) c.args.target n) count ∙ below-none t frq c.args.target can);
      steps = ap (λ (n : ℕ). ticked (find_steps t (value_from t (start_in t frq)) c.args.target n) c.args.steps.now) count;
    }

pub most_data-requires-clause-stride : goal.most_data-requires-clause-stride
most_data-requires-clause-stride g c =
    let t = c.args.term.now in
    let n = c.loop-number.number - 1 in
    let is : c.loop-number.number ≡ suc n = omega (arith, c.loop-number-test.true) in
    subst (λ (k : ℕ). 2 ≤ k) (sym (c.loop-number.invariant.stride ∙ ap (λ (k : ℕ). t.rules.skip_interval ^ k) is)) (stride-two t.rules.skip_interval n c.requires.search.good.interval)

-- up to which datum the level is searched
most-is : (t : RuledTerm) (n stride_now count old most : ℕ) → stride_now ≡ stride t n → count ≡ level_count t
    → most ≡ (if n + 1 == count then t.info.doc_freq / stride_now else min (t.info.doc_freq / stride_now) (old + (t.rules.skip_interval - 1)))
    → most ≡ (if is_highest t n then data_count t n else min (data_count t n) (old + (t.rules.skip_interval - 1)))
most-is t n stride_now count old most at all e =
    e ∙ ap (λ (k : ℕ). if n + 1 == count then t.info.doc_freq / k else min (t.info.doc_freq / k) (old + (t.rules.skip_interval - 1))) at
    ∙ ap (λ (k : ℕ). if n + 1 == k then data_count t n else min (data_count t n) (old + (t.rules.skip_interval - 1))) all
    ∙ ap (λ (k : ℕ). if k == level_count t then data_count t n else min (data_count t n) (old + (t.rules.skip_interval - 1))) (add-one n)

pub loop-number-preserved : goal.loop-number-preserved
loop-number-preserved g c =
    let t = c.args.term.now in
    let frq = c.args.frq.now in
    let can = c.requires.search in
    let l = c.loop-number in
    let i = l.invariant in
    let n = l.number - 1 in
    let is : l.number ≡ suc n = omega (arith, c.loop-number-test.true) in
    let w = c.enter.new.walk in
    let new = c.pass_below.new.walk in
    let above = subst (λ (k : ℕ). HasPassedData t frq k l.walk.count l.walk.last) is i.passed in
    let power : l.stride ≡ stride t n = i.stride ∙ ap (λ (k : ℕ). t.rules.skip_interval ^ k) is in
    let s = t.rules.skip_interval in
    let most = most-is t n l.stride c.args.levels.now.count w.count c.most_data.result power c.requires.count c.most_data.ensures.most in
    let old : w.count ≡ l.walk.count * s = c.enter.ensures.count in
    let within : w.count ≤ data_count t n = subst (λ (k : ℕ). k ≤ data_count t n) (sym old) (led-within t n l.walk.count can.good.interval above.within) in
    let ends = most-within t n w.count c.most_data.result within most in
    let passes = c.pass_below.ensures.passes frq c.enter.ensures.stands ends.0 ends.1 in
    let below = i.below ∙ ap (λ (k : ℕ). data_below (value_from t (start_in t frq)) c.args.target k) is in
    let count = c.requires.count in
    let le = i.within in
    let lt : n < level_count t = omega (arith, count, le, is) in
    let done_level = level-searched t frq c.args.target n l.walk.count w.count new.count c.most_data.result can lt above.within above.level_within below old most passes.1 within in
    record {
      within = omega (arith, le);
      stride = power-less s l.number n l.stride c.from-interval.result can.good.interval is i.stride c.from-interval.ensures;
      left = c.level_bounds-level.ensures.left;
      passed = passes.0;
      below = done_level.below;
      steps = steps-left t frq c.args.target l.number n w.count new.count c.most_data.result l.steps c.pass_below.new.steps is done_level c.pass_below.ensures.steps ∙ i.steps;
    }

pub returns-clause-steps : goal.returns-clause-steps
unfolding find_steps
returns-clause-steps g c =
    let none : c.loop-number.number ≡ 0 = omega (arith, c.loop-number-test.false) in
    let v = value_from c.args.term.now (start_in c.args.term.now c.args.frq.now) in
    sym (ap (λ (n : ℕ). ticked (find_steps c.args.term.now v c.args.target n) c.loop-number.steps) none) ∙ c.loop-number.invariant.steps
