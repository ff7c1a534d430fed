use Rattle.lu_grammar.specs.Bytes.{place_in}
use Rattle.std.proofs.Common.{◌≡◌, ℕ, suc, ◌-◌, ◌∷◌, arith, subst, ◌∙◌}
use Rattle.freq_skips.specs.Entries.{postings_from}
use Rattle.freq_skips.specs.Walking.{StandAbove}
use Rattle.freq_skips.proofs.LevelsLemmas.{levels-none, levels-next, levels-fault, power-less}
use Rattle.freq_skips.proofs.levels.check_levels.Goals as goal

pub returns-in-Err : goal.returns-in-Err
returns-in-Err c =
    let t = c.args.entries.now.term in
    let frq = c.args.entries.now.frq.now in
    let ps = postings_from t (place_in frq c.args.entries.now.start) in
    let i = c.loop-number.invariant in
    let m = c.loop-number.number - 1 in
    let is : c.loop-number.number ≡ suc m = omega arith in
    let stand = subst (λ (k : ℕ). StandAbove t ps k i.points frq c.loop-number.above) is i.stand in
    let fault = c.in-Err.ensures i.points stand in
    (fault.0, i.so_far ∙ levels-fault t ps c.loop-number.number m i.points (place_in frq c.loop-number.place) _ is fault.1)

pub loop-number-preserved : goal.loop-number-preserved
loop-number-preserved c =
    let t = c.args.entries.now.term in
    let frq = c.args.entries.now.frq.now in
    let ps = postings_from t (place_in frq c.args.entries.now.start) in
    let i = c.loop-number.invariant in
    let m = c.loop-number.number - 1 in
    let is : c.loop-number.number ≡ suc m = omega arith in
    let stand = subst (λ (k : ℕ). StandAbove t ps k i.points frq c.loop-number.above) is i.stand in
    let good = c.in-Ok.ensures i.points stand in
    record {
      stride = power-less t.rules.skip_interval c.loop-number.number m c.loop-number.stride c.from-interval.result c.requires.interval is i.stride c.from-interval.ensures;
      few = omega arith;
      place_within = good.end_within;
      above_within = good.begin_within;
      points = good.along.points ∷ i.points;
      stand = good.data_stand;
      so_far = i.so_far ∙ levels-next t ps c.loop-number.number m i.points (place_in frq c.loop-number.place) good.along (place_in frq c.in-Ok.places.end) is good.reads;
    }

pub returns : goal.returns
returns c =
    let t = c.args.entries.now.term in
    let frq = c.args.entries.now.frq.now in
    let i = c.loop-number.invariant in
    record {
      points = i.points;
      reads = i.so_far ∙ levels-none t (postings_from t (place_in frq c.args.entries.now.start)) c.loop-number.number i.points (place_in frq c.loop-number.place) (omega arith);
      end_within = i.place_within;
    }
