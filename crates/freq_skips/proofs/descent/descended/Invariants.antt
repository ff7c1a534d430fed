use Rattle.std.proofs.Common.{◌≡◌, ◌^◌, ◌<◌, ◌≤◌}
use Rattle.freq_skips.specs.Levels.{level_count}
use Rattle.freq_skips.specs.Walks.{start_in, value_from}
use Rattle.lu_prims.specs.Steps.{ticked}
use Rattle.freq_skips.specs.Points.{data_below, find_steps}
use Rattle.freq_skips.specs.Finding.{LevelsLeft, HasPassedData}
use Rattle.freq_skips.proofs.descent.descended.Given as goal

abbrev pub invariant-loop-number : goal.invariant-loop-number
invariant-loop-number g l =
    let v = value_from l.term (start_in l.term l.frq) in
    record {
      within : l.number ≤ l.levels.count;
      stride : l.stride ≡ l.term.rules.skip_interval ^ l.number;
      left : 0 < l.number → LevelsLeft l.term l.frq l.number l.place;
      passed : HasPassedData l.term l.frq l.number l.walk.count l.walk.last;
      below : l.walk.count ≡ data_below v l.target l.number;
      steps : ticked (find_steps l.term v l.target l.number) l.steps ≡ ticked (find_steps l.term v l.target (level_count l.term)) l.initial.steps;
    }

abbrev pub decreases-loop-number : goal.decreases-loop-number
decreases-loop-number g l = l.number
