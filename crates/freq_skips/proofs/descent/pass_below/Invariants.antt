use Rattle.std.proofs.Common.{◌≡◌, ◌⊎◌, ℕ, ◌-◌, ◌<◌, ◌≤◌, List}
use Rattle.std.specs.Prelude.{slice_index_or}
use Rattle.freq_skips.specs.Levels.{no_point, data_count}
use Rattle.freq_skips.specs.Walks.{points_in}
use Rattle.lu_prims.specs.Steps.{ticked}
use Rattle.freq_skips.specs.Finding.{StandsOn}
use Rattle.freq_skips.proofs.descent.pass_below.Given as goal

abbrev pub invariant-loop-walk : goal.invariant-loop-walk
invariant-loop-walk g l = record {
  grows : l.initial.walk.count ≤ l.walk.count;
  within : (l.walk.count ≡ l.initial.walk.count) ⊎ (l.walk.count ≤ l.sought.most);
  steps : l.steps ≡ ticked (l.walk.count - l.initial.walk.count) l.initial.steps;
  passes : (frq : List ℕ) → StandsOn l.term frq l.sought.level l.initial.walk.count l.initial.walk.last l.initial.walk.cur → l.initial.walk.count ≤ l.sought.most → l.sought.most ≤ data_count l.term l.sought.level
      → StandsOn l.term frq l.sought.level l.walk.count l.walk.last l.walk.cur × (l.walk.count ≤ l.sought.most)
      × ((j : ℕ) → l.initial.walk.count ≤ j → j < l.walk.count → (slice_index_or (points_in l.term frq l.sought.level) j no_point).doc < l.sought.target);
}

abbrev pub decreases-loop-walk : goal.decreases-loop-walk
decreases-loop-walk g l = l.sought.most - l.walk.count
