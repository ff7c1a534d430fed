-- What is asked of a term before its points are looked up (docs/FORMAT.md, "Positions"): its skip data tell where the positions of entries start.
use Rattle.std.specs.Prelude.{◌≡◌, ◌<◌, ◌≤◌, ◌^◌, ◌+◌, ◌-◌, ◌*◌, ℕ, suc}
use Rattle.freq_skips.specs.declared.rules.RuledTerm.{RuledTerm}
use Rattle.freq_skips.specs.Levels.{level_count, stride, data_count}
use Rattle.freq_skips.specs.Terms.{TermData}
use Rattle.freq_skips.specs.Walks.{point_at}

-- the first k entries have so many bytes of positions: these do not fall, end below 2^31, and every skip datum tells the one that belongs to its entry
pub record HasProxPlaces (t : RuledTerm) (value : TermData) (prox : ℕ → ℕ) : Type 0 where
  pub rises : (j k : ℕ) → j ≤ k → k < t.info.doc_freq → prox j ≤ prox k
  pub within : (k : ℕ) → k < t.info.doc_freq → t.info.prox + prox k < 2 ^ 31
  pub sums : (level m : ℕ) → level < level_count t → m < data_count t level → (point_at value level m).prox ≡ prox (suc m * stride t level - 1)
