-- What a walk over the entries of a term tells of its occurrences.
use Rattle.std.specs.Prelude.{◌≡◌, ℕ, ◌+◌, ◌^◌, ◌<◌, Bool}
use Rattle.lu_types.specs.declared.term.TermInfo.{TermInfo}
use Rattle.freq_skips.specs.Levels.{level_count}
use Rattle.freq_skips.specs.Walks.{WalkState}
use Rattle.positions.specs.Occurrences.{PostedTerm}

-- the term that a walk goes over
abbrev pub posted_by : WalkState → PostedTerm
posted_by w = record { term = w.term; value = w.value }

-- the entry with this index is the one that the walk answered last, of the term with this line, in a field with payloads or without
pub record HasAnswered (w : WalkState) (info : TermInfo) (index : ℕ) (payloads : Bool) : Type 0 where
  pub passed : w.passed ≡ index + 1
  pub info_is : info ≡ w.term.info
  pub payloads_are : payloads ≡ w.term.rules.payloads
  pub few : level_count w.term < 2 ^ 32
