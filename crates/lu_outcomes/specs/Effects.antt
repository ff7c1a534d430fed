-- What an effect makes of the folder, and what it keeps.
use Rattle.std.specs.Prelude.{◌≡◌, ◌⊎◌, Option}
use Rattle.lu_dir.specs.Files.{Files, Leaves}
use Rattle.segment_infos.specs.LuceneNames.{IsGenerationNumber}
use Rattle.segment_infos.specs.Values.{IsCommit}
use Rattle.lu_folder.specs.Changes.{sealed, committed, IsMade, IsStopped}
use Rattle.lu_folder.specs.Keeping.{IsFreshChange, AreKept, AddsOnly, IsOld, IsNew}
use Rattle.lu_outcomes.specs.declared.outcome.Effect.{Effect}
use Rattle.lu_outcomes.specs.declared.outcome.Effect.TheVariants.{Nothing, Commit}

-- the folder that is to stand after an effect
abbrev pub standing : Effect → Files → Files
standing Nothing files = files
standing (Commit change) files = committed change files

-- what is left where the effect was stopped on the way; no effect cannot be
abbrev pub IsStoppedEffect : Effect → Option Files → Option Files → Type 0
IsStoppedEffect Nothing old new = ⊥
IsStoppedEffect (Commit change) old new = Leaves (IsStopped change) old new

-- what is left where the commit is made, and maybe not all names without use are removed; no effect makes none
abbrev pub IsMadeEffect : Effect → Option Files → Option Files → Type 0
IsMadeEffect Nothing old new = ⊥
IsMadeEffect (Commit change) old new = Leaves (IsMade change) old new

-- the effect loses nothing in a folder: what is committed is a commit, and its numbers are new
abbrev pub LosesNothing : Effect → Files → Type 0
LosesNothing Nothing files = Unit {0}
LosesNothing (Commit change) files = IsGenerationNumber change.generation × IsCommit change.commit × IsFreshChange change files

-- how the folder reads after the effect: as before, or as the new commit, with or without some of the removable files
abbrev pub ReadsAs : Effect → Files → Files → Type 0
ReadsAs Nothing old new = new ≡ old
ReadsAs (Commit change) old new = AddsOnly change old new × IsNew change old new × IsMade change old new

-- how it reads where the effect was stopped: every file is as before, and it reads as before, or as the new commit with nothing removed
abbrev pub StopsAs : Effect → Files → Files → Type 0
StopsAs Nothing old new = ⊥
StopsAs (Commit change) old new =
    AddsOnly change old new × AreKept old new × (IsOld old new ⊎ (IsNew change old new × (new ≡ sealed change old)))
