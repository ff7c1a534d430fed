-- Which outcome is due.
use Rattle.std.specs.Prelude.{◌≡◌, ℕ, ◌⊎◌, List, Option}
use Rattle.lu_dir.specs.Files.{Files}
use Rattle.lu_outcomes.specs.declared.outcome.Outcome.{Outcome}
use Rattle.lu_command.specs.Commands.{Meaning, fields, docs, check, show, build, delete, postings, merge, Means}
use Rattle.lu_reads.specs.Needs.{fields_kinds, docs_kinds}
use Rattle.lu_reads.specs.FilesDue.{FieldsSay, DocsSay, FilesDue}
use Rattle.lu_reads.specs.Checking.{CheckDue}
use Rattle.lu_reads.specs.Showing.{ShowDue}
use Rattle.lu_changes.specs.Building.{BuildDue}
use Rattle.lu_changes.specs.Deleting.{DeleteDue}
use Rattle.lu_reads.specs.Reaching.{PostingsDue}
use Rattle.lu_changes.specs.Merging.{MergeDue}
use Rattle.lu_outcomes.specs.Outcomes.{usage_outcome}

-- the outcome of a meaning that is due, over these files and what the input has left
abbrev pub MeaningDue : Meaning → Option Files → Option (List ℕ) → Outcome → Type 0
MeaningDue (fields dir segment) files input outcome = FilesDue segment fields_kinds (FieldsSay segment) files outcome
MeaningDue (docs dir segment) files input outcome = FilesDue segment docs_kinds (DocsSay segment) files outcome
MeaningDue (check dir) files input outcome = CheckDue files outcome
MeaningDue (show dir) files input outcome = ShowDue files outcome
MeaningDue (build dir compound) files input outcome = BuildDue compound files input outcome
MeaningDue (delete dir field text) files input outcome = DeleteDue field text files outcome
MeaningDue (postings dir field text from) files input outcome = PostingsDue field text from files outcome
MeaningDue (merge dir compound) files input outcome = MergeDue compound files outcome

-- the outcome of words that is due, over these files and what the input has left
abbrev pub Due : List (List ℕ) → Option Files → Option (List ℕ) → Outcome → Type 0
Due words files input outcome = (((meaning : Meaning) → ¬ Means words meaning) × (outcome ≡ usage_outcome))
    ⊎ ((meaning : Meaning) × Means words meaning × MeaningDue meaning files input outcome)
