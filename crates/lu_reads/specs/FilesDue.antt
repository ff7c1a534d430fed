-- Which outcome is due of a command that reads files of one segment.
use Rattle.std.specs.Prelude.{◌≡◌, ℕ, ◌⊎◌, List, Option, Some}
use Rattle.std.specs.Option.{ForSome}
use Rattle.lu_dir.specs.Files.{Files}
use Rattle.lu_dir.specs.declared.loading.LoadFault.{LoadFault}
use Rattle.lu_dir.specs.declared.loading.LoadFault.TheVariants as loads
use Rattle.lu_types.specs.FilePlans.{FilePlan, StandFor, IsFaultAmong}
use Rattle.lu_types.specs.declared.kind.FileKind.{FileKind}
use Rattle.lu_types.specs.declared.fault.Spot.{Spot}
use Rattle.lu_outcomes.specs.declared.outcome.Outcome.{Outcome}
use Rattle.check_index.specs.Files.{file_at}
use Rattle.lu_reads.specs.Files.{AreFound, first_too_long}
use Rattle.lu_reads.specs.Needs.{fields_kinds, docs_kinds, table_files, document_files}
use Rattle.lu_listing.specs.Lines.{field_lines, doc_lines}
use Rattle.lu_outcomes.specs.Outcomes.{printing, faulty_outcome, too_large_outcome}

-- a file was too long to be loaded
abbrev pub IsTooLarge : LoadFault → Type 0
IsTooLarge fault = (place : ℕ) × (fault ≡ loads.TooLarge place)

-- the segment's files have a first fault, and this outcome says so
abbrev pub IsFaultIn : {X : Type 0} → List ℕ → FilePlan X → Outcome → Type 0
IsFaultIn segment files outcome = (spot : Spot) × IsFaultAmong files spot × (outcome ≡ faulty_outcome segment spot)

-- what a command comes to by the segment's files that it needs: the lines of what they stand for, or their first fault
abbrev pub FilesSay : {X : Type 0} → List ℕ → FilePlan X → (X → List ℕ) → Outcome → Type 0
FilesSay {X} segment files lines outcome =
    ((x : X) × StandFor files x × (outcome ≡ printing (lines x))) ⊎ IsFaultIn segment files outcome

-- what `fields` comes to by the files that were found
abbrev pub FieldsSay : List ℕ → List (Option (List ℕ)) → Outcome → Type 0
FieldsSay segment found = FilesSay segment (table_files (file_at found 0)) (field_lines 0)

-- what `docs` comes to by the files that were found
abbrev pub DocsSay : List ℕ → List (Option (List ℕ)) → Outcome → Type 0
DocsSay segment found = FilesSay segment (document_files (file_at found 0) (file_at found 1) (file_at found 2)) (doc_lines 0)

-- one of the segment's files of these kinds is too long, and this outcome says so of the first
abbrev pub IsTooLong : List ℕ → List FileKind → Option Files → Outcome → Type 0
IsTooLong segment kinds files outcome =
    (kind : FileKind) × ForSome files (λ told. first_too_long told segment kinds ≡ Some kind) × (outcome ≡ too_large_outcome kind)

-- the outcome that is due of a command that reads the segment's files of these kinds: one is too long, or what it comes to by them
abbrev pub FilesDue : List ℕ → List FileKind → (List (Option (List ℕ)) → Outcome → Type 0) → Option Files → Outcome → Type 0
FilesDue segment kinds Say files outcome =
    IsTooLong segment kinds files outcome
    ⊎ ((found : List (Option (List ℕ))) × AreFound files segment kinds found × Say found outcome)
