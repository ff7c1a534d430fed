-- The outcome of `build` that is due is proper: it loses nothing.
use Rattle.std.proofs.Common.{◌≡◌, ℕ, ◌+◌, ◌^◌, ◌<◌, ◌≤◌, Bool, true, false, List, [], ◌∷◌, length, map, Option, Some, None, Result, Ok, Err, refl, sym, subst, ◌∙◌, inl, inr, arith}
use Rattle.std.specs.Prelude.{nat_lt, nat_le, IsPermutation}
use Rattle.std.specs.Option.{ForSome}
use Rattle.std.specs.FinMap.{keys}
use Rattle.std.proofs.lemmas.Bool.{ltb-true, leb-true}
use Rattle.std.proofs.lemmas.List.Sorted.{IsPermutation-refl}
use Rattle.lu_dir.specs.Files.{Files}
use Rattle.lu_types.specs.declared.document.Document.{Document}
use Rattle.lu_types.specs.declared.kind.FileKind.{FileKind}
use Rattle.lu_model.proofs.Each.{all-from_each}
use Rattle.lu_model.specs.Contents.{index_of_documents}
use Rattle.lu_model.specs.Index.{Index}
use Rattle.segment_infos.specs.declared.record.TheConstants.{MOST_DOCUMENTS}
use Rattle.segment_infos.specs.Values.{CommitValue, IsPair, IsLine, IsCommit, total_size}
use Rattle.segment_infos.proofs.OnlyFiles.{commit-only}
use Rattle.segment_files.specs.Parts.{intervals_of, canonical_parts_of}
use Rattle.segment_files.specs.declared.options.WriteOptions.{WriteOptions}
use Rattle.segment_files.specs.declared.options.SegmentFiles.{SegmentFiles}
use Rattle.lu_input.specs.Lines.{input_documents}
use Rattle.lu_input.specs.declared.fault.InputFault.{InputFault}
use Rattle.lu_input.specs.declared.fault.InputFault.TheVariants as inputs
use Rattle.lu_folder.specs.Choosing.{AnswersCurrent}
use Rattle.lu_folder.specs.Commits.{commit_file, Says}
use Rattle.lu_folder.specs.Drawing.{next_generation, next_segment}
use Rattle.lu_folder.specs.Fresh.{AreNewFiles}
use Rattle.lu_folder.specs.declared.choosing.Chosen.{Chosen}
use Rattle.lu_folder.specs.declared.fault.FolderFault.{FolderFault}
use Rattle.lu_folder.specs.declared.fault.FolderFault.TheVariants.{Failed, NoIndex, FileTooLarge, NotStanding, OutOfMemory}
use Rattle.lu_folder.specs.declared.new_file.NewFile.{NewFile}
use Rattle.lu_folder.proofs.FreshLemmas.{generation-valid, drawn-fresh}
use Rattle.lu_folder.proofs.SameName.{none-within}
use Rattle.lu_folder.proofs.StandingLemmas.{removable-listed}
use Rattle.lu_outcomes.specs.declared.status.Status.TheVariants as statuses
use Rattle.lu_outcomes.specs.declared.outcome.Effect.TheVariants.{Commit}
use Rattle.lu_outcomes.specs.declared.outcome.Outcome.{Outcome}
use Rattle.lu_outcomes.specs.Outcomes.{IsProper}
use Rattle.lu_changes.specs.Building.{BasisValue, empty_commit, raised, sourced_line, flushed, with_line, new_file, change_on, segment_outcome, index_files_of, FilesGive, IndexGives, SumGives, NumberGives, DocumentsGive, InputGives, VersionGives, GenerationGives, CurrentGives, BuildDue}
use Rattle.lu_reads.proofs.IdleLemmas.{IsIdle, idle-proper, idle-without_effect}
use Rattle.lu_changes.proofs.NewCommitLemmas.{flushed-map, drawn-above, with_line-commit}
use Rattle.lu_changes.proofs.NewFilesLemmas.{index-size, files-canonical, files-parts, files-size}
use Rattle.lu_changes.proofs.FreshFiles.{AreOneByKind, packed-one, drawn-new_files}

-- ---- commits that are built on

-- what is said by the file of a commit is a commit
pub says-commit : (file : Option (List ℕ)) (commit : CommitValue) → Says file commit → IsCommit commit
says-commit None commit says = absurd says
says-commit (Some bytes) commit says = (commit-only bytes commit says).0

-- so is the empty one
empty-commit : IsCommit empty_commit
empty-commit = record {
  version = omega arith;
  counter = omega arith;
  count = omega arith;
  segments = record { lines = all-from_each IsLine [] tt; apart = λ i j d less within. absurd (omega arith); sizes = omega arith };
  user = (omega arith, all-from_each IsPair [] tt);
}

-- a commit whose version is raised
pub raised-commit : (before : CommitValue) → IsCommit before → before.version + 1 < 2 ^ 63 → IsCommit (raised before)
raised-commit before is version = record { version = version; counter = is.counter; count = is.count; segments = is.segments; user = is.user }

-- ---- outcomes that make a commit

-- no files are new ones
pub no-new_files : (names : List (List ℕ)) → AreNewFiles names []
no-new_files names = record {
  named = λ file there. absurd (none-within file there);
  unlisted = λ file there. absurd (none-within file there);
  one = λ file other there. absurd (none-within file there);
}

-- an outcome that is an idle one is proper
pub refusal-proper : (files : Option Files) (idle outcome : Outcome) → IsIdle idle → outcome ≡ idle → IsProper files outcome
refusal-proper files idle outcome is same = idle-proper files outcome (subst IsIdle (sym same) is)

module _ (files : Option Files) (names : List (List ℕ)) (named : ForSome files (λ told. names ≡ keys told)) where
  -- an outcome that makes a commit of the next generation, with new files
  pub commit-proper : (generation : ℕ) (commit : CommitValue) (new : List NewFile) (text : List ℕ) (outcome : Outcome)
      → outcome ≡ record { status = statuses.Ok; text = text; effect = Commit (change_on names generation commit new) }
      → next_generation names ≡ Some generation → ForSome files (λ told. IsCommit commit) → ForSome files (λ told. AreNewFiles names new) → IsProper files outcome
  commit-proper generation commit new text outcome same drawn is fresh = subst (IsProper files) (sym same) (record {
    answer = tt;
    idle = λ differ. absurd (differ refl);
    sound = λ told there. (
      generation-valid names generation drawn,
      is told there,
      drawn-fresh told names (change_on names generation commit new) (subst (λ (listed : List (List ℕ)). IsPermutation (keys told) listed) (sym (named told there)) (IsPermutation-refl (keys told)))
          drawn (fresh told there) (removable-listed ((record { generation = generation; commit = commit }) ∷ []) names),
    );
  })

  -- a new segment with the number that is drawn, in a commit that can say so
  module _ (basis : BasisValue) (listed : basis.names ≡ names) (drawn : next_generation names ≡ Some basis.generation) (outcome : Outcome) (source : List ℕ) (before : CommitValue) (number : ℕ) (counted : next_segment names before ≡ Some number) (index : Index)
      (sayable : (all : SegmentFiles) → all.size ≡ index.size → ForSome files (λ told. IsCommit (with_line (sourced_line source number all) basis.before))) where
    files-proper : (options : WriteOptions) (written : Result SegmentFiles FileKind) → index_files_of options index ≡ written → FilesGive basis source number written outcome → IsProper files outcome
    files-proper options (Ok all) are same =
        commit-proper basis.generation (with_line (sourced_line source number all) basis.before) (map (new_file number) all.files) _ outcome
        (subst (λ (some : List (List ℕ)). outcome ≡ segment_outcome (record { names = some; before = basis.before; generation = basis.generation; compound = basis.compound }) source number all) listed same) drawn
        (sayable all (files-size options index all are))
        (λ told there. drawn-new_files names before number counted all.files (files-parts options index all are)
        (subst (λ (files_of : SegmentFiles). AreOneByKind files_of.files) (sym (files-canonical options index all are)) (packed-one options.compound options.number (canonical_parts_of (intervals_of options) index))))
    files-proper options (Err kind) are same = refusal-proper files _ outcome (idle-without_effect _ _ tt) same

    pub index-proper : IndexGives basis source number index outcome → IsProper files outcome
    index-proper gives = files-proper gives.0 (index_files_of gives.0 index) refl gives.2

  module _ (before : CommitValue) (is : ForSome files (λ told. IsCommit before)) (generation : ℕ) (compound : Bool) (drawn : next_generation names ≡ Some generation) (version : before.version + 1 < 2 ^ 63) (outcome : Outcome) where
    abbrev basis : BasisValue
    basis = record { names = names; before = before; generation = generation; compound = compound }

    sum-proper : (docs : List Document) (number : ℕ) → next_segment names before ≡ Some number → (fits : Bool) → nat_le (total_size before.segments + length docs) MOST_DOCUMENTS ≡ fits → SumGives basis docs number fits outcome → IsProper files outcome
    sum-proper docs number counted true within gives =
        let sum : total_size before.segments + length docs ≤ MOST_DOCUMENTS = leb-true (total_size before.segments + length docs) MOST_DOCUMENTS within in
        index-proper basis refl drawn outcome flushed before number counted (index_of_documents docs)
        (λ all size told there. with_line-commit before flushed number all (is told there) flushed-map (drawn-above names before number counted) version
        (subst (λ (n : ℕ). total_size before.segments + n ≤ MOST_DOCUMENTS) (sym (size ∙ index-size docs)) sum)) gives
    sum-proper docs number counted false within same = refusal-proper files _ outcome (idle-without_effect _ _ tt) same

    number-proper : (docs : List Document) (counted : Option ℕ) → next_segment names before ≡ counted → NumberGives basis docs counted outcome → IsProper files outcome
    number-proper docs (Some number) is_next gives = sum-proper docs number is_next (nat_le (total_size before.segments + length docs) MOST_DOCUMENTS) refl gives
    number-proper docs None is_next same = refusal-proper files _ outcome (idle-without_effect _ _ tt) same

    documents-proper : (docs : Result (List Document) InputFault) → DocumentsGive basis docs outcome → IsProper files outcome
    documents-proper (Ok []) same = commit-proper generation (raised before) [] _ outcome same drawn (λ told there. raised-commit before (is told there) version) (λ told there. no-new_files names)
    documents-proper (Ok (doc ∷ docs)) gives = number-proper (doc ∷ docs) (next_segment names before) refl gives
    documents-proper (Err (inputs.Line number fault)) same = refusal-proper files _ outcome (idle-without_effect _ _ tt) same
    documents-proper (Err inputs.OutOfMemory) never = absurd never

    input-proper : (input : Option (List ℕ)) → InputGives basis input outcome → IsProper files outcome
    input-proper input (inl large) = refusal-proper files _ outcome (idle-without_effect _ _ tt) large.1
    input-proper input (inr (bytes, same, fits, gives)) = documents-proper (input_documents gives.0 bytes) gives.2

  module _ (input : Option (List ℕ)) (compound : Bool) (outcome : Outcome) where
    version-proper : (before : CommitValue) → ForSome files (λ told. IsCommit before) → (generation : ℕ) → next_generation names ≡ Some generation → (fits : Bool) → nat_lt (before.version + 1) (2 ^ 63) ≡ fits
        → VersionGives (record { names = names; before = before; generation = generation; compound = compound }) input fits outcome → IsProper files outcome
    version-proper before is generation drawn true within gives = input-proper before is generation compound drawn (ltb-true (before.version + 1) (2 ^ 63) within) outcome input gives
    version-proper before is generation drawn false within same = refusal-proper files _ outcome (idle-without_effect _ _ tt) same

    generation-proper : (before : CommitValue) → ForSome files (λ told. IsCommit before) → (drawn : Option ℕ) → next_generation names ≡ drawn → GenerationGives names before compound input drawn outcome → IsProper files outcome
    generation-proper before is (Some generation) drawn gives = version-proper before is generation drawn (nat_lt (before.version + 1) (2 ^ 63)) refl gives
    generation-proper before is None drawn same = refusal-proper files _ outcome (idle-without_effect _ _ tt) same

    current-proper : (answer : Result Chosen FolderFault) → ForSome files (λ told. AnswersCurrent told answer) → CurrentGives names compound input answer outcome → IsProper files outcome
    current-proper (Ok chosen) answers gives =
        generation-proper chosen.commit (λ told there. says-commit (commit_file told chosen.generation) chosen.commit (answers told there).0.good.says) (next_generation names) refl gives
    current-proper (Err NoIndex) answers gives = generation-proper empty_commit (λ told there. empty-commit) (next_generation names) refl gives
    current-proper (Err (FileTooLarge kind)) answers same = refusal-proper files _ outcome (idle-without_effect _ _ tt) same
    current-proper (Err (NotStanding generation fault)) answers same = refusal-proper files _ outcome (idle-without_effect _ _ tt) same
    current-proper (Err Failed) answers never = absurd never
    current-proper (Err OutOfMemory) answers never = absurd never

-- the outcome of `build` that is due is proper
pub build-proper : (files : Option Files) (input : Option (List ℕ)) (compound : Bool) (outcome : Outcome) → BuildDue compound files input outcome → IsProper files outcome
build-proper files input compound outcome (made, (names, named, (answer, answers, gives))) = current-proper files names named input compound outcome answer answers gives
