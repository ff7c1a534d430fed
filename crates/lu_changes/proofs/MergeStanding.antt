-- A folder with the commit of `merge` made stands for the merge of the indexes that it stood for, or for none where no document is live.
use Rattle.std.proofs.Common.{◌≡◌, ◌⊎◌, ℕ, zero, suc, ◌<◌, ◌≤◌, Bool, true, false, List, [], ◌∷◌, map, All, Option, Some, None, Result, Ok, Err, refl, sym, ap, subst, ◌∙◌, inl, inr, arith}
use Rattle.std.specs.Prelude.{nat_le}
use Rattle.std.specs.FinMap.{keys}
use Rattle.std.proofs.lemmas.Bool.{leb-true}
use Rattle.std.proofs.lemmas.List.Elements.{All-head, All-tail}
use Rattle.lu_dir.specs.Files.{Files}
use Rattle.lu_types.specs.Bounds.{most_documents}
use Rattle.lu_types.specs.declared.kind.FileKind.{FileKind}
use Rattle.lu_model.specs.Contents.{index_of, merge_of}
use Rattle.lu_model.specs.Index.{Index}
use Rattle.lu_model.specs.Valid.{IsValid}
use Rattle.lu_model.proofs.Words.{Each}
use Rattle.lu_model.proofs.ValidMerges.{merge_is_valid}
use Rattle.segment_infos.specs.declared.infos.SegInfo.{SegInfo}
use Rattle.segment_infos.specs.Values.{CommitValue, IsLine}
use Rattle.segment_files.specs.declared.options.SegmentFiles.{SegmentFiles}
use Rattle.segment_files.specs.declared.options.WriteOptions.{WriteOptions}
use Rattle.check_index.specs.Segments.{SegmentValue}
use Rattle.check_index.proofs.ValidSegment.{index-valid}
use Rattle.lu_folder.specs.ChangeValues.{ChangeValue}
use Rattle.lu_folder.specs.Commits.{commit_file}
use Rattle.lu_folder.specs.Drawing.{next_segment}
use Rattle.lu_folder.specs.Keeping.{AddsOnly, IsNew}
use Rattle.seg_merger.specs.Merged.{indexes_of}
use Rattle.lu_outcomes.specs.declared.outcome.Effect.TheVariants.{Commit}
use Rattle.lu_outcomes.specs.declared.outcome.Outcome.{Outcome}
use Rattle.lu_reads.specs.Finding.{spelled_names, folder_files}
use Rattle.lu_reads.specs.Segments.{AreReadAs}
use Rattle.lu_reads.specs.Standing.{CurrentStands, Stands}
use Rattle.lu_changes.specs.Building.{BasisValue, sourced_line, new_file, raised, with_line, change_on, AreProgramOptions, index_files_of, FilesGive}
use Rattle.lu_changes.specs.Merging.{merged, emptied, on_emptied, CountMerges, NumberMerges, SizeMerges, MergeGives, MergeDue}
use Rattle.lu_reads.proofs.FoundLemmas.{files-short}
use Rattle.lu_reads.proofs.ReadAsLemmas.{read-indexes}
use Rattle.lu_changes.proofs.StandingKeptLemmas.{Says-commit, built_on-stands}
use Rattle.lu_changes.proofs.StandingDueLemmas.{idle, commits}
use Rattle.lu_changes.proofs.StandingAddedLemmas.{AddsSegment, fit, change-is, segment-added}
use Rattle.lu_changes.proofs.StandingValidLemmas.{few-fields, few-terms}
use Rattle.lu_changes.proofs.FollowLemmas.{Follows, follow-given}

-- ---- the change

-- the change puts a segment with this index in place of all, or, where it has no document, no segment
abbrev IsMerging : Files → CommitValue → ℕ → Bool → Index → ChangeValue → Type 0
IsMerging files before generation packed index change =
    ((index.size ≡ 0) × (change ≡ change_on (keys files) generation (raised (emptied before)) []))
    ⊎ ((0 < index.size) × (index.size ≤ most_documents) × AddsSegment files before (emptied before) generation packed merged index change)

module _ (outcome : Outcome) (change : ChangeValue) (effect : outcome.effect ≡ Commit change) (files : Files) (before : CommitValue) (generation : ℕ) (packed : Bool) (index : Index) where
  abbrev basis : BasisValue
  basis = record { names = keys files; before = before; generation = generation; compound = packed }

  abbrev Added : Type 0
  Added = AddsSegment files before (emptied before) generation packed merged index change

  files-given : (number : ℕ) → next_segment (keys files) before ≡ Some number → (options : WriteOptions) → AreProgramOptions options number packed → (answer : Result SegmentFiles FileKind) → index_files_of options index ≡ answer
      → FilesGive (on_emptied basis) merged number answer outcome → Added
  files-given number drawn options program (Ok written) canonical given = record {
    number = number;
    drawn = drawn;
    options = options;
    program = program;
    written = written;
    canonical = canonical;
    is = commits outcome change effect (change_on (keys files) generation (with_line (sourced_line merged number written) (emptied before)) (map (new_file number) written.files)) (ap (λ (o : Outcome). o.effect) given);
  }
  files-given number drawn options program (Err kind) canonical given = idle outcome change effect (ap (λ (o : Outcome). o.effect) given)

  count-given : (number : ℕ) → next_segment (keys files) before ≡ Some number → (few : Bool) → nat_le index.size most_documents ≡ few → CountMerges basis number index few outcome → (index.size ≤ most_documents) × Added
  count-given number drawn true few (options, program, given) = (leb-true index.size most_documents few, files-given number drawn options program (index_files_of options index) refl given)
  count-given number drawn false few given = idle outcome change effect (ap (λ (o : Outcome). o.effect) given)

  number-given : (found : Option ℕ) → next_segment (keys files) before ≡ found → NumberMerges basis index found outcome → (index.size ≤ most_documents) × Added
  number-given (Some number) drawn given = count-given number drawn (nat_le index.size most_documents) refl given
  number-given None drawn given = idle outcome change effect (ap (λ (o : Outcome). o.effect) given)

  -- a change that is due is so
  size-given : (count : ℕ) → index.size ≡ count → SizeMerges basis index count outcome → IsMerging files before generation packed index change
  size-given zero size given = inl (size, commits outcome change effect (change_on (keys files) generation (raised (emptied before)) []) (ap (λ (o : Outcome). o.effect) given))
  size-given (suc count) size given = let (few, added) : (index.size ≤ most_documents) × Added = number-given (next_segment (keys files) before) refl given in inr (omega (arith, size), few, added)

-- ---- the merge

merge-none_deleted : (indexes : List Index) → (merge_of indexes).deleted ≡ []
unfolding index_of
merge-none_deleted indexes = refl

-- the indexes of segments that stand are valid
read-valid : (files : Option Files) (lines : List SegInfo) (xs : List SegmentValue) → All IsLine lines → AreReadAs files lines xs → Each IsValid (indexes_of xs)
read-valid files [] [] are read = tt
read-valid files [] (x ∷ xs) are read = absurd read
read-valid files (line ∷ lines) [] are read = absurd read
read-valid files (line ∷ lines) (x ∷ xs) are read = (
  index-valid (folder_files line read.0.found) line x (files-short (spelled_names line) read.0.found line read.0.read.each) read.0.stands (All-head IsLine line lines are),
  read-valid files lines xs (All-tail IsLine line lines are) read.1,
)

-- ---- the law

module _ (old new : Files) (before : CommitValue) (generation : ℕ) (packed : Bool) (change : ChangeValue) (adds : AddsOnly change old new) (is_new : IsNew change old new) (indexes : List Index) where
  -- no document is live
  none-stands : change ≡ change_on (keys old) generation (raised (emptied before)) [] → Stands new []
  none-stands is = by_change (subst (λ (c : ChangeValue). IsNew c old new) is is_new)
    where
      by_change : IsNew (change_on (keys old) generation (raised (emptied before)) []) old new → Stands new []
      by_change made_new = record { generation = generation; commit = raised (emptied before); newest = made_new.newest; good = made_new.current.good; segments = tt }

  -- some are
  merge-stands : Each IsValid indexes → (merge_of indexes).size ≤ most_documents → AddsSegment old before (emptied before) generation packed merged (merge_of indexes) change → Stands new (merge_of indexes ∷ [])
  merge-stands valid few added =
      let is = change-is old before (emptied before) generation packed merged (merge_of indexes) change added in
      let fits = fit old before (emptied before) generation packed merged (merge_of indexes) change added in
      let small : (merge_of indexes).size ≤ 268435455 = few in
      segment-added old before (emptied before) generation packed merged (merge_of indexes) change added new [] (subst (λ (c : ChangeValue). AddsOnly c old new) is adds) (subst (λ (c : ChangeValue). IsNew c old new) is is_new)
      (merge_is_valid indexes (record { valid = valid; few = omega (arith, small); few_fields = few-fields added.options (merge_of indexes) fits; few_terms = few-terms added.options (merge_of indexes) fits })) (merge-none_deleted indexes) tt

  merging-stands : Each IsValid indexes → IsMerging old before generation packed (merge_of indexes) change → (0 < (merge_of indexes).size → Stands new (merge_of indexes ∷ [])) × ((merge_of indexes).size ≡ 0 → Stands new [])
  merging-stands valid (inl (none, is)) = ((λ some. absurd (omega (arith, some, none))), (λ _. none-stands is))
  merging-stands valid (inr (some, few, added)) = ((λ _. merge-stands valid few added), (λ none. absurd (omega (arith, some, none))))

-- the folder stands for the merge of the indexes that it stood for, where some document is live, and for none else
pub merge-joins : (compound : Bool) (old new : Files) (outcome : Outcome) (change : ChangeValue) (indexes : List Index) → MergeDue compound (Some old) outcome → outcome.effect ≡ Commit change → AddsOnly change old new → IsNew change old new
    → CurrentStands old indexes → (0 < (merge_of indexes).size → Stands new (merge_of indexes ∷ [])) × ((merge_of indexes).size ≡ 0 → Stands new [])
merge-joins compound old new outcome change indexes due effect adds is_new stands =
    let f : Follows (MergeGives compound) old outcome = follow-given (MergeGives compound) outcome change effect old due in
    let stand = built_on-stands old f.chosen.commit indexes (inl (f.chosen.generation, f.current)) stands in
    let same : indexes_of f.xs ≡ indexes = read-indexes old f.chosen.commit.segments f.xs indexes f.read stand in
    let lines : All IsLine f.chosen.commit.segments = (Says-commit (commit_file old f.chosen.generation) f.chosen.commit f.current.good.says).segments.lines in
    subst (λ (is : List Index). (0 < (merge_of is).size → Stands new (merge_of is ∷ [])) × ((merge_of is).size ≡ 0 → Stands new [])) same
    (merging-stands old new f.chosen.commit f.generation compound change adds is_new (indexes_of f.xs) (read-valid (Some old) f.chosen.commit.segments f.xs lines f.read)
    (size-given outcome change effect old f.chosen.commit f.generation compound (merge_of (indexes_of f.xs)) (merge_of (indexes_of f.xs)).size refl f.gives))
