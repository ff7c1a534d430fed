-- What merging answers, as the outcome that is due.
use Rattle.std.proofs.Common.{◌≡◌, ◌⊎◌, ℕ, ◌+◌, ◌^◌, ◌<◌, ◌≤◌, Bool, true, false, cond, List, Option, Some, None, Result, Ok, Err, refl, sym, ap, subst, ◌∙◌, inl, inr, arith}
use Rattle.std.specs.Prelude.{nat_lt, nat_le}
use Rattle.std.proofs.lemmas.Bool.{ltb-true, ltb-false, le-leb, lt-leb}
use Rattle.lu_types.specs.Bounds.{most_documents}
use Rattle.lu_types.specs.declared.kind.FileKind.{FileKind}
use Rattle.lu_model.specs.Contents.{merge_of}
use Rattle.lu_model.specs.Index.{Index}
use Rattle.segment_infos.specs.Values.{IsCommit}
use Rattle.segment_files.specs.Written.{canonical_files, too_large_file}
use Rattle.segment_files.specs.declared.options.SegmentFiles.{SegmentFiles}
use Rattle.segment_files.specs.declared.options.WriteOptions.{WriteOptions}
use Rattle.lu_folder.specs.Drawing.{next_segment}
use Rattle.lu_folder.proofs.FreshLemmas.{segment-valid}
use Rattle.seg_merger.specs.Merged.{merged_files_due, merged_segment, AnswersMerge}
use Rattle.seg_merger.specs.declared.fault.MergeFault.{MergeFault}
use Rattle.seg_merger.specs.declared.fault.MergeFault.TheVariants.{TooMany, TooLarge, OutOfMemory}
use Rattle.lu_outcomes.specs.declared.status.Refusal.TheVariants as refusals
use Rattle.lu_outcomes.specs.declared.outcome.Outcome.{Outcome}
use Rattle.lu_changes.specs.Building.{BasisValue, AreProgramLimits, AreProgramOptions, files_or, index_files_of, segment_outcome, FilesGive}
use Rattle.lu_changes.specs.Merging.{merged, on_emptied, CountMerges, NumberMerges}
use Rattle.lu_outcomes.specs.Refusing.{refused_outcome}
use Rattle.lu_changes.specs.Upshots.{IsSayable}
use Rattle.lu_changes.proofs.NewCommitLemmas.{alone-commit}
use Rattle.lu_changes.proofs.NewFilesLemmas.{files-parts, files-size}

-- ---- what is answered

-- files that are due are those of the index, where none passes the limit
due-written : (large : Option FileKind) (all files : SegmentFiles) → Ok files ≡ merged_files_due large all → files_or large all ≡ Ok files
due-written None all files is = let e : Ok files ≡ merged_files_due None all = is in ap written (cc)
  where
    written : SegmentFiles → Result SegmentFiles FileKind
    written some = Ok some
due-written (Some kind) all files is = let e : Ok files ≡ merged_files_due (Some kind) all = is in absurd (cc)

due-large : (large : Option FileKind) (all : SegmentFiles) (kind : FileKind) → Err (TooLarge kind) ≡ merged_files_due large all → files_or large all ≡ Err kind
due-large None all kind is = let e : Err (TooLarge kind) ≡ merged_files_due None all = is in absurd (cc)
due-large (Some first) all kind is = let e : Err (TooLarge kind) ≡ merged_files_due (Some first) all = is in ap refused (cc)
  where
    refused : FileKind → Result SegmentFiles FileKind
    refused some = Err some

due-many : (large : Option FileKind) (all : SegmentFiles) (count : ℕ) → Err (TooMany count) ≡ merged_files_due large all → ⊥
due-many None all count is = let e : Err (TooMany count) ≡ merged_files_due None all = is in cc
due-many (Some kind) all count is = let e : Err (TooMany count) ≡ merged_files_due (Some kind) all = is in cc

module _ (indexes : List Index) (options : WriteOptions) (program : AreProgramLimits options.limits) where
  abbrev index : Index
  index = merge_of indexes

  abbrev due : Result SegmentFiles MergeFault
  due = merged_files_due (too_large_file options index) (canonical_files options index)

  abbrev many : Result SegmentFiles MergeFault
  many = Err (TooMany index.size)

  few-by : nat_lt options.limits.documents index.size ≡ false → index.size ≤ most_documents
  few-by is = subst (λ (n : ℕ). index.size ≤ n) program.documents (ltb-false options.limits.documents index.size is)

  -- files that are answered are those of the merge, whose documents are not too many
  pub merged-files : (files : SegmentFiles) → AnswersMerge (merged_segment indexes options) (Ok files) → (index.size ≤ most_documents) × (index_files_of options index ≡ Ok files)
  merged-files files (inr none) = let e : Ok files ≡ Err OutOfMemory = none in absurd (cc)
  merged-files files (inl is) = by_count (nat_lt options.limits.documents index.size) refl is
    where
      by_count : (b : Bool) → nat_lt options.limits.documents index.size ≡ b → Ok files ≡ cond b many due → (index.size ≤ most_documents) × (index_files_of options index ≡ Ok files)
      by_count true over same = let e : Ok files ≡ many = same in absurd (cc)
      by_count false over same = (few-by over, due-written (too_large_file options index) (canonical_files options index) files same)

  -- a kind that is answered is that of the first file that passes the limit
  pub merged-large : (told : MergeFault) (kind : FileKind) → told ≡ TooLarge kind → AnswersMerge (merged_segment indexes options) (Err told) → (index.size ≤ most_documents) × (index_files_of options index ≡ Err kind)
  merged-large told kind named answer = by_answer (subst (λ (f : MergeFault). AnswersMerge (merged_segment indexes options) (Err f)) named answer)
    where
      by_count : (b : Bool) → nat_lt options.limits.documents index.size ≡ b → Err (TooLarge kind) ≡ cond b many due → (index.size ≤ most_documents) × (index_files_of options index ≡ Err kind)
      by_count true over same = let e : Err (TooLarge kind) ≡ many = same in absurd (cc)
      by_count false over same = (few-by over, due-large (too_large_file options index) (canonical_files options index) kind same)

      by_answer : AnswersMerge (merged_segment indexes options) (Err (TooLarge kind)) → (index.size ≤ most_documents) × (index_files_of options index ≡ Err kind)
      by_answer (inr none) = let e : Err (TooLarge kind) ≡ Err OutOfMemory = none in absurd (cc)
      by_answer (inl is) = by_count (nat_lt options.limits.documents index.size) refl is

  -- a count is answered where the documents are too many
  pub merged-many : (told : MergeFault) (count : ℕ) → told ≡ TooMany count → AnswersMerge (merged_segment indexes options) (Err told) → most_documents < index.size
  merged-many told count named answer = by_answer (subst (λ (f : MergeFault). AnswersMerge (merged_segment indexes options) (Err f)) named answer)
    where
      by_count : (b : Bool) → nat_lt options.limits.documents index.size ≡ b → Err (TooMany count) ≡ cond b many due → most_documents < index.size
      by_count true over same = subst (λ (n : ℕ). n < index.size) program.documents (ltb-true options.limits.documents index.size over)
      by_count false over same = absurd (due-many (too_large_file options index) (canonical_files options index) count same)

      by_answer : AnswersMerge (merged_segment indexes options) (Err (TooMany count)) → most_documents < index.size
      by_answer (inr none) = let e : Err (TooMany count) ≡ Err OutOfMemory = none in absurd (cc)
      by_answer (inl is) = by_count (nat_lt options.limits.documents index.size) refl is

-- ---- what comes of it

module _ (basis : BasisValue) (indexes : List Index) (number : ℕ) (options : WriteOptions) (are : AreProgramOptions options number basis.compound) where
  few-merges : (outcome : Outcome) → (merge_of indexes).size ≤ most_documents → CountMerges basis number (merge_of indexes) true outcome → NumberMerges basis (merge_of indexes) (Some number) outcome
  few-merges outcome few gives = subst (λ (b : Bool). CountMerges basis number (merge_of indexes) b outcome) (sym (le-leb (merge_of indexes).size most_documents few)) gives

  -- where the files were written
  pub merges-written : (files : SegmentFiles) → AnswersMerge (merged_segment indexes options) (Ok files) → NumberMerges basis (merge_of indexes) (Some number) (segment_outcome (on_emptied basis) merged number files)
  merges-written files answer =
      let (few, is) : ((merge_of indexes).size ≤ most_documents) × (index_files_of options (merge_of indexes) ≡ Ok files) = merged-files indexes options are.limits files answer in
      few-merges (segment_outcome (on_emptied basis) merged number files) few
      (options, are, subst (λ (due : Result SegmentFiles FileKind). FilesGive (on_emptied basis) merged number due (segment_outcome (on_emptied basis) merged number files)) (sym is) refl)

  -- where one passes the limit
  pub merges-large : (told : MergeFault) (kind : FileKind) → told ≡ TooLarge kind → AnswersMerge (merged_segment indexes options) (Err told) → NumberMerges basis (merge_of indexes) (Some number) (refused_outcome (refusals.TooLarge kind))
  merges-large told kind named answer =
      let (few, is) : ((merge_of indexes).size ≤ most_documents) × (index_files_of options (merge_of indexes) ≡ Err kind) = merged-large indexes options are.limits told kind named answer in
      few-merges (refused_outcome (refusals.TooLarge kind)) few
      (options, are, subst (λ (due : Result SegmentFiles FileKind). FilesGive (on_emptied basis) merged number due (refused_outcome (refusals.TooLarge kind))) (sym is) refl)

  -- where the documents are too many
  pub merges-many : (told : MergeFault) (count : ℕ) → told ≡ TooMany count → AnswersMerge (merged_segment indexes options) (Err told) → NumberMerges basis (merge_of indexes) (Some number) (refused_outcome refusals.TooMany)
  merges-many told count named answer =
      subst (λ (b : Bool). CountMerges basis number (merge_of indexes) b (refused_outcome refusals.TooMany)) (sym (lt-leb (merge_of indexes).size most_documents (merged-many indexes options are.limits told count named answer))) refl

  -- the files that were written can be those of a segment in place of all
  pub written-sayable : (files : SegmentFiles) → AnswersMerge (merged_segment indexes options) (Ok files) → IsCommit basis.before → next_segment basis.names basis.before ≡ Some number → basis.before.version + 1 < 2 ^ 63 → IsSayable basis number files
  written-sayable files answer is drawn version =
      let (few, canonical) : ((merge_of indexes).size ≤ most_documents) × (index_files_of options (merge_of indexes) ≡ Ok files) = merged-files indexes options are.limits files answer in
      let small : (merge_of indexes).size ≤ 268435455 = few in
      let size = files-size options (merge_of indexes) files canonical in
      record {
        number = (segment-valid basis.names basis.before number drawn).0;
        parts = files-parts options (merge_of indexes) files canonical;
        commit = alone-commit basis.names basis.before number files is drawn version (omega (arith, small, size));
      }
