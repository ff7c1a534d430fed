-- A folder with a commit made that has a new segment behind others stands for what these stand for, and for the index of the new one.
use Rattle.std.proofs.Common.{◌≡◌, ℕ, Bool, List, [], ◌∷◌, ◌++◌, map, All, Some, None, Ok, refl, sym, ap, subst, ◌∙◌}
use Rattle.std.specs.FinMap.{keys}
use Rattle.lu_dir.specs.Files.{Files}
use Rattle.lu_types.specs.Names.{IsPart}
use Rattle.lu_types.specs.declared.named_file.NamedFile.{NamedFile}
use Rattle.lu_model.specs.Index.{Index}
use Rattle.lu_model.specs.Valid.{IsValid}
use Rattle.segment_infos.specs.Values.{CommitValue}
use Rattle.segment_files.specs.Written.{canonical_files, too_large_file}
use Rattle.segment_files.specs.declared.options.SegmentFiles.{SegmentFiles}
use Rattle.segment_files.specs.declared.options.WriteOptions.{WriteOptions}
use Rattle.lu_folder.specs.ChangeValues.{ChangeValue}
use Rattle.lu_folder.specs.Drawing.{next_segment}
use Rattle.lu_folder.specs.Keeping.{AddsOnly, IsNew}
use Rattle.lu_changes.specs.Building.{sourced_line, new_file, with_line, change_on, AreProgramOptions, index_files_of}
use Rattle.lu_reads.specs.Standing.{StandsAs, StandAs, Stands}
use Rattle.lu_changes.proofs.NewFilesLemmas.{files-canonical, files-parts, files-fit}
use Rattle.lu_changes.proofs.StandingKeptLemmas.{AllZip-append}
use Rattle.lu_changes.proofs.StandingNewLemmas.{segment-stands}

-- the change adds a segment with this index, which comes from there and has the number that is drawn by a commit, behind the segments that are kept
pub record AddsSegment (files : Files) (before kept : CommitValue) (generation : ℕ) (packed : Bool) (source : List ℕ) (index : Index) (change : ChangeValue) : Type 0 where
  pub number : ℕ
  pub drawn : next_segment (keys files) before ≡ Some number
  pub options : WriteOptions
  pub program : AreProgramOptions options number packed
  pub written : SegmentFiles
  pub canonical : index_files_of options index ≡ Ok written
  pub is : change ≡ change_on (keys files) generation (with_line (sourced_line source number written) kept) (map (new_file number) written.files)

-- the change that adds these files of a segment
abbrev pub adding : List (List ℕ) → CommitValue → ℕ → List ℕ → ℕ → SegmentFiles → ChangeValue
adding names kept generation source number files = change_on names generation (with_line (sourced_line source number files) kept) (map (new_file number) files.files)

module _ (old : Files) (before kept : CommitValue) (generation : ℕ) (packed : Bool) (source : List ℕ) (index : Index) (change : ChangeValue) (added : AddsSegment old before kept generation packed source index change) where
  abbrev options : WriteOptions
  options = added.options

  abbrev pub canonical : SegmentFiles
  canonical = canonical_files added.options index

  -- the canonical files are written
  written-is : added.written ≡ canonical
  written-is = files-canonical added.options index added.written added.canonical

  -- none of them is too large
  pub fit : too_large_file added.options index ≡ None
  fit = files-fit added.options index added.written added.canonical

  number-is : added.number ≡ added.options.number
  number-is = sym added.program.number

  pub drawn-is : next_segment (keys old) before ≡ Some added.options.number
  drawn-is = subst (λ (n : ℕ). next_segment (keys old) before ≡ Some n) number-is added.drawn

  pub parts-are : All (λ (file : NamedFile). IsPart file.kind) canonical.files
  parts-are = subst (λ (files : SegmentFiles). All (λ (f : NamedFile). IsPart f.kind) files.files) written-is (files-parts added.options index added.written added.canonical)

  pub change-is : change ≡ adding (keys old) kept generation source added.options.number canonical
  change-is = added.is ∙ ap (adding (keys old) kept generation source added.number) written-is ∙ ap (λ (n : ℕ). adding (keys old) kept generation source n canonical) number-is

  -- the folder stands for its index besides what the segments that are kept stand for
  pub segment-added : (new : Files) (indexes : List Index) → AddsOnly (adding (keys old) kept generation source added.options.number canonical) old new → IsNew (adding (keys old) kept generation source added.options.number canonical) old new
      → IsValid index → index.deleted ≡ [] → StandAs new kept.segments indexes → Stands new (indexes ++ index ∷ [])
  segment-added new indexes adds is_new valid none stand = record {
    generation = generation;
    commit = with_line (sourced_line source added.options.number canonical) kept;
    newest = is_new.newest;
    good = is_new.current.good;
    segments = AllZip-append (StandsAs new) kept.segments (sourced_line source added.options.number canonical ∷ []) indexes (index ∷ []) stand (
      segment-stands source old new before added.options index (adding (keys old) kept generation source added.options.number canonical) (record { drawn = drawn-is; parts = parts-are; files = refl; adds = adds; is_new = is_new }) valid fit added.program.limits.file_bytes none,
      tt,
    );
  }
