-- A folder with the commit of `build` made stands for the same indexes, and for that of the documents.
use Rattle.std.proofs.Common.{◌≡◌, ◌≢◌, ◌⊎◌, ℕ, ◌+◌, ◌<◌, ◌≤◌, Bool, List, [], ◌∷◌, ◌++◌, length, map, All, Some, None, Ok, Contains, refl, sym, ap, subst, ◌∙◌, inl, inr, arith}
use Rattle.std.specs.List.{flat_map}
use Rattle.std.specs.FinMap.{keys}
use Rattle.std.proofs.lemmas.List.{append-nil}
use Rattle.std.proofs.lemmas.List.Elements.{All-contains, Contains-append_left}
use Rattle.std.proofs.lemmas.Grind.{flat_map-append}
use Rattle.lu_dir.specs.Files.{Files}
use Rattle.lu_types.specs.Documents.{IsDocument}
use Rattle.lu_types.specs.Names.{greatest_segment, IsPart}
use Rattle.lu_types.specs.declared.document.Document.{Document}
use Rattle.lu_types.specs.declared.document.Limits.{Limits}
use Rattle.lu_types.specs.declared.named_file.NamedFile.{NamedFile}
use Rattle.lu_model.specs.Index.{Index}
use Rattle.lu_model.specs.Contents.{index_of_documents}
use Rattle.lu_model.specs.Valid.{IsSmall, IsValid}
use Rattle.segment_infos.specs.declared.infos.SegInfo.{SegInfo}
use Rattle.segment_infos.specs.declared.naming.LuceneName.{LuceneName}
use Rattle.segment_infos.specs.declared.naming.LuceneName.TheVariants.{Part}
use Rattle.segment_infos.specs.declared.record.TheConstants.{MOST_DOCUMENTS}
use Rattle.segment_infos.specs.LuceneNames.{name_spelling}
use Rattle.segment_infos.specs.Referring.{line_names, referred_names}
use Rattle.segment_infos.specs.Values.{CommitValue, total_size}
use Rattle.segment_infos.specs.Keeping.{HasOwnSpelling}
use Rattle.segment_infos.proofs.NameSpelled.{HasOwnSpelling-IsName, name_spelling-same}
use Rattle.segment_infos.proofs.KeptNames.{own-referred_names}
use Rattle.segment_files.specs.Written.{canonical_files}
use Rattle.segment_files.specs.declared.options.SegmentFiles.{SegmentFiles}
use Rattle.lu_input.specs.Lines.{input_documents}
use Rattle.lu_input.proofs.SoundLemmas.{input-sound}
use Rattle.lu_folder.specs.declared.new_file.NewFile.{NewFile}
use Rattle.lu_folder.specs.ChangeValues.{ChangeValue}
use Rattle.lu_folder.specs.Commits.{commit_file}
use Rattle.lu_folder.specs.Drawing.{next_segment}
use Rattle.lu_folder.specs.Keeping.{AddsOnly, IsNew}
use Rattle.lu_folder.specs.Numbers.{segment_of_name}
use Rattle.lu_folder.proofs.FreshLemmas.{segment-unreferred}
use Rattle.lu_outcomes.specs.declared.outcome.Effect.TheVariants.{Commit}
use Rattle.lu_outcomes.specs.declared.outcome.Outcome.{Outcome}
use Rattle.lu_changes.specs.Building.{sourced_line, flushed, new_file, raised, with_line, change_on, AreProgramLimits, BuildDue}
use Rattle.lu_reads.specs.Standing.{StandAs, CurrentStands, Stands, indexes_of}
use Rattle.lu_changes.proofs.StandingReadLemmas.{map-Contains}
use Rattle.lu_changes.proofs.StandingKeptLemmas.{Says-commit, built_on-stands, lines-kept, before-kept}
use Rattle.lu_changes.proofs.StandingDueLemmas.{documents-same, AddsDocuments, IsBuilt, due-built}
use Rattle.lu_changes.proofs.StandingAddedLemmas.{AddsSegment, adding, fit, drawn-is, parts-are, change-is, segment-added}
use Rattle.lu_changes.proofs.StandingValidLemmas.{none-deleted, index-valid}

few-documents : (segments : List SegInfo) (docs : List Document) → total_size segments + length docs ≤ MOST_DOCUMENTS → IsSmall (length docs)
few-documents segments docs le = let few : total_size segments + length docs ≤ 2147483646 = le in omega (arith, few)

-- ---- the new commit

-- the commit with a line more refers to what it referred to
also-referred : (line : SegInfo) (before : CommitValue) (name : LuceneName) → Contains (referred_names before) name → Contains (referred_names (with_line line before)) name
also-referred line before name among =
    subst (λ (names : List LuceneName). Contains names name) (sym (flat_map-append line_names before.segments (line ∷ []))) (Contains-append_left (referred_names before) (flat_map line_names (line ∷ [])) name among)

module _ (old new : Files) (left : List ℕ) (docs : List Document) (indexes : List Index) (before : CommitValue) (generation : ℕ) (stand : StandAs old before.segments indexes) where
  -- a commit without a new segment
  raised-stands : (change : ChangeValue) → change ≡ change_on (keys old) generation (raised before) [] → AddsOnly change old new → IsNew change old new → indexes_of docs ≡ [] → Stands new (indexes ++ indexes_of docs)
  raised-stands change is adds is_new none = by_change (subst (λ (c : ChangeValue). AddsOnly c old new) is adds) (subst (λ (c : ChangeValue). IsNew c old new) is is_new)
    where
      by_change : AddsOnly (change_on (keys old) generation (raised before) []) old new → IsNew (change_on (keys old) generation (raised before) []) old new → Stands new (indexes ++ indexes_of docs)
      by_change adds_only made_new = record {
        generation = generation;
        commit = raised before;
        newest = made_new.newest;
        good = made_new.current.good;
        segments = subst (λ (some : List Index). StandAs new before.segments some) (sym (ap (λ (more : List Index). indexes ++ more) none ∙ append-nil indexes))
            (lines-kept old new before.segments indexes (before-kept old new (keys old) generation (raised before) before [] adds_only made_new (λ name among. among) nothing) stand);
      }
        where
          nothing : (file : NewFile) (name : LuceneName) → Contains [] file → Contains (referred_names before) name → file.name ≢ name_spelling name
          nothing file name (k, within, at) among same = omega arith

  -- a commit with a new segment
  module _ (source : List ℕ) (number : ℕ) (files : SegmentFiles) (drawn : next_segment (keys old) before ≡ Some number) (valid : number ≤ greatest_segment) (parts : All (λ file. IsPart file.kind) files.files) where
    abbrev commit : CommitValue
    commit = with_line (sourced_line source number files) before

    abbrev added : List NewFile
    added = map (new_file number) files.files

    abbrev change : ChangeValue
    change = change_on (keys old) generation commit added

    module _ (adds : AddsOnly change old new) (is_new : IsNew change old new) where
      -- no new file has the name of one that the old commit refers to
      names-apart : (file : NewFile) (name : LuceneName) → Contains added file → Contains (referred_names before) name → file.name ≢ name_spelling name
      names-apart file name new_one among same =
          let (one, there, is) : (one : NamedFile) × Contains files.files one × (new_file number one ≡ file) = map-Contains (new_file number) files.files file new_one in
          let own : All HasOwnSpelling (referred_names commit) = own-referred_names commit (Says-commit (commit_file new generation) commit is_new.current.good.says) in
          let spelled : name_spelling (Part number one.kind) ≡ name_spelling name = ap (λ (f : NewFile). f.name) is ∙ same in
          let part : IsPart one.kind = All-contains (λ (f : NamedFile). IsPart f.kind) files.files one parts there in
          let name_is : Part number one.kind ≡ name = name_spelling-same (Part number one.kind) name (HasOwnSpelling-IsName (Part number one.kind) (valid, part)) (All-contains HasOwnSpelling (referred_names commit) name own (also-referred (sourced_line source number files) before name among)) spelled in
          let less : number < number = segment-unreferred (keys old) before number name number drawn among (ap segment_of_name (sym name_is)) in
          omega arith

      -- the segments before stand for the same
      before-stand : StandAs new before.segments indexes
      before-stand = lines-kept old new before.segments indexes (before-kept old new (keys old) generation commit before added adds is_new (also-referred (sourced_line source number files) before) names-apart) stand

-- ---- the law

module _ (old new : Files) (left : List ℕ) (change : ChangeValue) (indexes : List Index) (adds : AddsOnly change old new) (is_new : IsNew change old new) where
  segment-built : (packed : Bool) (limits : Limits) (docs : List Document) (before : CommitValue) (generation : ℕ) → input_documents limits left ≡ Ok docs → All IsDocument docs → StandAs old before.segments indexes
      → AddsDocuments old before generation packed docs change → Stands new (indexes ++ indexes_of docs)
  segment-built packed limits docs before generation input held stand added =
      let index : Index = index_of_documents docs in
      let a : AddsSegment old before before generation packed flushed (index_of_documents docs) change = added.adds in
      let is : change ≡ adding (keys old) before generation flushed added.adds.options.number (canonical_files added.adds.options (index_of_documents docs)) = change-is old before before generation packed flushed (index_of_documents docs) change added.adds in
      let only = subst (λ (c : ChangeValue). AddsOnly c old new) is adds in
      let made = subst (λ (c : ChangeValue). IsNew c old new) is is_new in
      let fits = fit old before before generation packed flushed (index_of_documents docs) change added.adds in
      subst (λ (some : List Index). Stands new (indexes ++ some)) (sym added.one)
      (segment-added old before before generation packed flushed (index_of_documents docs) change added.adds new indexes only made
      (index-valid added.adds.options docs limits fits held (input-sound limits left docs input) (few-documents before.segments docs added.few)) (none-deleted docs)
      (before-stand old new left docs indexes before generation stand flushed added.adds.options.number (canonical_files added.adds.options (index_of_documents docs))
      (drawn-is old before before generation packed flushed (index_of_documents docs) change added.adds) added.adds.options.is_number (parts-are old before before generation packed flushed (index_of_documents docs) change added.adds) only made))

-- what `build` adds to what a folder stands for
pub build-adds : (compound : Bool) (old new : Files) (left : List ℕ) (outcome : Outcome) (change : ChangeValue) (limits : Limits) (docs : List Document) (indexes : List Index)
    → BuildDue compound (Some old) (Some left) outcome → outcome.effect ≡ Commit change → AddsOnly change old new → IsNew change old new
    → AreProgramLimits limits → input_documents limits left ≡ Ok docs → All IsDocument docs → CurrentStands old indexes → Stands new (indexes ++ indexes_of docs)
build-adds compound old new left outcome change limits docs indexes due effect adds is_new program input held stands =
    let built : IsBuilt old compound left change = due-built outcome change effect old compound left due in
    let same : built.docs ≡ docs = documents-same built.limits limits left built.docs docs built.program program built.input input in
    let stand : StandAs old built.before.segments indexes = built_on-stands old built.before indexes built.on stands in
    subst (λ (some : List Document). Stands new (indexes ++ indexes_of some)) same (by_way built stand (subst (λ (some : List Document). All IsDocument some) (sym same) held) built.way)
  where
    by_way : (built : IsBuilt old compound left change) → StandAs old built.before.segments indexes → All IsDocument built.docs
        → ((indexes_of built.docs ≡ []) × (change ≡ change_on (keys old) built.generation (raised built.before) [])) ⊎ AddsDocuments old built.before built.generation compound built.docs change → Stands new (indexes ++ indexes_of built.docs)
    by_way built stand texts (inl (none, is)) = raised-stands old new left built.docs indexes built.before built.generation stand change is adds is_new none
    by_way built stand texts (inr added) = segment-built old new left change indexes adds is_new compound built.limits built.docs built.before built.generation built.input texts stand added
