-- The outcome of `build` that is due is one.
use Rattle.std.proofs.Common.{◌≡◌, ℕ, ◌+◌, ◌^◌, ◌<◌, ◌≤◌, Bool, true, false, List, [], ◌∷◌, length, Option, Some, None, Result, Ok, Err, refl, sym, subst, ◌∙◌, inl, inr, arith}
use Rattle.std.specs.Prelude.{nat_lt, nat_le}
use Rattle.lu_dir.specs.Files.{Files}
use Rattle.lu_types.specs.declared.document.Document.{Document}
use Rattle.lu_types.specs.declared.document.Limits.{Limits}
use Rattle.lu_types.specs.declared.kind.FileKind.{FileKind}
use Rattle.lu_model.specs.Contents.{index_of_documents}
use Rattle.lu_model.specs.Index.{Index}
use Rattle.segment_infos.specs.declared.record.TheConstants.{MOST_DOCUMENTS}
use Rattle.segment_infos.specs.Values.{CommitValue, total_size}
use Rattle.segment_files.specs.declared.options.WriteOptions.{WriteOptions}
use Rattle.segment_files.specs.declared.options.SegmentFiles.{SegmentFiles}
use Rattle.lu_input.specs.Lines.{input_documents}
use Rattle.lu_input.specs.declared.fault.InputFault.{InputFault}
use Rattle.lu_input.specs.declared.fault.InputFault.TheVariants as inputs
use Rattle.lu_folder.specs.Limits.{file_limit}
use Rattle.lu_folder.specs.Choosing.{IsTold}
use Rattle.lu_folder.specs.Drawing.{next_generation, next_segment}
use Rattle.lu_folder.specs.declared.choosing.Chosen.{Chosen}
use Rattle.lu_folder.specs.declared.fault.FolderFault.{FolderFault}
use Rattle.lu_folder.specs.declared.fault.FolderFault.TheVariants.{Failed, NoIndex, FileTooLarge, NotStanding, OutOfMemory}
use Rattle.lu_folder.proofs.OneAnswer.{current-answer}
use Rattle.lu_outcomes.specs.declared.outcome.Outcome.{Outcome}
use Rattle.lu_changes.specs.Building.{BasisValue, empty_commit, flushed, index_files_of, FilesGive, IndexGives, SumGives, NumberGives, DocumentsGive, BytesGive, InputGives, VersionGives, GenerationGives, CurrentGives, BuildDue}
use Rattle.lu_changes.proofs.OneProgram.{limits-one, options-one}

-- what comes of the index of a new segment is one outcome
module _ (basis : BasisValue) (source : List ℕ) (number : ℕ) (one other : Outcome) where
  files-one : (files : Result SegmentFiles FileKind) → FilesGive basis source number files one → FilesGive basis source number files other → one ≡ other
  files-one (Ok files) a b = a ∙ sym b
  files-one (Err kind) a b = a ∙ sym b

  pub index-one : (index : Index) → IndexGives basis source number index one → IndexGives basis source number index other → one ≡ other
  index-one index a b =
      files-one (index_files_of a.0 index) a.2
      (subst (λ (options : WriteOptions). FilesGive basis source number (index_files_of options index) other) (options-one b.0 a.0 number basis.compound b.1 a.1) b.2)

module _ (basis : BasisValue) (one other : Outcome) where
  sum-one : (docs : List Document) (number : ℕ) (fits : Bool) → SumGives basis docs number fits one → SumGives basis docs number fits other → one ≡ other
  sum-one docs number true a b = index-one basis flushed number one other (index_of_documents docs) a b
  sum-one docs number false a b = a ∙ sym b

  number-one : (docs : List Document) (drawn : Option ℕ) → NumberGives basis docs drawn one → NumberGives basis docs drawn other → one ≡ other
  number-one docs (Some number) a b = sum-one docs number (nat_le (total_size basis.before.segments + length docs) MOST_DOCUMENTS) a b
  number-one docs None a b = a ∙ sym b

  documents-one : (docs : Result (List Document) InputFault) → DocumentsGive basis docs one → DocumentsGive basis docs other → one ≡ other
  documents-one (Ok []) a b = a ∙ sym b
  documents-one (Ok (doc ∷ docs)) a b = number-one (doc ∷ docs) (next_segment basis.names basis.before) a b
  documents-one (Err (inputs.Line number fault)) a b = a ∙ sym b
  documents-one (Err inputs.OutOfMemory) a b = absurd a

  bytes-one : (bytes : List ℕ) → BytesGive basis bytes one → BytesGive basis bytes other → one ≡ other
  bytes-one bytes a b =
      documents-one (input_documents a.0 bytes) a.2
      (subst (λ (limits : Limits). DocumentsGive basis (input_documents limits bytes) other) (limits-one b.0 a.0 b.1 a.1) b.2)

  -- an input with more bytes than are read is none whose bytes decide
  not_both : (left bytes : List ℕ) → file_limit < length left → bytes ≡ left → length bytes ≤ file_limit → ⊥
  not_both left bytes over same fits = let short : length left ≤ file_limit = subst (λ (text : List ℕ). length text ≤ file_limit) same fits in omega arith

  input-one : (left : List ℕ) → InputGives basis (Some left) one → InputGives basis (Some left) other → one ≡ other
  input-one left (inl a) (inl b) = a.1 ∙ sym b.1
  input-one left (inl a) (inr b) = absurd (not_both left b.0 (a.0 left refl) (b.1 left refl) b.2)
  input-one left (inr a) (inl b) = absurd (not_both left a.0 (b.0 left refl) (a.1 left refl) a.2)
  input-one left (inr a) (inr b) =
      bytes-one a.0 a.3 (subst (λ (bytes : List ℕ). BytesGive basis bytes other) (b.1 left refl ∙ sym (a.1 left refl)) b.3)

  version-one : (left : List ℕ) (fits : Bool) → VersionGives basis (Some left) fits one → VersionGives basis (Some left) fits other → one ≡ other
  version-one left true a b = input-one left a b
  version-one left false a b = a ∙ sym b

module _ (names : List (List ℕ)) (compound : Bool) (left : List ℕ) (one other : Outcome) where
  generation-one : (before : CommitValue) (drawn : Option ℕ) → GenerationGives names before compound (Some left) drawn one → GenerationGives names before compound (Some left) drawn other → one ≡ other
  generation-one before (Some generation) a b =
      version-one (record { names = names; before = before; generation = generation; compound = compound }) one other left (nat_lt (before.version + 1) (2 ^ 63)) a b
  generation-one before None a b = a ∙ sym b

  current-one : (answer : Result Chosen FolderFault) → CurrentGives names compound (Some left) answer one → CurrentGives names compound (Some left) answer other → one ≡ other
  current-one (Ok chosen) a b = generation-one chosen.commit (next_generation names) a b
  current-one (Err NoIndex) a b = generation-one empty_commit (next_generation names) a b
  current-one (Err (FileTooLarge kind)) a b = a ∙ sym b
  current-one (Err (NotStanding generation fault)) a b = a ∙ sym b
  current-one (Err Failed) a b = absurd a
  current-one (Err OutOfMemory) a b = absurd a

-- what gives an outcome is told
gives-told : (names : List (List ℕ)) (compound : Bool) (input : Option (List ℕ)) (answer : Result Chosen FolderFault) (outcome : Outcome) → CurrentGives names compound input answer outcome → IsTold answer
gives-told names compound input (Ok chosen) outcome gives = tt
gives-told names compound input (Err NoIndex) outcome gives = tt
gives-told names compound input (Err (FileTooLarge kind)) outcome gives = tt
gives-told names compound input (Err (NotStanding generation fault)) outcome gives = tt
gives-told names compound input (Err Failed) outcome gives = gives
gives-told names compound input (Err OutOfMemory) outcome gives = gives

-- the outcome of `build` that is due is one
pub build-one : (told : Files) (left : List ℕ) (compound : Bool) (one other : Outcome) → BuildDue compound (Some told) (Some left) one → BuildDue compound (Some told) (Some left) other → one ≡ other
build-one told left compound one other (made, (names, named, (answer, answers, gives))) (also, (listed, lists, (second, seconds, gives_other))) =
    let same_names : listed ≡ names = lists told refl ∙ sym (named told refl) in
    let is_told = gives-told names compound (Some left) answer one gives in
    let other_told = gives-told listed compound (Some left) second other gives_other in
    let same_answer : second ≡ answer = current-answer told (made told refl) second answer other_told is_told (seconds told refl) (answers told refl) in
    current-one names compound left one other answer gives
    (subst (λ (said : Result Chosen FolderFault). CurrentGives names compound (Some left) said other) same_answer
    (subst (λ (all : List (List ℕ)). CurrentGives all compound (Some left) second other) same_names gives_other))
