-- What the change is made of that is due of `build`.
use Rattle.std.proofs.Common.{◌≡◌, ◌⊎◌, ℕ, ◌+◌, ◌^◌, ◌≤◌, Bool, true, false, nat_le, List, [], ◌∷◌, length, map, Option, Some, None, Result, Ok, Err, refl, sym, ap, subst, ◌∙◌, inl, inr}
use Rattle.std.specs.Prelude.{nat_lt}
use Rattle.std.specs.FinMap.{keys}
use Rattle.std.proofs.lemmas.Bool.{leb-true}
use Rattle.std.proofs.Math.Bridge.{le_prop}
use Rattle.lu_dir.specs.Files.{Files}
use Rattle.lu_types.specs.Bounds.{most_documents, most_tokens, most_file_bytes}
use Rattle.lu_types.specs.declared.document.Document.{Document}
use Rattle.lu_types.specs.declared.document.Limits.{Limits}
use Rattle.lu_types.specs.declared.kind.FileKind.{FileKind}
use Rattle.lu_model.specs.Contents.{index_of_documents}
use Rattle.segment_infos.specs.declared.record.TheConstants.{MOST_DOCUMENTS}
use Rattle.segment_infos.specs.Values.{CommitValue, total_size}
use Rattle.segment_files.specs.declared.options.WriteOptions.{WriteOptions}
use Rattle.segment_files.specs.declared.options.SegmentFiles.{SegmentFiles}
use Rattle.lu_input.specs.Lines.{input_documents}
use Rattle.lu_input.specs.declared.fault.InputFault.{InputFault}
use Rattle.lu_input.specs.declared.fault.InputFault.TheVariants as inputs
use Rattle.lu_folder.specs.ChangeValues.{ChangeValue}
use Rattle.lu_folder.specs.Choosing.{AnswersCurrent}
use Rattle.lu_folder.specs.Drawing.{next_generation, next_segment}
use Rattle.lu_folder.specs.declared.choosing.Chosen.{Chosen}
use Rattle.lu_folder.specs.declared.fault.FolderFault.{FolderFault}
use Rattle.lu_folder.specs.declared.fault.FolderFault.TheVariants.{Failed, NoIndex, FileTooLarge, NotStanding, OutOfMemory}
use Rattle.lu_outcomes.specs.declared.outcome.Effect.TheVariants.{Nothing, Commit}
use Rattle.lu_outcomes.specs.declared.outcome.Outcome.{Outcome}
use Rattle.lu_changes.specs.Building.{empty_commit, BasisValue, sourced_line, flushed, new_file, raised, with_line, change_on, AreProgramLimits, AreProgramOptions, files_or, index_files_of, FilesGive, SumGives, NumberGives, DocumentsGive, BytesGive, InputGives, VersionGives, GenerationGives, CurrentGives, BuildDue}
use Rattle.lu_reads.specs.Standing.{indexes_of}
use Rattle.lu_changes.proofs.StandingKeptLemmas.{IsBuiltOn}
use Rattle.lu_changes.proofs.StandingAddedLemmas.{AddsSegment}

-- ---- limits

abbrev limits_of : (documents : ℕ) → documents ≤ most_documents → (tokens : ℕ) → tokens ≤ most_tokens → (bytes : ℕ) → bytes ≤ most_file_bytes → Limits
limits_of documents few_documents tokens few_tokens bytes few_bytes = record {
  documents = documents;
  tokens = tokens;
  file_bytes = bytes;
  few_documents = few_documents;
  few_tokens = few_tokens;
  few_bytes = few_bytes;
}

-- limits are determined by their numbers
limits-same : (one other : Limits) → one.documents ≡ other.documents → one.tokens ≡ other.tokens → one.file_bytes ≡ other.file_bytes → one ≡ other
limits-same one other documents tokens bytes =
    subst (λ (n : ℕ). (few : n ≤ most_documents) → one ≡ limits_of n few one.tokens one.few_tokens one.file_bytes one.few_bytes) documents
    (λ few. ap (λ (h : one.documents ≤ most_documents). limits_of one.documents h one.tokens one.few_tokens one.file_bytes one.few_bytes) (le_prop one.few_documents few)) other.few_documents
    ∙ subst (λ (n : ℕ). (few : n ≤ most_tokens) → limits_of other.documents other.few_documents one.tokens one.few_tokens one.file_bytes one.few_bytes ≡ limits_of other.documents other.few_documents n few one.file_bytes one.few_bytes) tokens
    (λ few. ap (λ (h : one.tokens ≤ most_tokens). limits_of other.documents other.few_documents one.tokens h one.file_bytes one.few_bytes) (le_prop one.few_tokens few)) other.few_tokens
    ∙ subst (λ (n : ℕ). (few : n ≤ most_file_bytes) → limits_of other.documents other.few_documents other.tokens other.few_tokens one.file_bytes one.few_bytes ≡ limits_of other.documents other.few_documents other.tokens other.few_tokens n few) bytes
    (λ few. ap (λ (h : one.file_bytes ≤ most_file_bytes). limits_of other.documents other.few_documents other.tokens other.few_tokens one.file_bytes h) (le_prop one.few_bytes few)) other.few_bytes

ok_same : (answer : Result (List Document) InputFault) (one other : List Document) → answer ≡ Ok one → answer ≡ Ok other → one ≡ other
ok_same answer one other first second = cc

-- an input has one list of documents under the limits of the program
pub documents-same : (one other : Limits) (bytes : List ℕ) (docs others : List Document) → AreProgramLimits one → AreProgramLimits other → input_documents one bytes ≡ Ok docs → input_documents other bytes ≡ Ok others → docs ≡ others
documents-same one other bytes docs others first second is also =
    ok_same (input_documents other bytes) docs others
    (subst (λ (limits : Limits). input_documents limits bytes ≡ Ok docs) (limits-same one other (first.documents ∙ sym second.documents) (first.tokens ∙ sym second.tokens) (first.file_bytes ∙ sym second.file_bytes)) is) also

-- ---- the change

-- the change adds a segment of these documents to the commit
pub record AddsDocuments (files : Files) (before : CommitValue) (generation : ℕ) (packed : Bool) (docs : List Document) (change : ChangeValue) : Type 0 where
  pub few : total_size before.segments + length docs ≤ MOST_DOCUMENTS
  pub one : indexes_of docs ≡ index_of_documents docs ∷ []
  pub adds : AddsSegment files before before generation packed flushed (index_of_documents docs) change

-- the change raises the commit that is built on, or adds a segment of the documents of the input to it
pub record IsBuilt (files : Files) (packed : Bool) (left : List ℕ) (change : ChangeValue) : Type 0 where
  pub before : CommitValue
  pub on : IsBuiltOn files before
  pub generation : ℕ
  pub limits : Limits
  pub program : AreProgramLimits limits
  pub docs : List Document
  pub input : input_documents limits left ≡ Ok docs
  pub way : ((indexes_of docs ≡ []) × (change ≡ change_on (keys files) generation (raised before) [])) ⊎ AddsDocuments files before generation packed docs change

-- ---- what is due

module _ (outcome : Outcome) (change : ChangeValue) (effect : outcome.effect ≡ Commit change) where
  -- an outcome without an effect is none that commits
  pub idle : {A : Type 0} → outcome.effect ≡ Nothing → A
  idle none = absurd (differ (sym none ∙ effect))
    where
      differ : Nothing ≡ Commit change → ⊥
      differ e = cc

  pub commits : (other : ChangeValue) → outcome.effect ≡ Commit other → change ≡ other
  commits other is = same (sym effect ∙ is)
    where
      same : Commit change ≡ Commit other → change ≡ other
      same e = cc

  module _ (files : Files) (packed : Bool) (before : CommitValue) (on : IsBuiltOn files before) (generation : ℕ) where
    abbrev basis : BasisValue
    basis = record { names = keys files; before = before; generation = generation; compound = packed }

    module _ (docs : List Document) (some : indexes_of docs ≡ index_of_documents docs ∷ []) where
      abbrev Added : Type 0
      Added = AddsDocuments files before generation packed docs change

      files-given : (number : ℕ) → next_segment (keys files) before ≡ Some number → total_size before.segments + length docs ≤ MOST_DOCUMENTS → (options : WriteOptions) → AreProgramOptions options number packed
          → (answer : Result SegmentFiles FileKind) → index_files_of options (index_of_documents docs) ≡ answer → FilesGive basis flushed number answer outcome → Added
      files-given number drawn few options program (Ok written) canonical given = record {
        few = few;
        one = some;
        adds = record {
          number = number;
          drawn = drawn;
          options = options;
          program = program;
          written = written;
          canonical = canonical;
          is = commits (change_on (keys files) generation (with_line (sourced_line flushed number written) before) (map (new_file number) written.files)) (ap (λ (o : Outcome). o.effect) given);
        };
      }
      files-given number drawn few options program (Err kind) canonical given = idle (ap (λ (o : Outcome). o.effect) given)

      sum-given : (number : ℕ) → next_segment (keys files) before ≡ Some number → (fits : Bool) → nat_le (total_size before.segments + length docs) MOST_DOCUMENTS ≡ fits → SumGives basis docs number fits outcome → Added
      sum-given number drawn true fits (options, program, given) =
          files-given number drawn (leb-true (total_size before.segments + length docs) MOST_DOCUMENTS fits) options program (index_files_of options (index_of_documents docs)) refl given
      sum-given number drawn false fits given = idle (ap (λ (o : Outcome). o.effect) given)

      number-given : (found : Option ℕ) → next_segment (keys files) before ≡ found → NumberGives basis docs found outcome → Added
      number-given None drawn given = idle (ap (λ (o : Outcome). o.effect) given)
      number-given (Some number) drawn given = sum-given number drawn (nat_le (total_size before.segments + length docs) MOST_DOCUMENTS) refl given

    module _ (left : List ℕ) where
      documents-given : (limits : Limits) → AreProgramLimits limits → (answer : Result (List Document) InputFault) → input_documents limits left ≡ answer → DocumentsGive basis answer outcome → IsBuilt files packed left change
      documents-given limits program (Ok []) input given = record {
        before = before;
        on = on;
        generation = generation;
        limits = limits;
        program = program;
        docs = [];
        input = input;
        way = inl (refl, commits (change_on (keys files) generation (raised before) []) (ap (λ (o : Outcome). o.effect) given));
      }
      documents-given limits program (Ok (doc ∷ docs)) input given = record {
        before = before;
        on = on;
        generation = generation;
        limits = limits;
        program = program;
        docs = doc ∷ docs;
        input = input;
        way = inr (number-given (doc ∷ docs) refl (next_segment (keys files) before) refl given);
      }
      documents-given limits program (Err (inputs.Line number fault)) input given = idle (ap (λ (o : Outcome). o.effect) given)
      documents-given limits program (Err inputs.OutOfMemory) input given = absurd given

      bytes-given : (bytes : List ℕ) → bytes ≡ left → BytesGive basis bytes outcome → IsBuilt files packed left change
      bytes-given bytes is (limits, program, given) = documents-given limits program (input_documents limits bytes) (ap (input_documents limits) (sym is)) given

      input-given : InputGives basis (Some left) outcome → IsBuilt files packed left change
      input-given (inl (over, given)) = idle (ap (λ (o : Outcome). o.effect) given)
      input-given (inr (bytes, is, few, given)) = bytes-given bytes (is left refl) given

      version-given : (fits : Bool) → VersionGives basis (Some left) fits outcome → IsBuilt files packed left change
      version-given true given = input-given given
      version-given false given = idle (ap (λ (o : Outcome). o.effect) given)

  module _ (files : Files) (packed : Bool) (left : List ℕ) where
    commit-given : (before : CommitValue) → IsBuiltOn files before → (found : Option ℕ) → GenerationGives (keys files) before packed (Some left) found outcome → IsBuilt files packed left change
    commit-given before on None given = idle (ap (λ (o : Outcome). o.effect) given)
    commit-given before on (Some generation) given = version-given files packed before on generation left (nat_lt (before.version + 1) (2 ^ 63)) given

    current-given : (answer : Result Chosen FolderFault) → AnswersCurrent files answer → CurrentGives (keys files) packed (Some left) answer outcome → IsBuilt files packed left change
    current-given (Ok chosen) is given = commit-given chosen.commit (inl (chosen.generation, is.0)) (next_generation (keys files)) given
    current-given (Err NoIndex) is given = commit-given empty_commit (inr (is, refl)) (next_generation (keys files)) given
    current-given (Err (FileTooLarge kind)) is given = idle (ap (λ (o : Outcome). o.effect) given)
    current-given (Err (NotStanding generation fault)) is given = idle (ap (λ (o : Outcome). o.effect) given)
    current-given (Err Failed) is given = absurd given
    current-given (Err OutOfMemory) is given = absurd given

    -- a change that is due is built
    pub due-built : BuildDue packed (Some files) (Some left) outcome → IsBuilt files packed left change
    due-built (made, (names, listed, (answer, is, given))) =
        current-given answer (is files refl) (subst (λ (some : List (List ℕ)). CurrentGives some packed (Some left) answer outcome) (listed files refl) given)
