-- Which outcome is due of `build`: the current commit, then the input, then the new segment (docs/FORMAT.md, "Commits in a folder").
use Rattle.std.specs.Prelude.{◌≡◌, ◌⊎◌, ℕ, ◌+◌, ◌^◌, ◌<◌, ◌≤◌, Bool, true, false, nat_lt, nat_le, List, [], ◌∷◌, ◌++◌, length, map, codes, Option, Some, None, Result, Ok, Err}
use Rattle.std.specs.Option.{ForSome}
use Rattle.std.specs.Fmt.{decimal}
use Rattle.std.specs.FinMap.{keys}
use Rattle.lu_dir.specs.Files.{Files, AreMadeOfBytes}
use Rattle.lu_types.specs.Names.{segment_name}
use Rattle.lu_types.specs.Bounds.{most_documents, most_tokens, most_file_bytes}
use Rattle.lu_types.specs.declared.document.Document.{Document}
use Rattle.lu_types.specs.declared.document.Limits.{Limits}
use Rattle.lu_types.specs.declared.kind.FileKind.{FileKind}
use Rattle.lu_types.specs.declared.named_file.NamedFile.{NamedFile}
use Rattle.lu_model.specs.Contents.{index_of_documents}
use Rattle.lu_model.specs.Index.{Index}
use Rattle.segment_infos.specs.declared.infos.MapPair.{MapPair}
use Rattle.segment_infos.specs.declared.infos.SegInfo.{SegInfo}
use Rattle.segment_infos.specs.declared.naming.LuceneName.TheVariants.{Part}
use Rattle.segment_infos.specs.declared.record.TheConstants.{MOST_DOCUMENTS}
use Rattle.segment_infos.specs.LuceneNames.{name_spelling}
use Rattle.segment_infos.specs.Referring.{removable}
use Rattle.segment_infos.specs.Values.{CommitValue, total_size}
use Rattle.segment_files.specs.Lines.{new_line}
use Rattle.segment_files.specs.Written.{canonical_files, too_large_file}
use Rattle.segment_files.specs.declared.options.WriteOptions.{WriteOptions}
use Rattle.segment_files.specs.declared.options.SegmentFiles.{SegmentFiles}
use Rattle.lu_input.specs.Lines.{input_documents}
use Rattle.lu_input.specs.declared.fault.InputFault.{InputFault}
use Rattle.lu_input.specs.declared.fault.InputFault.TheVariants as inputs
use Rattle.lu_folder.specs.Limits.{file_limit}
use Rattle.lu_folder.specs.ChangeValues.{ChangeValue}
use Rattle.lu_folder.specs.Choosing.{AnswersCurrent}
use Rattle.lu_folder.specs.Drawing.{next_generation, next_segment}
use Rattle.lu_folder.specs.declared.new_file.NewFile.{NewFile}
use Rattle.lu_folder.specs.declared.choosing.Chosen.{Chosen}
use Rattle.lu_folder.specs.declared.fault.FolderFault.{FolderFault}
use Rattle.lu_folder.specs.declared.fault.FolderFault.TheVariants.{Failed, NoIndex, FileTooLarge, NotStanding, OutOfMemory}
use Rattle.lu_outcomes.specs.declared.status.Status.TheVariants as statuses
use Rattle.lu_outcomes.specs.declared.status.Refusal.TheVariants as refusals
use Rattle.lu_outcomes.specs.declared.outcome.Effect.TheVariants.{Commit}
use Rattle.lu_outcomes.specs.declared.outcome.Outcome.{Outcome}
use Rattle.lu_outcomes.specs.Outcomes.{too_large_outcome}
use Rattle.lu_outcomes.specs.Refusing.{refused_outcome}
use Rattle.lu_reads.specs.Checking.{commit_fault}

-- ---- what a commit is built on

-- the commit of a folder without any
abbrev pub empty_commit : CommitValue
empty_commit = record { version = 0; counter = 0; segments = []; user = [] }

-- the names of the folder, in order; the commit that is current; the generation of the next one; whether its new segment is packed
pub record BasisValue : Type 0 where
  pub names : List (List ℕ)
  pub before : CommitValue
  pub generation : ℕ
  pub compound : Bool

-- ---- the new commit

-- what the line of a new segment says of where it comes from
abbrev pub sourced : List ℕ → List MapPair
sourced source = (record { key = codes "source"; value = source }) ∷ []

-- the line of a new segment that comes from there, with this number and these files
abbrev pub sourced_line : List ℕ → ℕ → SegmentFiles → SegInfo
sourced_line source number files = new_line number (sourced source) files

-- where a segment of documents comes from: it was flushed
abbrev pub flushed : List ℕ
flushed = codes "flush"

-- a file of the segment with this number, under its name
abbrev pub new_file : ℕ → NamedFile → NewFile
new_file number file = record { name = name_spelling (Part number file.kind); bytes = file.bytes }

-- the commit with its version raised
abbrev pub raised : CommitValue → CommitValue
raised before = record { version = before.version + 1; counter = before.counter; segments = before.segments; user = before.user }

-- the commit with its version raised, and one segment more, whose number is counted
abbrev pub with_line : SegInfo → CommitValue → CommitValue
with_line new before = record { version = before.version + 1; counter = new.number + 1; segments = before.segments ++ new ∷ []; user = before.user }

-- the change that makes this commit of this generation in a folder with these names: it removes the names that the commit leaves without use
abbrev pub change_on : List (List ℕ) → ℕ → CommitValue → List NewFile → ChangeValue
change_on names generation commit files = record {
  files = files;
  generation = generation;
  commit = commit;
  removable = removable ((record { generation = generation; commit = commit }) ∷ []) names;
}

-- ---- outcomes

-- the line of a commit without a new segment
abbrev pub no_segment_text : ℕ → List ℕ
no_segment_text generation = codes "commit " ++ (decimal generation ++ codes ": no segment\n")

-- the line of a commit with a new segment: its name, and how many documents it has
abbrev pub segment_text : ℕ → ℕ → ℕ → List ℕ
segment_text generation number size =
    codes "commit " ++ (decimal generation ++ (codes ": " ++ (segment_name number ++ (codes " with " ++ (decimal size ++ codes " documents\n")))))

-- the outcome where there is no document: a commit without a new segment
abbrev pub no_segment_outcome : BasisValue → Outcome
no_segment_outcome basis = record {
  status = statuses.Ok;
  text = no_segment_text basis.generation;
  effect = Commit (change_on basis.names basis.generation (raised basis.before) []);
}

-- the outcome of a new segment that comes from there, with this number and these files
abbrev pub segment_outcome : BasisValue → List ℕ → ℕ → SegmentFiles → Outcome
segment_outcome basis source number files = record {
  status = statuses.Ok;
  text = segment_text basis.generation number files.size;
  effect = Commit (change_on basis.names basis.generation (with_line (sourced_line source number files) basis.before) (map (new_file number) files.files));
}

-- ---- the new segment

-- these are the limits of the program
pub record AreProgramLimits (limits : Limits) : Type 0 where
  pub documents : limits.documents ≡ most_documents
  pub tokens : limits.tokens ≡ most_tokens
  pub file_bytes : limits.file_bytes ≡ most_file_bytes

-- these are the options of the program for a segment with this number, compound or not
pub record AreProgramOptions (options : WriteOptions) (segment : ℕ) (packed : Bool) : Type 0 where
  pub number : options.number ≡ segment
  pub index : options.index_interval ≡ 128
  pub skip : options.skip_interval ≡ 16
  pub levels : options.max_levels ≡ 10
  pub compound : options.compound ≡ packed
  pub limits : AreProgramLimits options.limits

-- the canonical files of an index, or the first that passes the limit
abbrev pub files_or : Option FileKind → SegmentFiles → Result SegmentFiles FileKind
files_or None files = Ok files
files_or (Some kind) files = Err kind

-- so under options
abbrev pub index_files_of : WriteOptions → Index → Result SegmentFiles FileKind
index_files_of options index = files_or (too_large_file options index) (canonical_files options index)

-- ---- what is due

-- by the files of the new segment
abbrev pub FilesGive : BasisValue → List ℕ → ℕ → Result SegmentFiles FileKind → Outcome → Type 0
FilesGive basis source number (Ok files) outcome = outcome ≡ segment_outcome basis source number files
FilesGive basis source number (Err kind) outcome = outcome ≡ refused_outcome (refusals.TooLarge kind)

-- by the index of the new segment
abbrev pub IndexGives : BasisValue → List ℕ → ℕ → Index → Outcome → Type 0
IndexGives basis source number index outcome =
    (options : WriteOptions) × AreProgramOptions options number basis.compound × FilesGive basis source number (index_files_of options index) outcome

-- by whether the commit may have so many documents
abbrev pub SumGives : BasisValue → List Document → ℕ → Bool → Outcome → Type 0
SumGives basis docs number true outcome = IndexGives basis flushed number (index_of_documents docs) outcome
SumGives basis docs number false outcome = outcome ≡ refused_outcome refusals.TooMany

-- by the number of the new segment
abbrev pub NumberGives : BasisValue → List Document → Option ℕ → Outcome → Type 0
NumberGives basis docs (Some number) outcome =
    SumGives basis docs number (nat_le (total_size basis.before.segments + length docs) MOST_DOCUMENTS) outcome
NumberGives basis docs None outcome = outcome ≡ refused_outcome refusals.CounterFull

-- by the documents of the input, or its first faulty line
abbrev pub DocumentsGive : BasisValue → Result (List Document) InputFault → Outcome → Type 0
DocumentsGive basis (Ok []) outcome = outcome ≡ no_segment_outcome basis
DocumentsGive basis (Ok (doc ∷ docs)) outcome = NumberGives basis (doc ∷ docs) (next_segment basis.names basis.before) outcome
DocumentsGive basis (Err (inputs.Line number fault)) outcome = outcome ≡ refused_outcome (refusals.Line number fault)
DocumentsGive basis (Err inputs.OutOfMemory) outcome = ⊥

-- by the bytes of the input
abbrev pub BytesGive : BasisValue → List ℕ → Outcome → Type 0
BytesGive basis bytes outcome = (limits : Limits) × AreProgramLimits limits × DocumentsGive basis (input_documents limits bytes) outcome

-- by the input: it has more bytes than are read, or its bytes decide
abbrev pub InputGives : BasisValue → Option (List ℕ) → Outcome → Type 0
InputGives basis input outcome =
    (ForSome input (λ left. file_limit < length left) × (outcome ≡ refused_outcome refusals.InputTooLarge))
    ⊎ ((bytes : List ℕ) × ForSome input (λ left. bytes ≡ left) × (length bytes ≤ file_limit) × BytesGive basis bytes outcome)

-- by whether the version can be raised
abbrev pub VersionGives : BasisValue → Option (List ℕ) → Bool → Outcome → Type 0
VersionGives basis input true outcome = InputGives basis input outcome
VersionGives basis input false outcome = outcome ≡ refused_outcome refusals.VersionFull

-- by the generation of the next commit
abbrev pub GenerationGives : List (List ℕ) → CommitValue → Bool → Option (List ℕ) → Option ℕ → Outcome → Type 0
GenerationGives names before compound input (Some generation) outcome =
    VersionGives (record { names = names; before = before; generation = generation; compound = compound }) input (nat_lt (before.version + 1) (2 ^ 63)) outcome
GenerationGives names before compound input None outcome = outcome ≡ refused_outcome refusals.GenerationFull

-- by the commit that is built on
abbrev pub CommitGives : List (List ℕ) → CommitValue → Bool → Option (List ℕ) → Outcome → Type 0
CommitGives names before compound input outcome = GenerationGives names before compound input (next_generation names) outcome

-- by what is answered about the current commit: without any, the empty one is built on
abbrev pub CurrentGives : List (List ℕ) → Bool → Option (List ℕ) → Result Chosen FolderFault → Outcome → Type 0
CurrentGives names compound input (Ok chosen) outcome = CommitGives names chosen.commit compound input outcome
CurrentGives names compound input (Err NoIndex) outcome = CommitGives names empty_commit compound input outcome
CurrentGives names compound input (Err (FileTooLarge kind)) outcome = outcome ≡ too_large_outcome kind
CurrentGives names compound input (Err (NotStanding generation fault)) outcome = outcome ≡ commit_fault generation fault
CurrentGives names compound input (Err Failed) outcome = ⊥
CurrentGives names compound input (Err OutOfMemory) outcome = ⊥

-- the outcome of `build` that is due over these files and this input
abbrev pub BuildDue : Bool → Option Files → Option (List ℕ) → Outcome → Type 0
BuildDue compound files input outcome =
    ForSome files AreMadeOfBytes
    × ((names : List (List ℕ)) × ForSome files (λ told. names ≡ keys told)
    × ((answer : Result Chosen FolderFault) × ForSome files (λ told. AnswersCurrent told answer) × CurrentGives names compound input answer outcome))
