-- What is written of sound documents is their canonical files, or the first that passes the limit.
use Rattle.std.proofs.Common.{◌≡◌, ℕ, suc, ◌+◌, ◌^◌, ◌<◌, ◌≤◌, true, List, [], ◌∷◌, length, Option, Some, None, Result, Ok, Err, refl, sym, ap, subst, ◌∙◌, inl, inr}
use Rattle.std.specs.List.{AllByRecursion}
use Rattle.lu_types.specs.DocFaults.{doc_fault, IsSoundField}
use Rattle.lu_types.specs.declared.document.DocFault.{DocFault}
use Rattle.lu_types.specs.declared.document.Document.{Document}
use Rattle.lu_types.specs.declared.document.IndexedField.{IndexedField}
use Rattle.lu_types.specs.declared.document.Limits.{Limits}
use Rattle.lu_types.specs.declared.kind.FileKind.{FileKind}
use Rattle.lu_types.proofs.DocFaultLemmas.{IsSound-from_none}
use Rattle.lu_types.proofs.SoundLemmas.{doc_fault-none}
use Rattle.lu_model.specs.Contents.{index_of_documents}
use Rattle.lu_model.proofs.Words.{Each}
use Rattle.lu_model.proofs.Each.{all-from_each, each-from_all}
use Rattle.lu_input.specs.Lines.{input_documents}
use Rattle.lu_input.proofs.SoundLemmas.{input-sound}
use Rattle.segment_files.specs.Written.{canonical_files, too_large_file}
use Rattle.segment_files.specs.declared.options.WriteOptions.{WriteOptions}
use Rattle.segment_files.specs.declared.options.SegmentFiles.{SegmentFiles}
use Rattle.seg_writer.specs.Answers.{AnswersSegment, fault_or, files_due, first_faulty, segment_due, written_segment}
use Rattle.seg_writer.specs.declared.fault.WriteFault.{WriteFault}
use Rattle.seg_writer.specs.declared.fault.WriteFault.TheVariants.{Doc, TooLarge, OutOfMemory}
use Rattle.segment_infos.specs.declared.record.TheConstants.{MOST_DOCUMENTS}
use Rattle.segment_infos.specs.Values.{IsCommit, total_size}
use Rattle.lu_folder.specs.Drawing.{next_segment}
use Rattle.lu_outcomes.specs.declared.status.Refusal.TheVariants as refusals
use Rattle.lu_outcomes.specs.declared.outcome.Outcome.{Outcome}
use Rattle.lu_changes.specs.Building.{BasisValue, AreProgramLimits, AreProgramOptions, files_or, index_files_of, flushed, sourced_line, with_line, segment_outcome, FilesGive, SumGives}
use Rattle.lu_changes.specs.Inputs.{AreSoundDocuments}
use Rattle.lu_outcomes.specs.Refusing.{refused_outcome}
use Rattle.lu_changes.proofs.NewCommitLemmas.{flushed-map, drawn-above, with_line-commit}
use Rattle.lu_changes.proofs.NewFilesLemmas.{ArePartFiles, index-size, files-parts, files-size}

-- ---- documents without a fault

fields-within : (limits other : Limits) → limits.tokens ≡ other.tokens → (fields : List IndexedField) → AllByRecursion (IsSoundField limits) fields → AllByRecursion (IsSoundField other) fields
fields-within limits other same [] within = tt
fields-within limits other same (field ∷ fields) within =
    (record { name = within.0.name; few = subst (λ (most : ℕ). length field.tokens ≤ most) same within.0.few; tokens = within.0.tokens }, fields-within limits other same fields within.1)

-- a document has no fault under limits that allow as many tokens
doc_fault-limits : (limits other : Limits) → limits.tokens ≡ other.tokens → (doc : Document) → doc_fault doc limits ≡ None → doc_fault doc other ≡ None
doc_fault-limits limits other same doc none =
    let sound = IsSound-from_none doc limits none in
    doc_fault-none doc other (record { stored = sound.stored; fields = fields-within limits other same doc.indexed sound.fields; apart = sound.apart })

all-limits : (limits other : Limits) → limits.tokens ≡ other.tokens → (docs : List Document) → Each (λ doc. doc_fault doc limits ≡ None) docs → Each (λ doc. doc_fault doc other ≡ None) docs
all-limits limits other same [] sound = tt
all-limits limits other same (doc ∷ docs) sound = (doc_fault-limits limits other same doc sound.0, all-limits limits other same docs sound.1)

-- the documents of an input are sound
pub input-sound_documents : (limits : Limits) (bytes : List ℕ) (docs : List Document) → AreProgramLimits limits → input_documents limits bytes ≡ Ok docs → AreSoundDocuments docs
input-sound_documents limits bytes docs program is =
    λ other also. all-from_each (λ doc. doc_fault doc other ≡ None) docs
    (all-limits limits other (program.tokens ∙ sym also.tokens) docs (each-from_all (λ doc. doc_fault doc limits ≡ None) docs (input-sound limits bytes docs is)))

first_faulty-none : (limits : Limits) (number : ℕ) (docs : List Document) → Each (λ doc. doc_fault doc limits ≡ None) docs → first_faulty limits number docs ≡ None
first_faulty-none limits number [] sound = refl
first_faulty-none limits number (doc ∷ docs) sound =
    ap (λ (fault : Option DocFault). fault_or fault number (first_faulty limits (suc number) docs)) sound.0 ∙ first_faulty-none limits (suc number) docs sound.1

-- ---- what is written of them

-- files that are due are those of the index, where none passes the limit
due-written : (large : Option FileKind) (all files : SegmentFiles) → Ok files ≡ files_due large all → files_or large all ≡ Ok files
due-written None all files is = let e : Ok files ≡ files_due None all = is in ap written (cc)
  where
    written : SegmentFiles → Result SegmentFiles FileKind
    written some = Ok some
due-written (Some kind) all files is = let e : Ok files ≡ files_due (Some kind) all = is in absurd (cc)

due-large : (large : Option FileKind) (all : SegmentFiles) (kind : FileKind) → Err (TooLarge kind) ≡ files_due large all → files_or large all ≡ Err kind
due-large None all kind is = let e : Err (TooLarge kind) ≡ files_due None all = is in absurd (cc)
due-large (Some first) all kind is = let e : Err (TooLarge kind) ≡ files_due (Some first) all = is in ap refused (cc)
  where
    refused : FileKind → Result SegmentFiles FileKind
    refused some = Err some

due-faulty : (large : Option FileKind) (all : SegmentFiles) (number : ℕ) (fault : DocFault) → Err (Doc number fault) ≡ files_due large all → ⊥
due-faulty None all number fault is = let e : Err (Doc number fault) ≡ files_due None all = is in cc
due-faulty (Some kind) all number fault is = let e : Err (Doc number fault) ≡ files_due (Some kind) all = is in cc

module _ (docs : List Document) (options : WriteOptions) (sound : AreSoundDocuments docs) (program : AreProgramLimits options.limits) where
  due-is : written_segment docs options ≡ files_due (too_large_file options (index_of_documents docs)) (canonical_files options (index_of_documents docs))
  due-is = ap (λ faulty. segment_due faulty (files_due (too_large_file options (index_of_documents docs)) (canonical_files options (index_of_documents docs))))
      (first_faulty-none options.limits 0 docs (each-from_all (λ doc. doc_fault doc options.limits ≡ None) docs (sound options.limits program)))

  -- files that are answered are those of the documents
  pub answered-files : (files : SegmentFiles) → AnswersSegment (written_segment docs options) (Ok files) → index_files_of options (index_of_documents docs) ≡ Ok files
  answered-files files (inl is) = due-written (too_large_file options (index_of_documents docs)) (canonical_files options (index_of_documents docs)) files (is ∙ due-is)
  answered-files files (inr none) = let e : Ok files ≡ Err OutOfMemory = none in absurd (cc)

  -- a kind that is answered is that of the first file that passes the limit
  pub answered-large : (kind : FileKind) → AnswersSegment (written_segment docs options) (Err (TooLarge kind)) → index_files_of options (index_of_documents docs) ≡ Err kind
  answered-large kind (inl is) = due-large (too_large_file options (index_of_documents docs)) (canonical_files options (index_of_documents docs)) kind (is ∙ due-is)
  answered-large kind (inr none) = let e : Err (TooLarge kind) ≡ Err OutOfMemory = none in absurd (cc)

  -- no document is answered as faulty
  pub answered-faulty : (told : WriteFault) (number : ℕ) (fault : DocFault) → told ≡ Doc number fault → AnswersSegment (written_segment docs options) (Err told) → ⊥
  answered-faulty told number fault same (inl is) = due-faulty (too_large_file options (index_of_documents docs)) (canonical_files options (index_of_documents docs)) number fault (sym (ap failed same) ∙ is ∙ due-is)
    where
      failed : WriteFault → Result SegmentFiles WriteFault
      failed f = Err f
  answered-faulty told number fault same (inr none) = let e : Err (Doc number fault) ≡ Err OutOfMemory = sym (ap failed same) ∙ none in cc
    where
      failed : WriteFault → Result SegmentFiles WriteFault
      failed f = Err f

module _ (basis : BasisValue) (docs : List Document) (number : ℕ) (options : WriteOptions) (are : AreProgramOptions options number basis.compound) (sound : AreSoundDocuments docs) where
  -- what comes of documents whose files were written
  pub SumGives-written : (files : SegmentFiles) (outcome : Outcome) → AnswersSegment (written_segment docs options) (Ok files) → outcome ≡ segment_outcome basis flushed number files → SumGives basis docs number true outcome
  SumGives-written files outcome answer is = (options, are, subst (λ (due : Result SegmentFiles FileKind). FilesGive basis flushed number due outcome) (sym (answered-files docs options sound are.limits files answer)) is)

  -- or of which a file passes the limit
  pub SumGives-large : (told : WriteFault) (kind : FileKind) (outcome : Outcome) → told ≡ TooLarge kind → AnswersSegment (written_segment docs options) (Err told) → outcome ≡ refused_outcome (refusals.TooLarge kind) → SumGives basis docs number true outcome
  SumGives-large told kind outcome same answer is =
      let large : AnswersSegment (written_segment docs options) (Err (TooLarge kind)) = subst (λ (f : WriteFault). AnswersSegment (written_segment docs options) (Err f)) same answer in
      (options, are, subst (λ (due : Result SegmentFiles FileKind). FilesGive basis flushed number due outcome) (sym (answered-large docs options sound are.limits kind large)) is)

  -- the files that were written are parts
  pub written-parts : (files : SegmentFiles) → AnswersSegment (written_segment docs options) (Ok files) → ArePartFiles files.files
  written-parts files answer = files-parts options (index_of_documents docs) files (answered-files docs options sound are.limits files answer)

  -- and the commit with the new segment is one
  pub written-commit : (files : SegmentFiles) → AnswersSegment (written_segment docs options) (Ok files) → IsCommit basis.before → next_segment basis.names basis.before ≡ Some number → basis.before.version + 1 < 2 ^ 63
      → total_size basis.before.segments + length docs ≤ MOST_DOCUMENTS → IsCommit (with_line (sourced_line flushed number files) basis.before)
  written-commit files answer is drawn version sum =
      with_line-commit basis.before flushed number files is flushed-map (drawn-above basis.names basis.before number drawn) version
      (subst (λ (size : ℕ). total_size basis.before.segments + size ≤ MOST_DOCUMENTS) (sym (files-size options (index_of_documents docs) files (answered-files docs options sound are.limits files answer) ∙ index-size docs)) sum)
