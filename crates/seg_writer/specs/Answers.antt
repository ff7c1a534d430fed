-- What writing a segment answers.
use Rattle.std.specs.Prelude.{◌≡◌, ◌⊎◌, ℕ, suc, List, [], ◌∷◌, Option, None, Some, Result, Ok, Err, All}
use Rattle.lu_types.specs.DocFaults.{doc_fault}
use Rattle.lu_types.specs.Documents.{IsDocument}
use Rattle.lu_types.specs.declared.document.DocFault.{DocFault}
use Rattle.lu_types.specs.declared.document.Document.{Document}
use Rattle.lu_types.specs.declared.document.Limits.{Limits}
use Rattle.lu_types.specs.declared.named_file.NamedFile.{NamedFile}
use Rattle.lu_types.specs.declared.kind.FileKind.{FileKind}
use Rattle.lu_model.specs.Contents.{index_of_documents}
use Rattle.segment_files.specs.Written.{canonical_files, first_past, too_large_file}
use Rattle.segment_files.specs.declared.options.SegmentFiles.{SegmentFiles}
use Rattle.segment_files.specs.declared.options.WriteOptions.{WriteOptions}
use Rattle.posting_files.specs.declared.fault.PostingFault.{PostingFault}
use Rattle.posting_files.specs.declared.fault.PostingFault.TheVariants as posting
use Rattle.seg_writer.specs.declared.fault.WriteFault.{WriteFault}
use Rattle.seg_writer.specs.declared.fault.WriteFault.TheVariants.{Doc, TooLarge, OutOfMemory}

-- the first document with a fault, or else the first of the others
abbrev pub fault_or : Option DocFault → ℕ → Option (ℕ × DocFault) → Option (ℕ × DocFault)
fault_or None number others = others
fault_or (Some fault) number others = Some (number, fault)

-- the first document with a fault among documents that are numbered from here on, and its fault
abbrev pub first_faulty : Limits → ℕ → List Document → Option (ℕ × DocFault)
first_faulty limits number [] = None
first_faulty limits number (doc ∷ docs) = fault_or (doc_fault doc limits) number (first_faulty limits (suc number) docs)

-- what is due to an index whose files may pass the limit: its canonical files, or the first that does
abbrev pub files_due : Option FileKind → SegmentFiles → Result SegmentFiles WriteFault
files_due None files = Ok files
files_due (Some kind) files = Err (TooLarge kind)

-- what is due to documents of which one may have a fault
abbrev pub segment_due : Option (ℕ × DocFault) → Result SegmentFiles WriteFault → Result SegmentFiles WriteFault
segment_due None due = due
segment_due (Some faulty) due = Err (Doc faulty.0 faulty.1)

-- what writing the documents is to answer: the first with its fault; else the first canonical file of their index that passes the limit; else these files
abbrev pub written_segment : List Document → WriteOptions → Result SegmentFiles WriteFault
written_segment docs options = let index = index_of_documents docs in
    segment_due (first_faulty options.limits 0 docs) (files_due (too_large_file options index) (canonical_files options index))

-- a call answers what it is to answer, or that there was no memory
abbrev pub AnswersSegment : Result SegmentFiles WriteFault → Result SegmentFiles WriteFault → Type 0
AnswersSegment due answer = (answer ≡ due) ⊎ (answer ≡ Err OutOfMemory)

-- ---- steps

-- why a segment was not written, where its terms were not
abbrev pub write_fault : PostingFault → WriteFault
write_fault (posting.TooLarge kind) = TooLarge kind
write_fault posting.OutOfMemory = OutOfMemory

-- whether documents have a fault
abbrev pub JudgesDocuments : List Document → Limits → Result (Unit {0}) WriteFault → Type 0
JudgesDocuments docs limits (Ok done) = (first_faulty limits 0 docs ≡ None) × All IsDocument docs
JudgesDocuments docs limits (Err (Doc number fault)) = first_faulty limits 0 docs ≡ Some (number, fault)
JudgesDocuments docs limits (Err (TooLarge kind)) = ⊥
JudgesDocuments docs limits (Err OutOfMemory) = Unit {0}

-- files are written, seen so: none of them passes the limit; or the kind of the first that does; or there was no memory
abbrev pub Wrote : {X : Type 0} → (X → List NamedFile) → ℕ → List NamedFile → Result X WriteFault → Type 0
Wrote view limit files (Ok x) = (first_past limit files ≡ None) × (view x ≡ files)
Wrote view limit files (Err (Doc number fault)) = ⊥
Wrote view limit files (Err (TooLarge kind)) = first_past limit files ≡ Some kind
Wrote view limit files (Err OutOfMemory) = Unit {0}
