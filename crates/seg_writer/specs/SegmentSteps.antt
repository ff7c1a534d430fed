-- How a segment is written, step by step.
use Rattle.std.specs.Prelude.{◌≡◌, cond, List, [], ◌∷◌, ◌++◌, None, Some, Result, Ok, Err, All}
use Rattle.std.specs.Global.{Global}
use Rattle.std.specs.declared.vec.Vec.{Vec}
use Rattle.check_index.specs.Files.{PartFiles}
use Rattle.lu_types.specs.Documents.{IsDocument}
use Rattle.lu_types.specs.Joins.{table_of}
use Rattle.lu_types.specs.declared.document.Document.{Document}
use Rattle.lu_types.specs.declared.document.Limits.{Limits}
use Rattle.lu_types.specs.declared.named_file.NamedFile.{NamedFile}
use Rattle.lu_model.specs.Contents.{under}
use Rattle.lu_model.specs.Index.{Index}
use Rattle.posting_files.specs.States.{canonical_postings, given_files}
use Rattle.segment_files.specs.Parts.{canonical_parts_of, intervals_of, keep_positions}
use Rattle.segment_files.specs.Postings.{PostingIntervals, kept_terms}
use Rattle.segment_files.specs.Written.{first_past, packed_file, packed_if, written_in_order}
use Rattle.segment_files.specs.declared.options.WriteOptions.{WriteOptions}
use Rattle.seg_writer.specs.Answers.{first_faulty}
use Rattle.seg_writer.specs.NormColumns.{given_norms, norm_file_due}
use Rattle.seg_writer.specs.PartsGathered.{part_files}
use Rattle.seg_writer.specs.declared.fault.WriteFault.{WriteFault}
use Rattle.seg_writer.specs.declared.fault.WriteFault.TheVariants.{Doc, TooLarge, OutOfMemory}
use Rattle.seg_writer.specs.declared.packing.WrittenParts.{WrittenParts}
use Rattle.seg_writer.specs.declared.segment.ColumnFiles.{ColumnFiles}

-- no document has a fault, and each is made of texts and bytes
pub record AreFaultless (limits : Limits) (docs : List Document) : Type 0 where
  pub none : first_faulty limits 0 docs ≡ None
  pub made : All IsDocument docs

-- the files of the columns of documents, in the order in which they are written
abbrev pub column_files_due : PostingIntervals → List Document → List NamedFile
column_files_due intervals docs = let table = table_of docs in
    canonical_postings intervals (kept_terms table (under table docs).terms) ++ norm_file_due docs table

-- those that a call gave
abbrev pub given_column_files : ColumnFiles → List NamedFile
given_column_files files = given_files files.postings ++ given_norms files.nrm

-- the parts of an index are written: none of them passes the limit; or the kind of the first that does; or there was no memory
abbrev pub WritesParts : WriteOptions → Index → Result WrittenParts WriteFault → Type 0
WritesParts options index (Ok parts) = let due = canonical_parts_of (intervals_of options) index in
    (first_past options.limits.file_bytes (written_in_order due) ≡ None) × (part_files parts ≡ due) × (parts.has_prox ≡ keep_positions index.fields)
WritesParts options index (Err (Doc number fault)) = ⊥
WritesParts options index (Err (TooLarge kind)) = first_past options.limits.file_bytes (written_in_order (canonical_parts_of (intervals_of options) index)) ≡ Some kind
WritesParts options index (Err OutOfMemory) = Unit {0}

-- the file that parts are packed into, where that is asked for
abbrev pub packed_due : WriteOptions → PartFiles → List NamedFile
packed_due options parts = cond options.compound (packed_file options.number parts ∷ []) []

-- parts are packed where that is asked for: these are the files; or the packed one passes the limit; or there was no memory
abbrev pub PacksParts : WriteOptions → PartFiles → Result (Vec NamedFile Global) WriteFault → Type 0
PacksParts options parts (Ok files) = (first_past options.limits.file_bytes (packed_due options parts) ≡ None) × (files.items ≡ packed_if options.compound options.number parts)
PacksParts options parts (Err (Doc number fault)) = ⊥
PacksParts options parts (Err (TooLarge kind)) = first_past options.limits.file_bytes (packed_due options parts) ≡ Some kind
PacksParts options parts (Err OutOfMemory) = Unit {0}
