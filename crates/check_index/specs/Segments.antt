-- The files of a segment, in the order in which they are checked, and what they stand for (format page, "How a fault is found").
use Rattle.std.specs.Prelude.{◌≡◌, ℕ, List, length, Result, Ok, Err}
use Rattle.lu_types.specs.FilePlans.{FilePlan, stands, followed_by, StandFor, IsFaultAmong}
use Rattle.lu_types.specs.Tables.{TableField}
use Rattle.lu_model.specs.Index.{FieldVector, Index}
use Rattle.stored_fields.specs.Values.{StoredDocument}
use Rattle.term_dict.specs.Dictionary.{Dictionary}
use Rattle.freq_skips.specs.Terms.{TermData}
use Rattle.segment_infos.specs.declared.infos.SegInfo.{SegInfo}
use Rattle.check_index.specs.declared.parts.CheckFault.{CheckFault}
use Rattle.check_index.specs.declared.parts.CheckFault.TheVariants as faults
use Rattle.check_index.specs.Files.{PartFiles, FolderFiles}
use Rattle.check_index.specs.Locating.{located_parts}
use Rattle.check_index.specs.Documents.{field_files, stored_files, deletion_files}
use Rattle.check_index.specs.Terms.{TermLists, term_files}
use Rattle.check_index.specs.Positions.{TermOccurrences, position_files}
use Rattle.check_index.specs.Indexed.{indexed_terms}
use Rattle.check_index.specs.Norms.{FieldNorms, norm_files}
use Rattle.check_index.specs.Vectors.{document_vectors}

-- what the files of a segment stand for: an index, and, term by term, what the files of terms, entries and positions say
pub record SegmentValue : Type 0 where
  pub index : Index
  pub dictionary : Dictionary
  pub lists : List TermData
  pub occurrences : List TermOccurrences

-- what its fields, stored documents and terms are, read from these parts
pub record Contents : Type 0 where
  pub fields : List TableField
  pub stored : List StoredDocument
  pub terms : TermLists
  pub occurrences : List TermOccurrences

-- what stands beside them: norms, deleted documents and vectors
pub record Columns : Type 0 where
  pub norms : FieldNorms
  pub deleted : List ℕ
  pub vectors : List (List (FieldVector ℕ))

-- the field table, the stored documents, and the terms with their entries and positions
abbrev pub content_files : PartFiles → SegInfo → FilePlan Contents
content_files files line =
    followed_by (field_files files.index line) (λ fields.
    followed_by (stored_files line.store line.size (length fields) files.documents.fdx files.documents.fdt) (λ stored.
    followed_by (term_files files.index line.size fields) (λ terms.
    followed_by (position_files files.index line fields terms) (λ occurrences.
    stands (record { fields = fields; stored = stored; terms = terms; occurrences = occurrences })))))

-- the norms, the deletions and the vectors
abbrev pub side_files : FolderFiles → PartFiles → SegInfo → List TableField → FilePlan Columns
side_files folder files line fields =
    followed_by (norm_files files.index.nrm folder.separate line fields) (λ norms.
    followed_by (deletion_files folder.del line) (λ deleted.
    followed_by (document_vectors files.documents line fields) (λ vectors.
    stands (record { norms = norms; deleted = deleted; vectors = vectors }))))

-- the index and the dictionary of a segment of so many documents
abbrev pub segment_value : ℕ → Contents → Columns → SegmentValue
segment_value size contents columns = record {
  index = record {
    size = size;
    fields = contents.fields;
    stored = contents.stored;
    terms = indexed_terms contents.fields contents.terms.dictionary.terms contents.terms.lists contents.occurrences;
    norms = columns.norms;
    vectors = columns.vectors;
    deleted = columns.deleted;
  };
  dictionary = contents.terms.dictionary;
  lists = contents.terms.lists;
  occurrences = contents.occurrences;
}

-- all files of a segment
abbrev pub segment_files : FolderFiles → SegInfo → FilePlan SegmentValue
segment_files folder line =
    followed_by (located_parts folder line) (λ files.
    followed_by (content_files files line) (λ contents.
    followed_by (side_files folder files line contents.fields) (λ columns.
    stands (segment_value line.size contents columns))))

-- what the check of a segment answers, which has this place in the list of the commit: what its files stand for, their first fault, or that there was
-- no memory
abbrev pub IsJudged : FolderFiles → ℕ → SegInfo → Result SegmentValue CheckFault → Type 0
IsJudged folder segment line (Ok x) = StandFor (segment_files folder line) x
IsJudged folder segment line (Err (faults.Fault fault)) = (fault.segment ≡ segment) × IsFaultAmong (segment_files folder line) fault.spot
IsJudged folder segment line (Err faults.OutOfMemory) = Unit {0}
