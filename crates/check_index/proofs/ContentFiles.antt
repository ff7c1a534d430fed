-- What the checks of the groups of files show of all files of a segment.
use Rattle.std.proofs.Common.{◌≡◌, ℕ, List, length, Result, Ok, Err}
use Rattle.lu_types.specs.FilePlans.{FilePlan, stands, followed_by, StandFor, Judges}
use Rattle.lu_types.specs.Tables.{TableField}
use Rattle.lu_types.specs.declared.fault.CodecFault.{CodecFault}
use Rattle.lu_types.proofs.FileLaws.{first-judged, then-judged}
use Rattle.lu_model.specs.Index.{FieldVector}
use Rattle.stored_fields.specs.Values.{StoredDocument}
use Rattle.segment_infos.specs.declared.infos.SegInfo.{SegInfo}
use Rattle.check_index.specs.Files.{PartFiles, FolderFiles}
use Rattle.check_index.specs.Locating.{located_parts}
use Rattle.check_index.specs.Documents.{field_files, stored_files, deletion_files}
use Rattle.check_index.specs.Terms.{TermLists, term_files}
use Rattle.check_index.specs.Positions.{TermOccurrences, position_files}
use Rattle.check_index.specs.Norms.{FieldNorms, norm_files}
use Rattle.check_index.specs.Vectors.{document_vectors}
use Rattle.check_index.specs.Segments.{SegmentValue, Contents, Columns, content_files, side_files, segment_value, segment_files}

-- ---- the field table, the stored documents and the terms

module _ {Y : Type 0} (seen : Y → Contents) (files : PartFiles) (line : SegInfo) where
  abbrev all_contents : List TableField → List StoredDocument → TermLists → List TermOccurrences → Contents
  all_contents fields stored terms occurrences = record { fields = fields; stored = stored; terms = terms; occurrences = occurrences }

  abbrev pub after_terms : List TableField → List StoredDocument → TermLists → FilePlan Contents
  after_terms fields stored terms = followed_by (position_files files.index line fields terms) (λ occurrences. stands (all_contents fields stored terms occurrences))

  abbrev pub after_stored : List TableField → List StoredDocument → FilePlan Contents
  after_stored fields stored = followed_by (term_files files.index line.size fields) (after_terms fields stored)

  abbrev pub documents_of : List TableField → FilePlan (List StoredDocument)
  documents_of fields = stored_files line.store line.size (length fields) files.documents.fdx files.documents.fdt

  abbrev pub after_fields : List TableField → FilePlan Contents
  after_fields fields = followed_by (documents_of fields) (after_stored fields)

  module _ (fields : List TableField) (fields_stand : StandFor (field_files files.index line) fields) where
    pub stored-fault : {X : Type 0} (view : X → List StoredDocument) (fault : CodecFault) → Judges view (documents_of fields) (Err fault) → Judges seen (content_files files line) (Err fault)
    stored-fault view fault h = then-judged seen (field_files files.index line) after_fields fields (Err fault) fields_stand (first-judged view seen (documents_of fields) (after_stored fields) fault h)

    module _ (stored : List StoredDocument) (stored_stand : StandFor (documents_of fields) stored) where
      terms-judged : (r : Result Y CodecFault) → Judges seen (after_stored fields stored) r → Judges seen (content_files files line) r
      terms-judged r h = then-judged seen (field_files files.index line) after_fields fields r fields_stand (then-judged seen (documents_of fields) (after_stored fields) stored r stored_stand h)

      pub terms-fault : {X : Type 0} (view : X → TermLists) (fault : CodecFault) → Judges view (term_files files.index line.size fields) (Err fault) → Judges seen (content_files files line) (Err fault)
      terms-fault view fault h = terms-judged (Err fault) (first-judged view seen (term_files files.index line.size fields) (after_terms fields stored) fault h)

      module _ (terms : TermLists) (terms_stand : StandFor (term_files files.index line.size fields) terms) where
        positions-judged : (r : Result Y CodecFault) → Judges seen (after_terms fields stored terms) r → Judges seen (content_files files line) r
        positions-judged r h = terms-judged r (then-judged seen (term_files files.index line.size fields) (after_terms fields stored) terms r terms_stand h)

        pub positions-fault : {X : Type 0} (view : X → List TermOccurrences) (fault : CodecFault) → Judges view (position_files files.index line fields terms) (Err fault) → Judges seen (content_files files line) (Err fault)
        positions-fault view fault h =
            positions-judged (Err fault) (first-judged view seen (position_files files.index line fields terms) (λ occurrences. stands (all_contents fields stored terms occurrences)) fault h)

        pub contents-stand : (occurrences : List TermOccurrences) (y : Y) → StandFor (position_files files.index line fields terms) occurrences → seen y ≡ all_contents fields stored terms occurrences → Judges seen (content_files files line) (Ok y)
        contents-stand occurrences y h is =
            positions-judged (Ok y) (then-judged seen (position_files files.index line fields terms) (λ occurrences. stands (all_contents fields stored terms occurrences)) occurrences (Ok y) h is)

-- ---- norms, deletions and vectors

module _ {Y : Type 0} (seen : Y → Columns) (folder : FolderFiles) (files : PartFiles) (line : SegInfo) (fields : List TableField) where
  abbrev all_columns : FieldNorms → List ℕ → List (List (FieldVector ℕ)) → Columns
  all_columns norms deleted vectors = record { norms = norms; deleted = deleted; vectors = vectors }

  abbrev after_deletions : FieldNorms → List ℕ → FilePlan Columns
  after_deletions norms deleted = followed_by (document_vectors files.documents line fields) (λ vectors. stands (all_columns norms deleted vectors))

  abbrev after_norms : FieldNorms → FilePlan Columns
  after_norms norms = followed_by (deletion_files folder.del line) (after_deletions norms)

  pub norms-fault : {X : Type 0} (view : X → FieldNorms) (fault : CodecFault) → Judges view (norm_files files.index.nrm folder.separate line fields) (Err fault) → Judges seen (side_files folder files line fields) (Err fault)
  norms-fault view fault h = first-judged view seen (norm_files files.index.nrm folder.separate line fields) after_norms fault h

  module _ (norms : FieldNorms) (norms_stand : StandFor (norm_files files.index.nrm folder.separate line fields) norms) where
    deletions-judged : (r : Result Y CodecFault) → Judges seen (after_norms norms) r → Judges seen (side_files folder files line fields) r
    deletions-judged r h = then-judged seen (norm_files files.index.nrm folder.separate line fields) after_norms norms r norms_stand h

    pub deletions-fault : {X : Type 0} (view : X → List ℕ) (fault : CodecFault) → Judges view (deletion_files folder.del line) (Err fault) → Judges seen (side_files folder files line fields) (Err fault)
    deletions-fault view fault h = deletions-judged (Err fault) (first-judged view seen (deletion_files folder.del line) (after_deletions norms) fault h)

    module _ (deleted : List ℕ) (deleted_stand : StandFor (deletion_files folder.del line) deleted) where
      vectors-judged : (r : Result Y CodecFault) → Judges seen (after_deletions norms deleted) r → Judges seen (side_files folder files line fields) r
      vectors-judged r h = deletions-judged r (then-judged seen (deletion_files folder.del line) (after_deletions norms) deleted r deleted_stand h)

      pub vectors-fault : {X : Type 0} (view : X → List (List (FieldVector ℕ))) (fault : CodecFault) → Judges view (document_vectors files.documents line fields) (Err fault) → Judges seen (side_files folder files line fields) (Err fault)
      vectors-fault view fault h = vectors-judged (Err fault) (first-judged view seen (document_vectors files.documents line fields) (λ vectors. stands (all_columns norms deleted vectors)) fault h)

      pub columns-stand : (vectors : List (List (FieldVector ℕ))) (y : Y) → StandFor (document_vectors files.documents line fields) vectors → seen y ≡ all_columns norms deleted vectors → Judges seen (side_files folder files line fields) (Ok y)
      columns-stand vectors y h is = vectors-judged (Ok y) (then-judged seen (document_vectors files.documents line fields) (λ vectors. stands (all_columns norms deleted vectors)) vectors (Ok y) h is)

-- ---- all of them

module _ {Y : Type 0} (seen : Y → SegmentValue) (folder : FolderFiles) (line : SegInfo) where
  abbrev after_contents : PartFiles → Contents → FilePlan SegmentValue
  after_contents files contents = followed_by (side_files folder files line contents.fields) (λ columns. stands (segment_value line.size contents columns))

  abbrev after_located : PartFiles → FilePlan SegmentValue
  after_located files = followed_by (content_files files line) (after_contents files)

  pub located-fault : {X : Type 0} (view : X → PartFiles) (fault : CodecFault) → Judges view (located_parts folder line) (Err fault) → Judges seen (segment_files folder line) (Err fault)
  located-fault view fault h = first-judged view seen (located_parts folder line) after_located fault h

  module _ (files : PartFiles) (located : StandFor (located_parts folder line) files) where
    pub contents-fault : {X : Type 0} (view : X → Contents) (fault : CodecFault) → Judges view (content_files files line) (Err fault) → Judges seen (segment_files folder line) (Err fault)
    contents-fault view fault h = then-judged seen (located_parts folder line) after_located files (Err fault) located (first-judged view seen (content_files files line) (after_contents files) fault h)

    module _ (contents : Contents) (contents_stand : StandFor (content_files files line) contents) where
      columns-judged : (r : Result Y CodecFault) → Judges seen (after_contents files contents) r → Judges seen (segment_files folder line) r
      columns-judged r h = then-judged seen (located_parts folder line) after_located files r located (then-judged seen (content_files files line) (after_contents files) contents r contents_stand h)

      pub columns-fault : {X : Type 0} (view : X → Columns) (fault : CodecFault) → Judges view (side_files folder files line contents.fields) (Err fault) → Judges seen (segment_files folder line) (Err fault)
      columns-fault view fault h = columns-judged (Err fault) (first-judged view seen (side_files folder files line contents.fields) (λ columns. stands (segment_value line.size contents columns)) fault h)

      pub segment-stands : (columns : Columns) (y : Y) → StandFor (side_files folder files line contents.fields) columns → seen y ≡ segment_value line.size contents columns → Judges seen (segment_files folder line) (Ok y)
      segment-stands columns y h is = columns-judged (Ok y) (then-judged seen (side_files folder files line contents.fields) (λ columns. stands (segment_value line.size contents columns)) columns (Ok y) h is)
