-- What writing a segment answers, step by step.
use Rattle.std.proofs.Common.{◌≡◌, refl, ap, sym, ◌∙◌, subst, ℕ, ◌++◌, Bool, true, false, cond, List, [], ◌∷◌, length, None, Some, Result, Ok, Err, inl, inr}
use Rattle.std.specs.Global.{Global}
use Rattle.std.specs.declared.vec.Vec.{Vec}
use Rattle.check_index.specs.Files.{PartFiles}
use Rattle.check_index.specs.Vectors.{have_vectors}
use Rattle.doc_marks.specs.Norms.{nrm_spelling}
use Rattle.field_infos.specs.Spelling.{fnm_spelling}
use Rattle.lu_types.specs.Joins.{table_of}
use Rattle.lu_types.specs.Tables.{TableField}
use Rattle.lu_types.specs.declared.document.Document.{Document}
use Rattle.lu_types.specs.declared.kind.FileKind.TheVariants.{Fnm}
use Rattle.lu_types.specs.declared.named_file.NamedFile.{NamedFile}
use Rattle.lu_model.specs.Contents.{index_of_documents, under}
use Rattle.posting_files.specs.States.{canonical_postings, given_files, named}
use Rattle.segment_files.specs.Parts.{canonical_parts_of, have_norms, intervals_of, keep_positions, norm_columns}
use Rattle.segment_files.specs.Postings.{PostingIntervals, kept_terms, lines_written, tii_bytes, tis_bytes}
use Rattle.segment_files.specs.Written.{canonical_files, checked_in_order, first_past, packed_file, packed_if, too_large_file, written_in_order}
use Rattle.segment_files.specs.declared.options.SegmentFiles.{SegmentFiles}
use Rattle.segment_files.specs.declared.options.WriteOptions.{WriteOptions}
use Rattle.stored_fields.specs.Writing.{fdt_bytes, fdx_bytes}
use Rattle.term_vectors.specs.VectorBytes.{tvx_bytes, tvd_bytes, tvf_bytes}
use Rattle.seg_writer.specs.Answers.{AnswersSegment, JudgesDocuments, Wrote, files_due, segment_due, written_segment}
use Rattle.seg_writer.specs.NormColumns.{field_norms, given_norms, norm_file_due}
use Rattle.seg_writer.specs.SegmentSteps.{AreFaultless, PacksParts, WritesParts, column_files_due, given_column_files, packed_due}
use Rattle.seg_writer.specs.PartsGathered.{part_files}
use Rattle.seg_writer.specs.Stores.{given_store, store_files_due, stores_of}
use Rattle.seg_writer.specs.VectorsDue.{given_vectors, vector_files_due, vectors_of_documents}
use Rattle.seg_writer.specs.declared.fault.WriteFault.{WriteFault}
use Rattle.seg_writer.specs.declared.fault.WriteFault.TheVariants.{Doc, TooLarge, OutOfMemory}
use Rattle.seg_writer.specs.declared.packing.WrittenParts.{WrittenParts}
use Rattle.seg_writer.specs.declared.segment.ColumnFiles.{ColumnFiles}
use Rattle.seg_writer.proofs.PastLemmas.{past-here, past-later, past-written, wrote-here, wrote-later}
use Rattle.seg_writer.proofs.SegmentPartLemmas.{canonical_parts-documents, document_parts, document_postings, fields-documents, parts-written, positions-documents, size-documents}

-- ---- columns

module _ (intervals : PostingIntervals) (limit : ℕ) (docs : List Document) (table fields : List TableField) (is : table ≡ table_of docs) (same : fields ≡ table) where
  abbrev terms_due : List TableField → List NamedFile
  terms_due t = canonical_postings intervals (kept_terms t (under t docs).terms)

  -- the files of terms were not written
  pub terms-fault : (fault : WriteFault) → Wrote given_files limit (terms_due table) (Err fault) → Wrote given_column_files limit (column_files_due intervals docs) (Err fault)
  terms-fault fault h =
      subst (λ t. Wrote given_column_files limit (terms_due t ++ norm_file_due docs t) (Err fault)) is (wrote-here given_files given_column_files limit (terms_due table) (norm_file_due docs table) fault h)

  -- they were, and not that of norms
  pub norms-fault : (fault : WriteFault) → first_past limit (terms_due table) ≡ None → Wrote given_norms limit (norm_file_due docs fields) (Err fault) → Wrote given_column_files limit (column_files_due intervals docs) (Err fault)
  norms-fault fault within h =
      subst (λ t. Wrote given_column_files limit (terms_due t ++ norm_file_due docs t) (Err fault)) is
      (wrote-later given_norms given_column_files limit (terms_due table) (norm_file_due docs table) fault within (subst (λ f. Wrote given_norms limit (norm_file_due docs f) (Err fault)) same h))

  -- both were
  pub columns-told : (files : ColumnFiles) → Wrote given_files limit (terms_due table) (Ok files.postings) → Wrote given_norms limit (norm_file_due docs fields) (Ok files.nrm) → Wrote given_column_files limit (column_files_due intervals docs) (Ok files)
  columns-told files terms norms =
      subst (λ t. Wrote given_column_files limit (terms_due t ++ norm_file_due docs t) (Ok files)) is (
        past-later limit (terms_due table) (norm_file_due docs table) None terms.0 (subst (λ f. first_past limit (norm_file_due docs f) ≡ None) same norms.0),
        ap (λ w. w ++ given_norms files.nrm) terms.1 ∙ ap (λ w. terms_due table ++ w) (norms.1 ∙ ap (norm_file_due docs) same),
      )

-- ---- the parts of documents

module _ (options : WriteOptions) (docs : List Document) (table fields : List TableField) (is : table ≡ table_of docs) (same : fields ≡ table) where
  abbrev most : ℕ
  most = options.limits.file_bytes

  abbrev fnm_due : List TableField → List NamedFile
  fnm_due f = named Fnm (fnm_spelling f) ∷ []

  abbrev stored_due : List TableField → List NamedFile
  stored_due t = store_files_due (stores_of t docs)

  abbrev columns_due : List NamedFile
  columns_due = column_files_due (intervals_of options) docs

  abbrev vectors_due : List TableField → List TableField → List NamedFile
  vectors_due f t = vector_files_due (have_vectors f) (vectors_of_documents t docs)

  -- all of them; positions are among them also where they are not written
  abbrev pieces : List TableField → List TableField → List NamedFile
  pieces f t = fnm_due f ++ (stored_due t ++ (columns_due ++ vectors_due f t))

  past-pieces : first_past most (written_in_order (document_parts (intervals_of options) docs)) ≡ first_past most (pieces (table_of docs) (table_of docs))
  past-pieces =
      let whole = table_of docs in
      let p = document_postings (intervals_of options) docs in
      let w = lines_written (intervals_of options) p.lines in
      let stores = stores_of whole docs in
      let vectors = vectors_of_documents whole docs in
      past-written most (fnm_spelling whole) (fdt_bytes stores) (fdx_bytes stores) p.prx p.frq (tis_bytes w) (tii_bytes w) (nrm_spelling (norm_columns (field_norms docs whole))) (tvf_bytes vectors) (tvd_bytes vectors) (tvx_bytes vectors)
      (keep_positions whole) (have_norms whole) (have_vectors whole) (positions-documents (intervals_of options) docs)

  past-parts : first_past most (written_in_order (canonical_parts_of (intervals_of options) (index_of_documents docs))) ≡ first_past most (pieces fields table)
  past-parts =
      ap (λ parts. first_past most (written_in_order parts)) (canonical_parts-documents (intervals_of options) docs)
      ∙ past-pieces
      ∙ ap (λ f. first_past most (pieces f (table_of docs))) (sym (same ∙ is))
      ∙ ap (λ t. first_past most (pieces fields t)) (sym is)

  -- the pieces were not written
  pieces-fault : {X : Type 0} (view : X → List NamedFile) (fault : WriteFault) → Wrote view most (pieces fields table) (Err fault) → WritesParts options (index_of_documents docs) (Err fault)
  pieces-fault view (Doc number fault) h = h
  pieces-fault view (TooLarge kind) h = past-parts ∙ h
  pieces-fault view OutOfMemory h = tt

  -- the file of the field table was not
  pub fields-fault : {X : Type 0} (view : X → List NamedFile) (fault : WriteFault) → Wrote view most (fnm_due fields) (Err fault) → WritesParts options (index_of_documents docs) (Err fault)
  fields-fault view fault h = pieces-fault view fault (wrote-here view view most (fnm_due fields) (stored_due table ++ (columns_due ++ vectors_due fields table)) fault h)

  -- those of stored values were not
  pub stored-fault : (fault : WriteFault) → first_past most (fnm_due fields) ≡ None → Wrote given_store most (stored_due table) (Err fault) → WritesParts options (index_of_documents docs) (Err fault)
  stored-fault fault fnm h =
      pieces-fault given_store fault (wrote-later given_store given_store most (fnm_due fields) (stored_due table ++ (columns_due ++ vectors_due fields table)) fault fnm
      (wrote-here given_store given_store most (stored_due table) (columns_due ++ vectors_due fields table) fault h))

  -- those of columns were not
  pub columns-fault : (fault : WriteFault) → first_past most (fnm_due fields) ≡ None → first_past most (stored_due table) ≡ None → Wrote given_column_files most columns_due (Err fault) → WritesParts options (index_of_documents docs) (Err fault)
  columns-fault fault fnm stored h =
      pieces-fault given_store fault (wrote-later given_store given_store most (fnm_due fields) (stored_due table ++ (columns_due ++ vectors_due fields table)) fault fnm
      (wrote-later given_store given_store most (stored_due table) (columns_due ++ vectors_due fields table) fault stored
      (wrote-here given_column_files given_store most columns_due (vectors_due fields table) fault h)))

  -- those of vectors were not
  pub vectors-fault : (fault : WriteFault) → first_past most (fnm_due fields) ≡ None → first_past most (stored_due table) ≡ None → first_past most columns_due ≡ None → Wrote given_vectors most (vectors_due fields table) (Err fault) → WritesParts options (index_of_documents docs) (Err fault)
  vectors-fault fault fnm stored columns h =
      pieces-fault given_store fault (wrote-later given_store given_store most (fnm_due fields) (stored_due table ++ (columns_due ++ vectors_due fields table)) fault fnm
      (wrote-later given_store given_store most (stored_due table) (columns_due ++ vectors_due fields table) fault stored
      (wrote-later given_vectors given_store most columns_due (vectors_due fields table) fault columns h)))

  -- all were written
  pub parts-told : (parts : WrittenParts) → (first_past most (fnm_due fields) ≡ None) × (named Fnm parts.fnm ∷ [] ≡ fnm_due fields) → Wrote given_store most (stored_due table) (Ok parts.stored)
      → Wrote given_column_files most columns_due (Ok (record { postings = parts.postings; nrm = parts.nrm })) → Wrote given_vectors most (vectors_due fields table) (Ok parts.vectors) → parts.has_prox ≡ keep_positions fields
      → WritesParts options (index_of_documents docs) (Ok parts)
  parts-told parts fnm stored columns vectors prox =
      let kept : parts.has_prox ≡ keep_positions (table_of docs) = prox ∙ ap keep_positions (same ∙ is) in (
        past-parts
            ∙ past-later most (fnm_due fields) (stored_due table ++ (columns_due ++ vectors_due fields table)) None fnm.0
            (past-later most (stored_due table) (columns_due ++ vectors_due fields table) None stored.0 (past-later most columns_due (vectors_due fields table) None columns.0 vectors.0)),
        parts-written (intervals_of options) docs parts (fnm.1 ∙ ap fnm_due (same ∙ is)) (stored.1 ∙ ap stored_due is) columns.1 kept
            (vectors.1 ∙ ap (λ f. vectors_due f table) (same ∙ is) ∙ ap (vectors_due (table_of docs)) is)
            ∙ sym (canonical_parts-documents (intervals_of options) docs),
        kept ∙ ap keep_positions (sym (fields-documents docs)),
      )

-- ---- packing

-- parts were to be packed
packed-told : (options : WriteOptions) (parts : PartFiles) (answer : Result (Vec NamedFile Global) WriteFault) → options.compound ≡ true → Wrote (λ (one : Vec NamedFile Global). one.items) options.limits.file_bytes (packed_file options.number parts ∷ []) answer → PacksParts options parts answer
packed-told options parts (Ok one) is h = (
  ap (λ b. first_past options.limits.file_bytes (cond b (packed_file options.number parts ∷ []) [])) is ∙ h.0,
  h.1 ∙ sym (ap (λ b. packed_if b options.number parts) is),
)
packed-told options parts (Err (Doc number fault)) is h = h
packed-told options parts (Err (TooLarge kind)) is h = ap (λ b. first_past options.limits.file_bytes (cond b (packed_file options.number parts ∷ []) [])) is ∙ h
packed-told options parts (Err OutOfMemory) is h = tt

-- they were not
plain-told : (options : WriteOptions) (parts : PartFiles) (files : Vec NamedFile Global) → options.compound ≡ false → files.items ≡ checked_in_order parts → PacksParts options parts (Ok files)
plain-told options parts files is are = (
  ap (λ b. first_past options.limits.file_bytes (cond b (packed_file options.number parts ∷ []) [])) is,
  are ∙ sym (ap (λ b. packed_if b options.number parts) is),
)

pub packs : (options : WriteOptions) (parts : PartFiles) (files : Vec NamedFile Global) (answer : Result (Vec NamedFile Global) WriteFault) → files.items ≡ checked_in_order parts → (options.compound ≡ false → answer ≡ Ok files)
    → (options.compound ≡ true → (p : PartFiles) → files.items ≡ checked_in_order p → Wrote (λ (one : Vec NamedFile Global). one.items) options.limits.file_bytes (packed_file options.number p ∷ []) answer) → PacksParts options parts answer
packs options parts files answer are plain packed = elim options.compound as (λ b. options.compound ≡ b → PacksParts options parts answer) [
  | true ↦ λ is. packed-told options parts answer is (packed is parts are)
  | false ↦ λ is. subst (PacksParts options parts) (sym (plain is)) (plain-told options parts files is are)
] refl

-- ---- the segment

-- files as those of a segment
abbrev segment_of : WriteOptions → List NamedFile → ℕ → Bool → SegmentFiles
segment_of options files size has_prox = record { files = files; size = size; has_prox = has_prox; compound = options.compound }

pub documents-fault : (options : WriteOptions) (docs : List Document) (fault : WriteFault) → JudgesDocuments docs options.limits (Err fault) → AnswersSegment (written_segment docs options) (Err fault)
documents-fault options docs (Doc number fault) h = let index = index_of_documents docs in
    inl (sym (ap (λ faulty. segment_due faulty (files_due (too_large_file options index) (canonical_files options index))) h))
documents-fault options docs (TooLarge kind) h = absurd h
documents-fault options docs OutOfMemory h = inr refl

module _ (options : WriteOptions) (docs : List Document) (sound : AreFaultless options.limits docs) where
  -- what is due to documents without a fault
  due-of : {X : Type 0} (f : X → Result SegmentFiles WriteFault) → (x : X) → files_due (too_large_file options (index_of_documents docs)) (canonical_files options (index_of_documents docs)) ≡ f x → written_segment docs options ≡ f x
  due-of f x is = let index = index_of_documents docs in ap (λ faulty. segment_due faulty (files_due (too_large_file options index) (canonical_files options index))) sound.none ∙ is

  segment-past : (fault : WriteFault) → files_due (too_large_file options (index_of_documents docs)) (canonical_files options (index_of_documents docs)) ≡ Err fault → AnswersSegment (written_segment docs options) (Err fault)
  segment-past fault is = inl (sym (due-of Err fault is))

  -- the parts were not written
  pub parts-fault : (fault : WriteFault) → WritesParts options (index_of_documents docs) (Err fault) → AnswersSegment (written_segment docs options) (Err fault)
  parts-fault (Doc number fault) h = absurd h
  parts-fault (TooLarge kind) h =
      let index = index_of_documents docs in
      let due = canonical_parts_of (intervals_of options) index in
      segment-past (TooLarge kind) (ap (λ found. files_due found (canonical_files options index)) (past-here options.limits.file_bytes (written_in_order due) (packed_due options due) kind h))
  parts-fault OutOfMemory h = inr refl

  -- they were, and not the file that they are packed into
  pub packing-fault : (parts : WrittenParts) (fault : WriteFault) → WritesParts options (index_of_documents docs) (Ok parts) → PacksParts options (part_files parts) (Err fault) → AnswersSegment (written_segment docs options) (Err fault)
  packing-fault parts (Doc number fault) w h = absurd h
  packing-fault parts (TooLarge kind) w h =
      let index = index_of_documents docs in
      let due = canonical_parts_of (intervals_of options) index in
      segment-past (TooLarge kind) (ap (λ found. files_due found (canonical_files options index)) (past-later options.limits.file_bytes (written_in_order due) (packed_due options due) (Some kind) w.0 (subst (λ p. first_past options.limits.file_bytes (packed_due options p) ≡ Some kind) w.1 h)))
  packing-fault parts OutOfMemory w h = inr refl

  -- all were
  pub segment-told : (parts : WrittenParts) (packed : Vec NamedFile Global) (files : List NamedFile) (size : ℕ) → WritesParts options (index_of_documents docs) (Ok parts) → PacksParts options (part_files parts) (Ok packed) → files ≡ packed.items → size ≡ length docs
      → AnswersSegment (written_segment docs options) (Ok (segment_of options files size parts.has_prox))
  segment-told parts packed files size w h are many =
      let index = index_of_documents docs in
      let due = canonical_parts_of (intervals_of options) index in
      let within = past-later options.limits.file_bytes (written_in_order due) (packed_due options due) None w.0 (subst (λ p. first_past options.limits.file_bytes (packed_due options p) ≡ None) w.1 h.0) in
      let all : files ≡ packed_if options.compound options.number due = are ∙ h.1 ∙ ap (packed_if options.compound options.number) w.1 in
      let same : size ≡ index.size = many ∙ sym (size-documents docs) in
      let whole : canonical_files options index ≡ segment_of options files size parts.has_prox = λ i. segment_of options (sym all i) (sym same i) (sym w.2 i) in
      inl (sym (due-of Ok (segment_of options files size parts.has_prox) (ap (λ found. files_due found (canonical_files options index)) within ∙ ap Ok whole)))
