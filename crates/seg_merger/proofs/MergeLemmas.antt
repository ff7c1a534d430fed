-- What merging answers, step by step.
use Rattle.std.proofs.Common.{◌≡◌, refl, ap, sym, ◌∙◌, subst, ℕ, ◌<◌, ◌≤◌, ◌++◌, Bool, true, false, cond, List, [], ◌∷◌, length, map, None, Some, Result, Ok, Err, inl, inr}
use Rattle.std.specs.Prelude.{flat_map}
use Rattle.std.specs.Global.{Global}
use Rattle.std.specs.declared.vec.Vec.{Vec}
use Rattle.std.proofs.lemmas.Bool.{le-ltb, lt-ltb}
use Rattle.check_index.specs.Vectors.{have_vectors}
use Rattle.doc_marks.specs.Norms.{nrm_spelling}
use Rattle.field_infos.specs.Spelling.{fnm_spelling}
use Rattle.lu_types.specs.Bits as bit
use Rattle.lu_types.specs.Tables.{TableField}
use Rattle.lu_types.specs.declared.kind.FileKind.{FileKind}
use Rattle.lu_types.specs.declared.kind.FileKind.TheVariants.{Fnm}
use Rattle.lu_types.specs.declared.named_file.NamedFile.{NamedFile}
use Rattle.lu_model.specs.Contents.{Content, field_at, field_number, index_of, indexed_term, joined_table, live_contents, merge_of}
use Rattle.lu_model.specs.Index.{Index, in_order, term_cmp}
use Rattle.lu_model.specs.Valid.{IsValid}
use Rattle.lu_model.proofs.Found.{bit_within, get_in}
use Rattle.lu_model.proofs.MergedParts.{term_is}
use Rattle.lu_model.proofs.Words.{Each, no_field}
use Rattle.posting_files.specs.States.{canonical_postings, given_files, named}
use Rattle.segment_files.specs.Parts.{canonical_parts_of, have_norms, intervals_of, keep_positions, norm_columns, postings_of}
use Rattle.segment_files.specs.Postings.{PostingIntervals, kept_terms, lines_written, no_parts, tii_bytes, tis_bytes}
use Rattle.segment_files.specs.Written.{canonical_files, first_past, packed_if, too_large_file, written_in_order}
use Rattle.segment_files.specs.declared.options.SegmentFiles.{SegmentFiles}
use Rattle.segment_files.specs.declared.options.WriteOptions.{WriteOptions}
use Rattle.stored_fields.specs.Writing.{fdt_bytes, fdx_bytes}
use Rattle.term_vectors.specs.VectorBytes.{tvx_bytes, tvd_bytes, tvf_bytes}
use Rattle.seg_writer.specs.Answers.{Wrote}
use Rattle.seg_writer.specs.NormColumns.{given_norms}
use Rattle.seg_writer.specs.PartsGathered.{part_files}
use Rattle.seg_writer.specs.SegmentSteps.{PacksParts, WritesParts, packed_due}
use Rattle.seg_writer.specs.Stores.{given_store, store_files_due}
use Rattle.seg_writer.specs.VectorsDue.{given_vectors, vector_files_due}
use Rattle.seg_writer.specs.declared.fault.WriteFault.{WriteFault}
use Rattle.seg_writer.specs.declared.fault.WriteFault.TheVariants.{Doc, TooLarge, OutOfMemory}
use Rattle.seg_writer.specs.declared.packing.WrittenParts.{WrittenParts}
use Rattle.seg_writer.proofs.PastLemmas.{past-here, past-later, past-written, wrote-here, wrote-later}
use Rattle.seg_writer.proofs.SegmentPartLemmas.{bytes_at, norms-there, vectors-there}
use Rattle.seg_writer.proofs.UnwrittenLemmas.{field-omits, parts-unwritten, terms-unwritten}
use Rattle.seg_merger.specs.declared.fault.MergeFault.{MergeFault}
use Rattle.seg_merger.specs.declared.fault.MergeFault.TheVariants as merging
use Rattle.seg_merger.specs.Merged.{AnswersMerge, merged_files_due, merged_segment}
use Rattle.seg_merger.specs.MergeSteps.{AnswersFiles, IsOfMerge, merge_fault}
use Rattle.seg_merger.specs.Renumbered.{merged_norm_file}

-- where no joined field keeps positions there are none
pub positions-merged : (i : PostingIntervals) (indexes : List Index) → Each IsValid indexes → keep_positions (merge_of indexes).fields ≡ false → (postings_of i (merge_of indexes)).prx ≡ []
unfolding index_of
positions-merged i indexes ok lacks =
    let table = joined_table indexes in
    let contents = flat_map live_contents indexes in
    let keys = in_order term_cmp (flat_map (λ (c : Content). c.terms) contents) in
    parts-unwritten i (kept_terms table (map (indexed_term table contents) keys)) no_parts refl (terms-unwritten table contents keys (λ t k.
    let is = term_is indexes ok t k in
    let number = field_number t.field table in
    field-omits table (field_at number table) lacks (get_in table number no_field (bit_within bit.indexed table number refl is.indexed)) is.indexed))

-- ---- the parts of an index

module _ (options : WriteOptions) (index : Index) (fields : List TableField) (same : fields ≡ index.fields) (unwritten : keep_positions index.fields ≡ false → (postings_of (intervals_of options) index).prx ≡ []) where
  abbrev most : ℕ
  most = options.limits.file_bytes

  abbrev fnm_due : List TableField → List NamedFile
  fnm_due f = named Fnm (fnm_spelling f) ∷ []

  abbrev stored_due : List NamedFile
  stored_due = store_files_due index.stored

  abbrev terms_due : List TableField → List NamedFile
  terms_due f = canonical_postings (intervals_of options) (kept_terms f index.terms)

  abbrev norms_due : List TableField → List NamedFile
  norms_due f = merged_norm_file f index.norms

  abbrev vectors_due : List TableField → List NamedFile
  vectors_due f = vector_files_due (have_vectors f) index.vectors

  -- what is written behind the field table, behind the stored values and behind the terms
  abbrev behind_terms : List TableField → List NamedFile
  behind_terms f = norms_due f ++ vectors_due f

  abbrev behind_stored : List TableField → List NamedFile
  behind_stored f = terms_due f ++ behind_terms f

  abbrev behind_fields : List TableField → List NamedFile
  behind_fields f = stored_due ++ behind_stored f

  past-parts : first_past most (written_in_order (canonical_parts_of (intervals_of options) index)) ≡ first_past most (fnm_due fields ++ behind_fields fields)
  past-parts =
      let p = postings_of (intervals_of options) index in
      let w = lines_written (intervals_of options) p.lines in
      past-written most (fnm_spelling index.fields) (fdt_bytes index.stored) (fdx_bytes index.stored) p.prx p.frq (tis_bytes w) (tii_bytes w) (nrm_spelling (norm_columns index.norms)) (tvf_bytes index.vectors) (tvd_bytes index.vectors)
      (tvx_bytes index.vectors) (keep_positions index.fields) (have_norms index.fields) (have_vectors index.fields) unwritten
      ∙ ap (λ f. first_past most (fnm_due f ++ behind_fields f)) (sym same)

  pieces-fault : {X : Type 0} (view : X → List NamedFile) (fault : WriteFault) → Wrote view most (fnm_due fields ++ behind_fields fields) (Err fault) → WritesParts options index (Err fault)
  pieces-fault view (Doc number fault) h = h
  pieces-fault view (TooLarge kind) h = past-parts ∙ h
  pieces-fault view OutOfMemory h = tt

  -- the file of the field table was not written
  pub fields-fault : (fault : WriteFault) → Wrote (λ (fnm : List ℕ). named Fnm fnm ∷ []) most (fnm_due fields) (Err fault) → WritesParts options index (Err fault)
  fields-fault fault h = let view = λ (fnm : List ℕ). named Fnm fnm ∷ [] in pieces-fault view fault (wrote-here view view most (fnm_due fields) (behind_fields fields) fault h)

  module _ (fnm : first_past most (fnm_due fields) ≡ None) where
    behind-fault : {X : Type 0} (view : X → List NamedFile) (fault : WriteFault) → Wrote view most (behind_fields fields) (Err fault) → WritesParts options index (Err fault)
    behind-fault view fault h = pieces-fault view fault (wrote-later view view most (fnm_due fields) (behind_fields fields) fault fnm h)

    -- those of stored values were not
    pub stored-fault : (fault : WriteFault) → Wrote given_store most stored_due (Err fault) → WritesParts options index (Err fault)
    stored-fault fault h = behind-fault given_store fault (wrote-here given_store given_store most stored_due (behind_stored fields) fault h)

    module _ (stored : first_past most stored_due ≡ None) where
      -- those of terms were not
      pub terms-fault : (fault : WriteFault) → Wrote given_files most (terms_due fields) (Err fault) → WritesParts options index (Err fault)
      terms-fault fault h =
          behind-fault given_files fault (wrote-later given_files given_files most stored_due (behind_stored fields) fault stored (wrote-here given_files given_files most (terms_due fields) (behind_terms fields) fault h))

      module _ (terms : first_past most (terms_due fields) ≡ None) where
        -- that of norms was not
        pub norms-fault : (fault : WriteFault) → Wrote given_norms most (norms_due fields) (Err fault) → WritesParts options index (Err fault)
        norms-fault fault h =
            behind-fault given_norms fault (wrote-later given_norms given_norms most stored_due (behind_stored fields) fault stored
            (wrote-later given_norms given_norms most (terms_due fields) (behind_terms fields) fault terms (wrote-here given_norms given_norms most (norms_due fields) (vectors_due fields) fault h)))

        -- those of vectors were not
        pub vectors-fault : (fault : WriteFault) → first_past most (norms_due fields) ≡ None → Wrote given_vectors most (vectors_due fields) (Err fault) → WritesParts options index (Err fault)
        vectors-fault fault norms h =
            behind-fault given_vectors fault (wrote-later given_vectors given_vectors most stored_due (behind_stored fields) fault stored
            (wrote-later given_vectors given_vectors most (terms_due fields) (behind_terms fields) fault terms (wrote-later given_vectors given_vectors most (norms_due fields) (vectors_due fields) fault norms h)))

        past-none : first_past most (norms_due fields) ≡ None → first_past most (vectors_due fields) ≡ None → first_past most (fnm_due fields ++ behind_fields fields) ≡ None
        past-none norms vectors =
            past-later most (fnm_due fields) (behind_fields fields) None fnm (past-later most stored_due (behind_stored fields) None stored
            (past-later most (terms_due fields) (behind_terms fields) None terms (past-later most (norms_due fields) (vectors_due fields) None norms vectors)))

  -- what was written piece by piece are the parts
  written-parts : (parts : WrittenParts) → named Fnm parts.fnm ∷ [] ≡ fnm_due index.fields → given_store parts.stored ≡ stored_due → given_files parts.postings ≡ terms_due index.fields → given_norms parts.nrm ≡ norms_due index.fields
      → given_vectors parts.vectors ≡ vectors_due index.fields → parts.has_prox ≡ keep_positions index.fields → part_files parts ≡ canonical_parts_of (intervals_of options) index
  written-parts parts fnm stored terms norms vectors prox =
      let nrm = norms-there (have_norms index.fields) (nrm_spelling (norm_columns index.norms)) parts.nrm norms in
      let v = vectors-there (have_vectors index.fields) index.vectors parts.vectors vectors in
      λ i. record {
        index = record {
          fnm = Some (bytes_at 0 (fnm i));
          tis = Some (bytes_at 2 (terms i));
          tii = Some (bytes_at 3 (terms i));
          frq = Some (bytes_at 1 (terms i));
          prx = cond (prox i) (Some (bytes_at 0 (terms i))) None;
          nrm = nrm i;
        };
        documents = record {
          fdx = Some (bytes_at 1 (stored i));
          fdt = Some (bytes_at 0 (stored i));
          tvx = v.tvx i;
          tvd = v.tvd i;
          tvf = v.tvf i;
        };
      }

  -- all were written
  pub parts-told : (parts : WrittenParts) → Wrote (λ (fnm : List ℕ). named Fnm fnm ∷ []) most (fnm_due fields) (Ok parts.fnm) → Wrote given_store most stored_due (Ok parts.stored) → Wrote given_files most (terms_due fields) (Ok parts.postings)
      → Wrote given_norms most (norms_due fields) (Ok parts.nrm) → Wrote given_vectors most (vectors_due fields) (Ok parts.vectors) → parts.has_prox ≡ keep_positions fields → WritesParts options index (Ok parts)
  parts-told parts fnm stored terms norms vectors prox =
      let kept : parts.has_prox ≡ keep_positions index.fields = prox ∙ ap keep_positions same in (
        past-parts ∙ past-none fnm.0 stored.0 terms.0 norms.0 vectors.0,
        written-parts parts (fnm.1 ∙ ap fnm_due same) stored.1 (terms.1 ∙ ap terms_due same) (norms.1 ∙ ap norms_due same) (vectors.1 ∙ ap vectors_due same) kept,
        kept,
      )

-- ---- files

module _ (options : WriteOptions) (index : Index) where
  abbrev due_files : SegmentFiles
  due_files = canonical_files options index

  -- no document is at fault where parts were not written, or not packed
  pub parts-of-merge : (fault : WriteFault) → WritesParts options index (Err fault) → IsOfMerge fault
  parts-of-merge (Doc number fault) h = h
  parts-of-merge (TooLarge kind) h = tt
  parts-of-merge OutOfMemory h = tt

  -- the parts were not written
  pub parts-fault : (fault : WriteFault) → WritesParts options index (Err fault) → AnswersFiles options index (Err (merge_fault fault))
  parts-fault (Doc number fault) h = absurd h
  parts-fault (TooLarge kind) h =
      let parts = canonical_parts_of (intervals_of options) index in
      inl (sym (ap (λ found. merged_files_due found due_files) (past-here options.limits.file_bytes (written_in_order parts) (packed_due options parts) kind h)))
  parts-fault OutOfMemory h = inr refl

  module _ (parts : WrittenParts) (written : WritesParts options index (Ok parts)) where
    pub packing-of-merge : (fault : WriteFault) → PacksParts options (part_files parts) (Err fault) → IsOfMerge fault
    packing-of-merge (Doc number fault) h = h
    packing-of-merge (TooLarge kind) h = tt
    packing-of-merge OutOfMemory h = tt

    -- they were, and not the file that they are packed into
    pub packing-fault : (fault : WriteFault) → PacksParts options (part_files parts) (Err fault) → AnswersFiles options index (Err (merge_fault fault))
    packing-fault (Doc number fault) h = absurd h
    packing-fault (TooLarge kind) h =
        let due = canonical_parts_of (intervals_of options) index in
        inl (sym (ap (λ found. merged_files_due found due_files)
        (past-later options.limits.file_bytes (written_in_order due) (packed_due options due) (Some kind) written.0 (subst (λ p. first_past options.limits.file_bytes (packed_due options p) ≡ Some kind) written.1 h))))
    packing-fault OutOfMemory h = inr refl

    -- all were
    pub files-told : (packed : Vec NamedFile Global) (files : List NamedFile) (size : ℕ) → PacksParts options (part_files parts) (Ok packed) → files ≡ packed.items → size ≡ index.size
        → AnswersFiles options index (Ok (record { files = files; size = size; has_prox = parts.has_prox; compound = options.compound }))
    files-told packed files size h are same =
        let due = canonical_parts_of (intervals_of options) index in
        let within = past-later options.limits.file_bytes (written_in_order due) (packed_due options due) None written.0 (subst (λ p. first_past options.limits.file_bytes (packed_due options p) ≡ None) written.1 h.0) in
        let all : files ≡ packed_if options.compound options.number due = are ∙ h.1 ∙ ap (packed_if options.compound options.number) written.1 in
        let whole : due_files ≡ record { files = files; size = size; has_prox = parts.has_prox; compound = options.compound } =
        λ i. record { files = sym all i; size = sym same i; has_prox = sym written.2 i; compound = options.compound } in
        inl (sym (ap (λ found. merged_files_due found due_files) within ∙ ap Ok whole))

-- ---- the merge

module _ (indexes : List Index) (options : WriteOptions) where
  abbrev due_if : Bool → Result SegmentFiles MergeFault
  due_if many = let merged = merge_of indexes in cond many (Err (merging.TooMany merged.size)) (merged_files_due (too_large_file options merged) (canonical_files options merged))

  -- too many documents are live
  pub too-many : (documents : ℕ) → documents ≡ (merge_of indexes).size → options.limits.documents < documents → AnswersMerge (merged_segment indexes options) (Err (merging.TooMany documents))
  too-many documents is more =
      inl (ap (λ n. Err (merging.TooMany n)) is ∙ sym (ap due_if (lt-ltb options.limits.documents (merge_of indexes).size (subst (λ n. options.limits.documents < n) is more))))

  -- they are not
  pub not-many : (documents : ℕ) (answer : Result SegmentFiles MergeFault) → documents ≡ (merge_of indexes).size → documents ≤ options.limits.documents → AnswersFiles options (merge_of indexes) answer → AnswersMerge (merged_segment indexes options) answer
  not-many documents answer is few h =
      subst (λ due. AnswersMerge due answer) (sym (ap due_if (le-ltb options.limits.documents (merge_of indexes).size (subst (λ n. n ≤ options.limits.documents) is few)))) h
