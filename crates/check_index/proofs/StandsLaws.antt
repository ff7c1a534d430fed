-- The files of a segment stand exactly where they stand file by file.
use Rattle.std.proofs.Common.{◌≡◌, ℕ, Bool, true, false, nat_lt, List, [], length, map, Option, Some, None, refl, sym, subst}
use Rattle.std.specs.Prelude.{is_some}
use Rattle.lu_types.specs.FilePlans.{FilePlan, stands, needs, followed_by, where_needed, StandFor}
use Rattle.lu_types.specs.Names.{segment_name}
use Rattle.lu_types.specs.Tables.{TableField}
use Rattle.lu_types.specs.declared.kind.FileKind.TheVariants.{Cfs, Cfx, Fnm, Tis, Tii, Frq, Prx, Nrm, Del}
use Rattle.lu_types.specs.declared.stored.SharedStore.{SharedStore}
use Rattle.lu_types.proofs.FileLaws.{followed_by-was, followed_by-stand}
use Rattle.lu_types.specs.Stores.{whole_store}
use Rattle.lu_model.specs.Index.{FieldVector}
use Rattle.field_infos.specs.Fnm.{fnm_plan}
use Rattle.stored_fields.specs.Values.{StoredDocument}
use Rattle.stored_fields.specs.Stores.{total_of}
use Rattle.term_dict.specs.Dictionary.{tis_plan}
use Rattle.term_dict.specs.Index.{tii_plan}
use Rattle.freq_skips.specs.Terms.{frq_plan}
use Rattle.positions.specs.Terms.{prx_plan}
use Rattle.doc_marks.specs.Norms.{nrm_plan}
use Rattle.doc_marks.specs.Deletions.{del_plan}
use Rattle.compound_file.specs.Cfs.{cfs_plan}
use Rattle.segment_infos.specs.declared.infos.SegInfo.{SegInfo}
use Rattle.check_index.specs.Files.{DocumentFiles, IndexFiles, PartFiles, FolderFiles}
use Rattle.check_index.specs.Locating.{packed_documents, packed_files, compound_files, own_part_files, document_parts, located_parts}
use Rattle.check_index.specs.Documents.{norm_fields, field_files, window_of, stored_files, deletion_files}
use Rattle.check_index.specs.Terms.{TermLists, infos_of, listed_terms, term_files}
use Rattle.check_index.specs.Positions.{TermOccurrences, no_positions, position_files}
use Rattle.check_index.specs.Norms.{FieldNorms, count_with_norms, norms_from, column_files, separate_files, norm_files}
use Rattle.check_index.specs.Vectors.{document_vectors}
use Rattle.check_index.specs.Segments.{SegmentValue, Contents, Columns, content_files, side_files, segment_value, segment_files}
use Rattle.check_index.specs.Stands.{Holds, AreOwn, AreShared, AreDocuments, HoldStored, Either, HoldColumns, SegmentStands}
use Rattle.check_index.proofs.LocatedLemmas.{with_documents}
use Rattle.check_index.proofs.StandsLemmas.{holds-was, holds-stand, either-was, either-stand, store-was, store-stand, vectors-was, vectors-stand}

-- ---- where the parts are

module _ (folder : FolderFiles) (number : ℕ) where
  own-was : (compound : Bool) (own : PartFiles) → StandFor (where_needed compound folder.parts (followed_by (compound_files Cfs folder.cfs) (λ held. stands (packed_files (segment_name number) held)))) own → AreOwn compound folder number own
  own-was true own h = holds-was Cfs folder.cfs (λ bytes. cfs_plan (length bytes)) (λ held. stands (packed_files (segment_name number) held)) own h
  own-was false own h = h

  own-stand : (compound : Bool) (own : PartFiles) → AreOwn compound folder number own → StandFor (where_needed compound folder.parts (followed_by (compound_files Cfs folder.cfs) (λ held. stands (packed_files (segment_name number) held)))) own
  own-stand true own (parts, holds, is) = holds-stand Cfs folder.cfs (λ bytes. cfs_plan (length bytes)) (λ held. stands (packed_files (segment_name number) held)) parts own holds is
  own-stand false own h = h

  shared-was : (compound : Bool) (documents : DocumentFiles) → StandFor (where_needed compound folder.parts.documents (followed_by (compound_files Cfx folder.cfx) (λ held. stands (packed_documents (segment_name number) held)))) documents → AreShared compound folder number documents
  shared-was true documents h = holds-was Cfx folder.cfx (λ bytes. cfs_plan (length bytes)) (λ held. stands (packed_documents (segment_name number) held)) documents h
  shared-was false documents h = h

  shared-stand : (compound : Bool) (documents : DocumentFiles) → AreShared compound folder number documents → StandFor (where_needed compound folder.parts.documents (followed_by (compound_files Cfx folder.cfx) (λ held. stands (packed_documents (segment_name number) held)))) documents
  shared-stand true documents (parts, holds, is) = holds-stand Cfx folder.cfx (λ bytes. cfs_plan (length bytes)) (λ held. stands (packed_documents (segment_name number) held)) parts documents holds is
  shared-stand false documents h = h

documents-was : (folder : FolderFiles) (store : Option SharedStore) (own documents : DocumentFiles) → StandFor (document_parts folder store own) documents → AreDocuments folder store own documents
documents-was folder None own documents h = h
documents-was folder (Some store) own documents h = shared-was folder store.number store.compound documents h

documents-stand : (folder : FolderFiles) (store : Option SharedStore) (own documents : DocumentFiles) → AreDocuments folder store own documents → StandFor (document_parts folder store own) documents
documents-stand folder None own documents h = h
documents-stand folder (Some store) own documents h = shared-stand folder store.number store.compound documents h

stored-was : (store : Option SharedStore) (size fields : ℕ) (fdx fdt : Option (List ℕ)) (stored : List StoredDocument) → StandFor (stored_files store size fields fdx fdt) stored → HoldStored store size fields fdx fdt stored
stored-was None size fields fdx fdt stored h = store-was (λ _. size) (whole_store size) fields fdx fdt stored h
stored-was (Some store) size fields fdx fdt stored h = store-was total_of (window_of store size) fields fdx fdt stored h

stored-stand : (store : Option SharedStore) (size fields : ℕ) (fdx fdt : Option (List ℕ)) (stored : List StoredDocument) → HoldStored store size fields fdx fdt stored → StandFor (stored_files store size fields fdx fdt) stored
stored-stand None size fields fdx fdt stored h = store-stand (λ _. size) (whole_store size) fields fdx fdt stored h
stored-stand (Some store) size fields fdx fdt stored h = store-stand total_of (window_of store size) fields fdx fdt stored h

-- ---- the groups, one after another

module _ (folder : FolderFiles) (line : SegInfo) where
  abbrev after_own : PartFiles → FilePlan PartFiles
  after_own own = followed_by (document_parts folder line.store own.documents) (λ documents. stands (with_documents own documents))

  abbrev contents_by : List TableField → List StoredDocument → TermLists → List TermOccurrences → Contents
  contents_by fields stored terms occurrences = record { fields = fields; stored = stored; terms = terms; occurrences = occurrences }

  abbrev columns_by : FieldNorms → List ℕ → List (List (FieldVector ℕ)) → Columns
  columns_by norms deleted vectors = record { norms = norms; deleted = deleted; vectors = vectors }

  module _ (files : PartFiles) where
    abbrev after_terms : List TableField → List StoredDocument → TermLists → FilePlan Contents
    after_terms fields stored terms = followed_by (position_files files.index line fields terms) (λ occurrences. stands (contents_by fields stored terms occurrences))

    abbrev after_stored : List TableField → List StoredDocument → FilePlan Contents
    after_stored fields stored = followed_by (term_files files.index line.size fields) (after_terms fields stored)

    abbrev after_fields : List TableField → FilePlan Contents
    after_fields fields = followed_by (stored_files line.store line.size (length fields) files.documents.fdx files.documents.fdt) (after_stored fields)

    abbrev after_deletions : List TableField → FieldNorms → List ℕ → FilePlan Columns
    after_deletions fields norms deleted = followed_by (document_vectors files.documents line fields) (λ vectors. stands (columns_by norms deleted vectors))

    abbrev after_norms : List TableField → FieldNorms → FilePlan Columns
    after_norms fields norms = followed_by (deletion_files folder.del line) (after_deletions fields norms)

    abbrev after_contents : Contents → FilePlan SegmentValue
    after_contents contents = followed_by (side_files folder files line contents.fields) (λ columns. stands (segment_value line.size contents columns))

  abbrev after_located : PartFiles → FilePlan SegmentValue
  after_located files = followed_by (content_files files line) (after_contents files)

  -- what stands file by file stands
  pub stands-from : (x : SegmentValue) → SegmentStands folder line x → StandFor (segment_files folder line) x
  stands-from x s =
      let files = with_documents s.own s.documents in
      let fields = x.index.fields in
      let d = x.dictionary in
      let terms = listed_terms d x.lists in
      let contents = contents_by fields x.index.stored terms x.occurrences in
      let columns = columns_by x.index.norms x.index.deleted x.index.vectors in
      let located = followed_by-stand (own_part_files folder line) after_own s.own files (own-stand folder line.number line.compound s.own s.is_own)
      (followed_by-stand (document_parts folder line.store s.own.documents) (λ documents. stands (with_documents s.own documents)) s.documents files (documents-stand folder line.store s.own.documents s.documents s.are_documents) refl) in
      let table = holds-stand Fnm s.own.index.fnm (λ _. fnm_plan line.has_prox (norm_fields line)) (λ fields. stands fields) fields fields s.fnm refl in
      let entries = holds-stand Frq s.own.index.frq (λ _. frq_plan fields d.numbers line.size (infos_of d)) (λ lists. stands (listed_terms d lists)) x.lists terms s.frq refl in
      let index = holds-stand Tii s.own.index.tii (λ _. tii_plan d) (λ (_ : Unit {0}). needs Frq s.own.index.frq (λ _. frq_plan fields d.numbers line.size (infos_of d)) (λ _ lists. stands (listed_terms d lists))) tt terms s.tii entries in
      let all_terms = holds-stand Tis s.own.index.tis (λ tis. tis_plan fields line.size (length tis))
      (λ e. needs Tii s.own.index.tii (λ _. tii_plan e) (λ _ (_ : Unit {0}). needs Frq s.own.index.frq (λ _. frq_plan fields e.numbers line.size (infos_of e)) (λ _ lists. stands (listed_terms e lists)))) d terms s.tis index in
      let plan = λ (_ : List ℕ). prx_plan fields d.numbers line.size (infos_of d) x.lists in
      let positions = either-stand line.has_prox (no_positions x.lists) x.occurrences (needs Prx s.own.index.prx plan (λ _ all. stands all)) (Holds s.own.index.prx plan x.occurrences)
      (λ h. holds-stand Prx s.own.index.prx plan (λ all. stands all) x.occurrences x.occurrences h refl) s.prx in
      let one_file = either-stand (nat_lt 0 (count_with_norms fields)) (map (λ (_ : TableField). None) fields) s.columns (needs Nrm s.own.index.nrm (λ _. nrm_plan (count_with_norms fields) line.size) (λ _ columns. stands (norms_from 0 columns fields)))
      ((columns : List (List ℕ)) × Holds s.own.index.nrm (λ _. nrm_plan (count_with_norms fields) line.size) columns × (s.columns ≡ norms_from 0 columns fields))
      (λ h. holds-stand Nrm s.own.index.nrm (λ _. nrm_plan (count_with_norms fields) line.size) (λ columns. stands (norms_from 0 columns fields)) h.0 s.columns h.1 h.2) s.nrm in
      let norms = followed_by-stand (column_files s.own.index.nrm line.size fields) (separate_files line.norm_gens fields line.size folder.separate (length fields)) s.columns x.index.norms one_file s.separate in
      let deleted = either-stand (is_some line.del_gen) [] x.index.deleted (needs Del folder.del (λ _. del_plan line.size line.deleted) (λ _ documents. stands documents)) (Holds folder.del (λ _. del_plan line.size line.deleted) x.index.deleted)
      (λ h. holds-stand Del folder.del (λ _. del_plan line.size line.deleted) (λ documents. stands documents) x.index.deleted x.index.deleted h refl) s.del in
      let all_contents = followed_by-stand (field_files files.index line) (after_fields files) fields contents table
      (followed_by-stand (stored_files line.store line.size (length fields) files.documents.fdx files.documents.fdt) (after_stored files fields) x.index.stored contents (stored-stand line.store line.size (length fields) files.documents.fdx files.documents.fdt x.index.stored s.stored)
      (followed_by-stand (term_files files.index line.size fields) (after_terms files fields x.index.stored) terms contents all_terms
      (followed_by-stand (position_files files.index line fields terms) (λ occurrences. stands (contents_by fields x.index.stored terms occurrences)) x.occurrences contents positions refl))) in
      let all_columns = followed_by-stand (norm_files files.index.nrm folder.separate line fields) (after_norms files fields) x.index.norms columns norms
      (followed_by-stand (deletion_files folder.del line) (after_deletions files fields x.index.norms) x.index.deleted columns deleted
      (followed_by-stand (document_vectors files.documents line fields) (λ vectors. stands (columns_by x.index.norms x.index.deleted vectors)) x.index.vectors columns (vectors-stand line fields s.documents x.index.vectors s.vectors) refl)) in
      followed_by-stand (located_parts folder line) after_located files x located
      (followed_by-stand (content_files files line) (after_contents files) contents x all_contents
      (followed_by-stand (side_files folder files line fields) (λ columns. stands (segment_value line.size contents columns)) columns x all_columns s.value))

  -- ---- and what stands does so file by file

  -- what the files of terms are
  record TermsHeld (files : IndexFiles) (fields : List TableField) (terms : TermLists) : Type 0 where
    tis : Holds files.tis (λ bytes. tis_plan fields line.size (length bytes)) terms.dictionary
    tii : Holds files.tii (λ _. tii_plan terms.dictionary) tt
    frq : Holds files.frq (λ _. frq_plan fields terms.dictionary.numbers line.size (infos_of terms.dictionary)) terms.lists

  terms-held : (files : IndexFiles) (fields : List TableField) (terms : TermLists) → StandFor (term_files files line.size fields) terms → TermsHeld files fields terms
  terms-held files fields terms h =
      let first = holds-was Tis files.tis (λ tis. tis_plan fields line.size (length tis))
      (λ d. needs Tii files.tii (λ _. tii_plan d) (λ _ (_ : Unit {0}). needs Frq files.frq (λ _. frq_plan fields d.numbers line.size (infos_of d)) (λ _ lists. stands (listed_terms d lists)))) terms h in
      let d = first.0 in
      let next = holds-was Tii files.tii (λ _. tii_plan d) (λ (_ : Unit {0}). needs Frq files.frq (λ _. frq_plan fields d.numbers line.size (infos_of d)) (λ _ lists. stands (listed_terms d lists))) terms first.2 in
      let last = holds-was Frq files.frq (λ _. frq_plan fields d.numbers line.size (infos_of d)) (λ lists. stands (listed_terms d lists)) terms next.2 in
      subst (TermsHeld files fields) (sym last.2) (record { tis = first.1; tii = next.1; frq = last.1 })

  -- what the groups are
  record ContentsHeld (files : PartFiles) (contents : Contents) : Type 0 where
    fnm : Holds files.index.fnm (λ _. fnm_plan line.has_prox (norm_fields line)) contents.fields
    stored : HoldStored line.store line.size (length contents.fields) files.documents.fdx files.documents.fdt contents.stored
    terms : TermsHeld files.index contents.fields contents.terms
    prx : Either line.has_prox (Holds files.index.prx (λ _. prx_plan contents.fields contents.terms.dictionary.numbers line.size (infos_of contents.terms.dictionary) contents.terms.lists) contents.occurrences) contents.occurrences
        (no_positions contents.terms.lists)

  contents-held : (files : PartFiles) (contents : Contents) → StandFor (content_files files line) contents → ContentsHeld files contents
  contents-held files contents h =
      let table = followed_by-was (field_files files.index line) (after_fields files) contents h in
      let fields = table.0 in
      let fnm = holds-was Fnm files.index.fnm (λ _. fnm_plan line.has_prox (norm_fields line)) (λ fields. stands fields) fields table.1 in
      let documents = followed_by-was (stored_files line.store line.size (length fields) files.documents.fdx files.documents.fdt) (after_stored files fields) contents table.2 in
      let stored = documents.0 in
      let listed = followed_by-was (term_files files.index line.size fields) (after_terms files fields stored) contents documents.2 in
      let terms = listed.0 in
      let last = followed_by-was (position_files files.index line fields terms) (λ occurrences. stands (contents_by fields stored terms occurrences)) contents listed.2 in
      let occurrences = last.0 in
      let plan = λ (_ : List ℕ). prx_plan fields terms.dictionary.numbers line.size (infos_of terms.dictionary) terms.lists in
      let positions = either-was line.has_prox (no_positions terms.lists) occurrences (needs Prx files.index.prx plan (λ _ all. stands all)) (Holds files.index.prx plan occurrences)
      (λ h. let w = holds-was Prx files.index.prx plan (λ all. stands all) occurrences h in subst (Holds files.index.prx plan) (sym w.2) w.1) last.1 in
      subst (ContentsHeld files) (sym last.2) (record {
        fnm = subst (Holds files.index.fnm (λ _. fnm_plan line.has_prox (norm_fields line))) (sym fnm.2) fnm.1;
        stored = stored-was line.store line.size (length fields) files.documents.fdx files.documents.fdt stored documents.1;
        terms = terms-held files.index fields terms listed.1;
        prx = positions;
      })

  record ColumnsHeld (files : PartFiles) (fields : List TableField) (columns : Columns) : Type 0 where
    one_file : FieldNorms
    nrm : HoldColumns line.size fields files.index.nrm one_file
    separate : StandFor (separate_files line.norm_gens fields line.size folder.separate (length fields) one_file) columns.norms
    del : Either (is_some line.del_gen) (Holds folder.del (λ _. del_plan line.size line.deleted) columns.deleted) columns.deleted []
    vectors : StandFor (document_vectors files.documents line fields) columns.vectors

  columns-held : (files : PartFiles) (fields : List TableField) (columns : Columns) → StandFor (side_files folder files line fields) columns → ColumnsHeld files fields columns
  columns-held files fields columns h =
      let first = followed_by-was (norm_files files.index.nrm folder.separate line fields) (after_norms files fields) columns h in
      let norms = first.0 in
      let cut = followed_by-was (column_files files.index.nrm line.size fields) (separate_files line.norm_gens fields line.size folder.separate (length fields)) norms first.1 in
      let one_file = either-was (nat_lt 0 (count_with_norms fields)) (map (λ (_ : TableField). None) fields) cut.0 (needs Nrm files.index.nrm (λ _. nrm_plan (count_with_norms fields) line.size) (λ _ columns. stands (norms_from 0 columns fields)))
      ((columns : List (List ℕ)) × Holds files.index.nrm (λ _. nrm_plan (count_with_norms fields) line.size) columns × (cut.0 ≡ norms_from 0 columns fields))
      (λ h. holds-was Nrm files.index.nrm (λ _. nrm_plan (count_with_norms fields) line.size) (λ columns. stands (norms_from 0 columns fields)) cut.0 h) cut.1 in
      let next = followed_by-was (deletion_files folder.del line) (after_deletions files fields norms) columns first.2 in
      let deleted = next.0 in
      let del = either-was (is_some line.del_gen) [] deleted (needs Del folder.del (λ _. del_plan line.size line.deleted) (λ _ documents. stands documents)) (Holds folder.del (λ _. del_plan line.size line.deleted) deleted)
      (λ h. let w = holds-was Del folder.del (λ _. del_plan line.size line.deleted) (λ documents. stands documents) deleted h in subst (Holds folder.del (λ _. del_plan line.size line.deleted)) (sym w.2) w.1) next.1 in
      let last = followed_by-was (document_vectors files.documents line fields) (λ vectors. stands (columns_by norms deleted vectors)) columns next.2 in
      subst (ColumnsHeld files fields) (sym last.2) (record { one_file = cut.0; nrm = one_file; separate = cut.2; del = del; vectors = last.1 })

  -- what stands does so file by file
  pub stands-by_files : (x : SegmentValue) → StandFor (segment_files folder line) x → SegmentStands folder line x
  stands-by_files x h =
      let located = followed_by-was (located_parts folder line) after_located x h in
      let first = followed_by-was (own_part_files folder line) after_own located.0 located.1 in
      let own = first.0 in
      let shared = followed_by-was (document_parts folder line.store own.documents) (λ documents. stands (with_documents own documents)) located.0 first.2 in
      let documents = shared.0 in
      let files = with_documents own documents in
      let rest = subst (λ (f : PartFiles). StandFor (after_located f) x) shared.2 located.2 in
      let inner = followed_by-was (content_files files line) (after_contents files) x rest in
      let contents = inner.0 in
      let sides = followed_by-was (side_files folder files line contents.fields) (λ columns. stands (segment_value line.size contents columns)) x inner.2 in
      let columns = sides.0 in
      let c = contents-held files contents inner.1 in
      let s = columns-held files contents.fields columns sides.1 in
      subst (SegmentStands folder line) (sym sides.2) (record {
        own = own;
        is_own = own-was folder line.number line.compound own first.1;
        documents = documents;
        are_documents = documents-was folder line.store own.documents documents shared.1;
        fnm = c.fnm;
        stored = c.stored;
        tis = c.terms.tis;
        tii = c.terms.tii;
        frq = c.terms.frq;
        prx = c.prx;
        columns = s.one_file;
        nrm = s.nrm;
        separate = s.separate;
        del = s.del;
        vectors = vectors-was line contents.fields documents columns.vectors s.vectors;
        value = refl;
      })
