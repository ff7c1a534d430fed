-- The files that a segment needs are made of bytes where those of its folder are.
use Rattle.std.proofs.Common.{ℕ, Bool, true, false, nat_lt, List, [], length, map, Option, Some, None, sym, subst}
use Rattle.std.specs.Option.{ForSome}
use Rattle.std.specs.Prelude.{◌&&◌, slice_set, is_some}
use Rattle.std.specs.List.{range_with_len}
use Rattle.lu_grammar.specs.Bytes.{IsBytes}
use Rattle.lu_types.specs.FilePlans.{FilePlan, stands, needs, followed_by, where_needed, StandFor}
use Rattle.lu_types.specs.Names.{segment_name, part_name}
use Rattle.lu_types.specs.Tables.{TableField}
use Rattle.lu_types.specs.declared.kind.FileKind.{FileKind}
use Rattle.lu_types.specs.declared.kind.FileKind.TheVariants.{Cfs, Cfx, Fnm, Fdx, Fdt, Tis, Tii, Frq, Prx, Nrm, Sep, Del, Tvx, Tvd, Tvf}
use Rattle.lu_types.specs.declared.stored.SharedStore.{SharedStore}
use Rattle.lu_types.specs.declared.stored.Window.{Window}
use Rattle.lu_types.proofs.FileLaws.{followed_by-was}
use Rattle.lu_types.specs.Stores.{whole_store, windowed}
use Rattle.field_infos.specs.Fnm.{fnm_plan}
use Rattle.stored_fields.specs.Places.{fdx_plan}
use Rattle.stored_fields.specs.Documents.{fdt_plan}
use Rattle.stored_fields.specs.Stores.{total_of, store_files}
use Rattle.term_dict.specs.Dictionary.{tis_plan}
use Rattle.term_dict.specs.Index.{tii_plan}
use Rattle.freq_skips.specs.Terms.{frq_plan}
use Rattle.doc_marks.specs.Norms.{nrm_plan, separate_plan}
use Rattle.doc_marks.specs.Deletions.{del_plan}
use Rattle.compound_file.specs.Entries.{NamedPart}
use Rattle.compound_file.specs.Cfs.{cfs_plan}
use Rattle.term_vectors.specs.declared.layout.DocumentPlaces.{DocumentPlaces}
use Rattle.term_vectors.specs.Places.{tvx_plan}
use Rattle.term_vectors.specs.Fields.{VectorPlace, tvd_plan}
use Rattle.term_vectors.specs.Vectors.{tvf_plan}
use Rattle.segment_infos.specs.declared.infos.SegInfo.{SegInfo}
use Rattle.check_index.specs.Files.{DocumentFiles, IndexFiles, PartFiles, FolderFiles, file_at, AreDocumentBytes, AreIndexBytes, AreBytes}
use Rattle.check_index.specs.Locating.{packed_part, packed_documents, packed_index, packed_files, compound_files, own_part_files, document_parts, located_parts}
use Rattle.check_index.specs.Documents.{norm_fields, field_files, window_of, stored_files, deletion_files}
use Rattle.check_index.specs.Terms.{TermLists, infos_of, listed_terms, term_files}
use Rattle.positions.specs.Terms.{prx_plan}
use Rattle.check_index.specs.Positions.{no_positions, position_files}
use Rattle.check_index.specs.Norms.{count_with_norms, norms_from, column_files, is_separate, needed_file, separate_file, separate_files, norm_files}
use Rattle.check_index.specs.Vectors.{store_part, have_vectors, no_vectors, part_vectors, document_vectors}
use Rattle.check_index.specs.Segments.{content_files, side_files, segment_files}
use Rattle.check_index.proofs.ReadBytes.{read-bytes}
use Rattle.check_index.proofs.PartLemmas.{file-within, named-bytes}
use Rattle.check_index.proofs.LocatedLemmas.{with_documents}
use Rattle.check_index.proofs.MadeFiles.{AreMade, needed-made, followed-made, asked-made, each-made}

-- ---- where the parts are

-- the parts of a compound file that was read are made of bytes
part-made : (kind : FileKind) (file : Option (List ℕ)) (parts : List NamedPart) (segment : List ℕ) (of : FileKind) → StandFor (compound_files kind file) parts → ForSome (packed_part segment parts of) IsBytes
part-made kind None parts segment of h = absurd h
part-made kind (Some bytes) parts segment of (v, reads, is) =
    let all = file-within bytes v (read-bytes (cfs_plan (length bytes)) bytes v reads) reads in
    subst (λ (ps : List NamedPart). ForSome (packed_part segment ps of) IsBytes) (sym is) (named-bytes (length bytes) (part_name segment of) v all)

documents-made : (kind : FileKind) (file : Option (List ℕ)) (parts : List NamedPart) (segment : List ℕ) → StandFor (compound_files kind file) parts → AreDocumentBytes (packed_documents segment parts)
documents-made kind file parts segment h = record {
  fdx = part-made kind file parts segment Fdx h;
  fdt = part-made kind file parts segment Fdt h;
  tvx = part-made kind file parts segment Tvx h;
  tvd = part-made kind file parts segment Tvd h;
  tvf = part-made kind file parts segment Tvf h;
}

index-made : (kind : FileKind) (file : Option (List ℕ)) (parts : List NamedPart) (segment : List ℕ) → StandFor (compound_files kind file) parts → AreIndexBytes (packed_index segment parts)
index-made kind file parts segment h = record {
  fnm = part-made kind file parts segment Fnm h;
  tis = part-made kind file parts segment Tis h;
  tii = part-made kind file parts segment Tii h;
  frq = part-made kind file parts segment Frq h;
  prx = part-made kind file parts segment Prx h;
  nrm = part-made kind file parts segment Nrm h;
}

-- the parts of a segment are made of bytes
abbrev ArePartBytes : PartFiles → Type 0
ArePartBytes files = AreIndexBytes files.index × AreDocumentBytes files.documents

compound-made : (kind : FileKind) (file : Option (List ℕ)) → ForSome file IsBytes → AreMade (compound_files kind file)
compound-made kind file made = needed-made kind file (λ bytes. cfs_plan (length bytes)) (λ _ parts. stands parts) made (λ bytes v reads. tt)

module _ (folder : FolderFiles) (line : SegInfo) (made : AreBytes folder) where
  abbrev packed_own : FilePlan PartFiles
  packed_own = followed_by (compound_files Cfs folder.cfs) (λ held. stands (packed_files (segment_name line.number) held))

  own-made : AreMade (own_part_files folder line)
  own-made = asked-made line.compound folder.parts packed_own (followed-made (compound_files Cfs folder.cfs) (λ held. stands (packed_files (segment_name line.number) held)) (compound-made Cfs folder.cfs made.cfs) (λ a stand. tt))

  own-bytes : (files : PartFiles) → StandFor (own_part_files folder line) files → ArePartBytes files
  own-bytes files h = go line.compound h
    where
      go : (b : Bool) → StandFor (where_needed b folder.parts packed_own) files → ArePartBytes files
      go true h =
          let was = followed_by-was (compound_files Cfs folder.cfs) (λ held. stands (packed_files (segment_name line.number) held)) files h in
          subst ArePartBytes (sym was.2) (index-made Cfs folder.cfs was.0 (segment_name line.number) was.1, documents-made Cfs folder.cfs was.0 (segment_name line.number) was.1)
      go false is = subst ArePartBytes (sym is) (made.index, made.documents)

  shared-made : (store : Option SharedStore) (own : DocumentFiles) → AreMade (document_parts folder store own)
  shared-made None own = tt
  shared-made (Some store) own =
      asked-made store.compound folder.parts.documents (followed_by (compound_files Cfx folder.cfx) (λ held. stands (packed_documents (segment_name store.number) held)))
      (followed-made (compound_files Cfx folder.cfx) (λ held. stands (packed_documents (segment_name store.number) held)) (compound-made Cfx folder.cfx made.cfx) (λ a stand. tt))

  shared-bytes : (store : Option SharedStore) (own documents : DocumentFiles) → AreDocumentBytes own → StandFor (document_parts folder store own) documents → AreDocumentBytes documents
  shared-bytes None own documents held h = subst AreDocumentBytes (sym h) held
  shared-bytes (Some store) own documents held h = go store.compound h
    where
      go : (b : Bool) → StandFor (where_needed b folder.parts.documents (followed_by (compound_files Cfx folder.cfx) (λ held. stands (packed_documents (segment_name store.number) held)))) documents → AreDocumentBytes documents
      go true h =
          let was = followed_by-was (compound_files Cfx folder.cfx) (λ held. stands (packed_documents (segment_name store.number) held)) documents h in
          subst AreDocumentBytes (sym was.2) (documents-made Cfx folder.cfx was.0 (segment_name store.number) was.1)
      go false is = subst AreDocumentBytes (sym is) made.documents

  abbrev after_own : PartFiles → FilePlan PartFiles
  after_own own = followed_by (document_parts folder line.store own.documents) (λ documents. stands (with_documents own documents))

  located-made : AreMade (located_parts folder line)
  located-made = followed-made (own_part_files folder line) after_own own-made (λ own stand. followed-made (document_parts folder line.store own.documents) (λ documents. stands (with_documents own documents)) (shared-made line.store own.documents) (λ d stand. tt))

  located-bytes : (files : PartFiles) → StandFor (located_parts folder line) files → ArePartBytes files
  located-bytes files h =
      let first = followed_by-was (own_part_files folder line) after_own files h in
      let own = own-bytes first.0 first.1 in
      let next = followed_by-was (document_parts folder line.store first.0.documents) (λ (documents : DocumentFiles). stands (with_documents first.0 documents)) files first.2 in
      subst ArePartBytes (sym next.2) (own.0, shared-bytes line.store first.0.documents next.0 own.1 next.1)

  -- ---- the groups

  store-made : (total : List ℕ → ℕ) (window : List ℕ → Window) (fields : ℕ) (fdx fdt : Option (List ℕ)) → ForSome fdx IsBytes → ForSome fdt IsBytes → AreMade (store_files total window fields fdx fdt)
  store-made total window fields fdx fdt places documents =
      needed-made Fdx fdx (λ bytes. fdx_plan (total bytes) (window bytes)) (λ bytes ps. needs Fdt fdt (λ _. fdt_plan (window bytes) fields ps) (λ _ all. stands (windowed (window bytes) all))) places
      (λ bytes ps reads. needed-made Fdt fdt (λ _. fdt_plan (window bytes) fields ps) (λ _ all. stands (windowed (window bytes) all)) documents (λ _ all reads. tt))

  stored-made : (store : Option SharedStore) (size fields : ℕ) (fdx fdt : Option (List ℕ)) → ForSome fdx IsBytes → ForSome fdt IsBytes → AreMade (stored_files store size fields fdx fdt)
  stored-made None size fields fdx fdt places documents = store-made (λ _. size) (λ _. whole_store size) fields fdx fdt places documents
  stored-made (Some store) size fields fdx fdt places documents = store-made total_of (λ _. window_of store size) fields fdx fdt places documents

  terms-made : (files : IndexFiles) (size : ℕ) (fields : List TableField) → AreIndexBytes files → AreMade (term_files files size fields)
  terms-made files size fields held =
      needed-made Tis files.tis (λ tis. tis_plan fields size (length tis))
      (λ _ d. needs Tii files.tii (λ _. tii_plan d) (λ _ (_ : Unit {0}). needs Frq files.frq (λ _. frq_plan fields d.numbers size (infos_of d)) (λ _ lists. stands (listed_terms d lists)))) held.tis
      (λ tis d reads. needed-made Tii files.tii (λ _. tii_plan d) (λ _ (_ : Unit {0}). needs Frq files.frq (λ _. frq_plan fields d.numbers size (infos_of d)) (λ _ lists. stands (listed_terms d lists))) held.tii
      (λ tii v reads. needed-made Frq files.frq (λ _. frq_plan fields d.numbers size (infos_of d)) (λ _ lists. stands (listed_terms d lists)) held.frq (λ frq lists reads. tt)))

  positions-made : (files : IndexFiles) (fields : List TableField) (terms : TermLists) → AreIndexBytes files → AreMade (position_files files line fields terms)
  positions-made files fields terms held =
      asked-made line.has_prox (no_positions terms.lists) (needs Prx files.prx (λ _. prx_plan fields terms.dictionary.numbers line.size (infos_of terms.dictionary) terms.lists) (λ _ all. stands all))
      (needed-made Prx files.prx (λ _. prx_plan fields terms.dictionary.numbers line.size (infos_of terms.dictionary) terms.lists) (λ _ all. stands all) held.prx (λ bytes v reads. tt))

  norms-made : (nrm : Option (List ℕ)) (fields : List TableField) → ForSome nrm IsBytes → AreMade (norm_files nrm folder.separate line fields)
  norms-made nrm fields held =
      let columns = needed-made Nrm nrm (λ _. nrm_plan (count_with_norms fields) line.size) (λ _ columns. stands (norms_from 0 columns fields)) held (λ bytes v reads. tt) in
      followed-made (column_files nrm line.size fields) (separate_files line.norm_gens fields line.size folder.separate (length fields))
      (asked-made (nat_lt 0 (count_with_norms fields)) (map (λ _. None) fields) (needs Nrm nrm (λ _. nrm_plan (count_with_norms fields) line.size) (λ _ columns. stands (norms_from 0 columns fields))) columns)
      (λ norms stand. each-made (separate_file line.norm_gens fields line.size folder.separate) (range_with_len 0 (length fields)) norms
      (λ number so_far. asked-made (is_separate line.norm_gens fields number) so_far (needed_file line.size folder.separate number so_far)
      (needed-made (Sep number) (file_at folder.separate number) (λ _. separate_plan line.size) (λ _ column. stands (slice_set so_far number (Some column))) (made.separate number) (λ bytes v reads. tt))))

  deletions-made : AreMade (deletion_files folder.del line)
  deletions-made =
      asked-made (is_some line.del_gen) [] (needs Del folder.del (λ _. del_plan line.size line.deleted) (λ _ documents. stands documents))
      (needed-made Del folder.del (λ _. del_plan line.size line.deleted) (λ _ documents. stands documents) made.del (λ bytes v reads. tt))

  vectors-made : (files : DocumentFiles) (fields : List TableField) → AreDocumentBytes files → AreMade (document_vectors files line fields)
  vectors-made files fields held =
      let part = store_part line.store line.size files.fdx in
      let last = λ (slots : List (List VectorPlace)). needs Tvf files.tvf (λ _. tvf_plan slots) (λ _ all. stands (windowed part.window all)) in
      let next = λ (places : List DocumentPlaces). needs Tvd files.tvd (λ _. tvd_plan fields part.window places) (λ _ slots. last slots) in
      asked-made (have_vectors fields && is_some files.tvx) (no_vectors line.size) (part_vectors part files fields)
      (needed-made Tvx files.tvx (λ _. tvx_plan part.total) (λ _ places. next places) held.tvx
      (λ tvx places reads. needed-made Tvd files.tvd (λ _. tvd_plan fields part.window places) (λ _ slots. last slots) held.tvd
      (λ tvd slots also. needed-made Tvf files.tvf (λ _. tvf_plan slots) (λ _ all. stands (windowed part.window all)) held.tvf (λ tvf all too. tt))))

  contents-made : (files : PartFiles) → ArePartBytes files → AreMade (content_files files line)
  contents-made files held =
      followed-made (field_files files.index line) _ (needed-made Fnm files.index.fnm (λ _. fnm_plan line.has_prox (norm_fields line)) (λ _ fields. stands fields) held.0.fnm (λ bytes v reads. tt))
      (λ fields stand. followed-made (stored_files line.store line.size (length fields) files.documents.fdx files.documents.fdt) _ (stored-made line.store line.size (length fields) files.documents.fdx files.documents.fdt held.1.fdx held.1.fdt)
      (λ stored also. followed-made (term_files files.index line.size fields)
      (λ (terms : TermLists). followed_by (position_files files.index line fields terms) (λ occurrences. stands (record { fields = fields; stored = stored; terms = terms; occurrences = occurrences })))
      (terms-made files.index line.size fields held.0)
      (λ terms too. followed-made (position_files files.index line fields terms) (λ occurrences. stands (record { fields = fields; stored = stored; terms = terms; occurrences = occurrences }))
      (positions-made files.index fields terms held.0) (λ occurrences there. tt))))

  sides-made : (files : PartFiles) (fields : List TableField) → ArePartBytes files → AreMade (side_files folder files line fields)
  sides-made files fields held =
      followed-made (norm_files files.index.nrm folder.separate line fields) _ (norms-made files.index.nrm fields held.0.nrm)
      (λ norms stand. followed-made (deletion_files folder.del line) _ deletions-made
      (λ deleted also. followed-made (document_vectors files.documents line fields) (λ vectors. stands (record { norms = norms; deleted = deleted; vectors = vectors })) (vectors-made files.documents fields held.1) (λ vectors too. tt)))

  -- all files of a segment
  pub segment-made : AreMade (segment_files folder line)
  segment-made =
      followed-made (located_parts folder line) _ located-made
      (λ files stand. followed-made (content_files files line) _ (contents-made files (located-bytes files stand))
      (λ contents also. followed-made (side_files folder files line contents.fields) _ (sides-made files contents.fields (located-bytes files stand)) (λ columns too. tt)))
