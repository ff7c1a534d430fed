-- The parts of the index of documents, by what is written of them.
use Rattle.std.proofs.Common.{◌≡◌, refl, ap, ◌∙◌, ℕ, Bool, true, false, cond, List, [], ◌∷◌, length, map, drop, get_or, Option, None, Some}
use Rattle.std.specs.Prelude.{option_map, unwrap_or}
use Rattle.std.proofs.lemmas.List.{length-map}
use Rattle.std.proofs.lemmas.Simd.{map-map}
use Rattle.check_index.specs.Files.{PartFiles}
use Rattle.check_index.specs.Norms.{FieldNorms}
use Rattle.check_index.specs.Vectors.{have_vectors}
use Rattle.doc_marks.specs.Norms.{nrm_spelling}
use Rattle.field_infos.specs.Spelling.{fnm_spelling}
use Rattle.lu_types.specs.Joins.{table_of}
use Rattle.lu_types.specs.Tables.{TableField}
use Rattle.lu_types.specs.declared.document.Document.{Document}
use Rattle.lu_types.specs.declared.kind.FileKind.TheVariants.{Fnm, Nrm}
use Rattle.lu_types.specs.declared.named_file.NamedFile.{NamedFile}
use Rattle.lu_model.specs.Contents.{Content, content_of, has_norms, index_of, index_of_documents, missing_norm, stored_in, under, vectors_in}
use Rattle.stored_fields.specs.Values.{StoredDocument}
use Rattle.term_vectors.specs.VectorBytes.{tvx_bytes, tvd_bytes, tvf_bytes}
use Rattle.term_vectors.specs.Vectors.{StoredVector}
use Rattle.term_vectors.specs.declared.writer.VectorFiles.{VectorFiles}
use Rattle.posting_files.specs.States.{named}
use Rattle.segment_files.specs.Parts.{canonical_parts_of, have_norms, keep_positions, norm_columns}
use Rattle.segment_files.specs.Postings.{PostingIntervals, PostingParts, kept_terms, lines_written, parts_of, tii_bytes, tis_bytes}
use Rattle.segment_files.specs.Stores.{canonical_store}
use Rattle.seg_writer.specs.NormColumns.{field_norms, given_norms, norms_of}
use Rattle.seg_writer.specs.PartsGathered.{part_files}
use Rattle.seg_writer.specs.SegmentSteps.{column_files_due, given_column_files}
use Rattle.seg_writer.specs.Stores.{given_store, store_files_due, stores_of}
use Rattle.seg_writer.specs.VectorsDue.{given_vectors, vector_files_due, vectors_of_documents}
use Rattle.seg_writer.specs.declared.packing.WrittenParts.{WrittenParts}
use Rattle.seg_writer.proofs.UnwrittenLemmas.{positions-unwritten}

-- ---- the parts of an index

-- parts by what stands in them
abbrev parts_with : PostingIntervals → List TableField → PostingParts → List StoredDocument → FieldNorms → List (List StoredVector) → PartFiles
parts_with intervals table postings stored norms vectors = record {
  index = record {
    fnm = Some (fnm_spelling table);
    tis = Some (tis_bytes (lines_written intervals postings.lines));
    tii = Some (tii_bytes (lines_written intervals postings.lines));
    frq = Some postings.frq;
    prx = cond (keep_positions table) (Some postings.prx) None;
    nrm = cond (have_norms table) (Some (nrm_spelling (norm_columns norms))) None;
  };
  documents = canonical_store (have_vectors table) stored vectors;
}

-- what stands for the terms of documents
abbrev pub document_postings : PostingIntervals → List Document → PostingParts
document_postings intervals docs = let table = table_of docs in parts_of intervals (kept_terms table (under table docs).terms)

-- the parts of documents
abbrev pub document_parts : PostingIntervals → List Document → PartFiles
document_parts intervals docs = let table = table_of docs in
    parts_with intervals table (document_postings intervals docs) (stores_of table docs) (field_norms docs table) (vectors_of_documents table docs)

-- the norms of documents in an index
abbrev index_norms : List Document → List TableField → FieldNorms
index_norms docs fields = map (λ (field : TableField). cond (has_norms field.bits) (Some (map (λ (content : Content). unwrap_or (content.norm field.name) missing_norm) (map content_of docs))) None) fields

index_norms-documents : (docs : List Document) (fields : List TableField) → index_norms docs fields ≡ field_norms docs fields
index_norms-documents docs [] = refl
index_norms-documents docs (f ∷ fields) =
    ap (λ norms. cond (has_norms f.bits) (Some norms) None ∷ index_norms docs fields) (map-map (λ (content : Content). unwrap_or (content.norm f.name) missing_norm) content_of docs)
    ∙ ap (λ rest. cond (has_norms f.bits) (Some (norms_of f.name docs)) None ∷ rest) (index_norms-documents docs fields)

pub canonical_parts-documents : (intervals : PostingIntervals) (docs : List Document) → canonical_parts_of intervals (index_of_documents docs) ≡ document_parts intervals docs
unfolding index_of
canonical_parts-documents intervals docs =
    let table = table_of docs in
    let postings = document_postings intervals docs in
    let index = index_of_documents docs in
    ap (λ stored. parts_with intervals table postings stored index.norms index.vectors) (map-map (λ (content : Content). stored_in table content.stored) content_of docs)
    ∙ ap (λ norms. parts_with intervals table postings (stores_of table docs) norms index.vectors) (index_norms-documents docs table)
    ∙ ap (parts_with intervals table postings (stores_of table docs) (field_norms docs table)) (map-map (λ (content : Content). vectors_in table content.vectors) content_of docs)

pub fields-documents : (docs : List Document) → (index_of_documents docs).fields ≡ table_of docs
unfolding index_of
fields-documents docs = refl

pub size-documents : (docs : List Document) → (index_of_documents docs).size ≡ length docs
unfolding index_of
size-documents docs = length-map docs content_of

-- where no field keeps positions there are none
pub positions-documents : (intervals : PostingIntervals) (docs : List Document) → keep_positions (table_of docs) ≡ false → (document_postings intervals docs).prx ≡ []
unfolding index_of
positions-documents intervals docs lacks = positions-unwritten intervals docs lacks

-- ---- what was written

-- the bytes of the file with a number in a list
abbrev pub bytes_at : ℕ → List NamedFile → List ℕ
bytes_at n files = (get_or files n (named Fnm [])).bytes

pub norms-there : (has : Bool) (due : List ℕ) (nrm : Option (List ℕ)) → given_norms nrm ≡ cond has (named Nrm due ∷ []) [] → nrm ≡ cond has (Some due) None
norms-there true due None is = cc
norms-there true due (Some nrm) is = ap (λ files. Some (bytes_at 0 files)) is
norms-there false due None is = refl
norms-there false due (Some nrm) is = cc

-- the files of vectors are those of documents, where these have some
pub record AreVectorFiles (has : Bool) (vectors : List (List StoredVector)) (files : Option VectorFiles) : Type 0 where
  pub tvx : option_map (λ (v : VectorFiles). v.tvx) files ≡ cond has (Some (tvx_bytes vectors)) None
  pub tvd : option_map (λ (v : VectorFiles). v.tvd) files ≡ cond has (Some (tvd_bytes vectors)) None
  pub tvf : option_map (λ (v : VectorFiles). v.tvf) files ≡ cond has (Some (tvf_bytes vectors)) None

pub vectors-there : (has : Bool) (vectors : List (List StoredVector)) (files : Option VectorFiles) → given_vectors files ≡ vector_files_due has vectors → AreVectorFiles has vectors files
vectors-there true vectors None is = cc
vectors-there true vectors (Some v) is = record {
  tvx = ap (λ files. Some (bytes_at 2 files)) is;
  tvd = ap (λ files. Some (bytes_at 1 files)) is;
  tvf = ap (λ files. Some (bytes_at 0 files)) is;
}
vectors-there false vectors None is = record { tvx = refl; tvd = refl; tvf = refl }
vectors-there false vectors (Some v) is = cc

-- what was written of documents, piece by piece, are their parts
pub parts-written : (intervals : PostingIntervals) (docs : List Document) (parts : WrittenParts) → named Fnm parts.fnm ∷ [] ≡ named Fnm (fnm_spelling (table_of docs)) ∷ [] → given_store parts.stored ≡ store_files_due (stores_of (table_of docs) docs)
    → given_column_files (record { postings = parts.postings; nrm = parts.nrm }) ≡ column_files_due intervals docs → parts.has_prox ≡ keep_positions (table_of docs)
    → given_vectors parts.vectors ≡ vector_files_due (have_vectors (table_of docs)) (vectors_of_documents (table_of docs) docs) → part_files parts ≡ document_parts intervals docs
parts-written intervals docs parts fnm stored columns prox vectors =
    let table = table_of docs in
    let postings = document_postings intervals docs in
    let nrm : parts.nrm ≡ cond (have_norms table) (Some (nrm_spelling (norm_columns (field_norms docs table)))) None = norms-there (have_norms table) (nrm_spelling (norm_columns (field_norms docs table))) parts.nrm (ap (drop 4) columns) in
    let v = vectors-there (have_vectors table) (vectors_of_documents table docs) parts.vectors vectors in
    λ i. record {
      index = record {
        fnm = Some (bytes_at 0 (fnm i));
        tis = Some (bytes_at 2 (columns i));
        tii = Some (bytes_at 3 (columns i));
        frq = Some (bytes_at 1 (columns i));
        prx = cond (prox i) (Some (bytes_at 0 (columns i))) None;
        nrm = nrm i;
      };
      documents = record {
        fdx = Some (bytes_at 1 (stored i));
        fdt = Some (bytes_at 0 (stored i));
        tvx = v.tvx i;
        tvd = v.tvd i;
        tvf = v.tvf i;
      };
    }
