-- The files of vectors, against the limit.
use Rattle.std.proofs.Common.{◌≡◌, ap, sym, ◌∙◌, subst, ℕ, ◌<◌, ◌≤◌, List, [], ◌∷◌, length, Bool, true, cond, Some, Ok}
use Rattle.std.proofs.lemmas.Bool.{le-ltb, lt-ltb}
use Rattle.lu_types.specs.Joins.{table_of}
use Rattle.lu_types.specs.Tables.{TableField}
use Rattle.lu_types.specs.declared.document.Document.{Document}
use Rattle.lu_types.specs.declared.kind.FileKind.TheVariants.{Tvx, Tvd, Tvf}
use Rattle.lu_types.specs.declared.named_file.NamedFile.{NamedFile}
use Rattle.lu_model.proofs.Among.{contains-from_in}
use Rattle.lu_model.proofs.Held.{HasFields}
use Rattle.segment_files.specs.Written.{first_past}
use Rattle.posting_files.specs.States.{named}
use Rattle.term_vectors.specs.Vectors.{StoredVector}
use Rattle.term_vectors.specs.VectorBytes.{tvx_bytes, tvd_bytes, tvf_bytes}
use Rattle.term_vectors.specs.VectorWriting.{VectorWriting, HoldsDocuments}
use Rattle.term_vectors.specs.declared.writer.VectorFiles.{VectorFiles}
use Rattle.seg_writer.specs.Answers.{Wrote}
use Rattle.seg_writer.specs.VectorsDue.{given_vectors, vector_files_due, vectors_of_documents}
use Rattle.seg_writer.proofs.VectorFieldLemmas.{documents-vectors, table-fields, vectors_by_fields}

-- the first of a file and others that passes the limit
past : (limit : ℕ) (file : NamedFile) (files : List NamedFile) → limit < length file.bytes → first_past limit (file ∷ files) ≡ Some file.kind
past limit file files lt = ap (λ b. cond b (Some file.kind) (first_past limit files)) (lt-ltb limit (length file.bytes) lt)

not-past : (limit : ℕ) (file : NamedFile) (files : List NamedFile) → length file.bytes ≤ limit → first_past limit (file ∷ files) ≡ first_past limit files
not-past limit file files le = ap (λ b. cond b (Some file.kind) (first_past limit files)) (le-ltb limit (length file.bytes) le)

-- the files that the vectors of documents are
pub record AreFilesOf (vectors : List (List StoredVector)) (files : VectorFiles) : Type 0 where
  pub tvx : files.tvx ≡ tvx_bytes vectors
  pub tvd : files.tvd ≡ tvd_bytes vectors
  pub tvf : files.tvf ≡ tvf_bytes vectors

module _ (limit : ℕ) (wanted : Bool) (vectors : List (List StoredVector)) (files : VectorFiles) (is : wanted ≡ true) (of : AreFilesOf vectors files) where
  due : vector_files_due wanted vectors ≡ given_vectors (Some files)
  due =
      ap (λ b. vector_files_due b vectors) is
      ∙ ap (λ tvf. named Tvf tvf ∷ named Tvd (tvd_bytes vectors) ∷ named Tvx (tvx_bytes vectors) ∷ []) (sym of.tvf)
      ∙ ap (λ tvd. named Tvf files.tvf ∷ named Tvd tvd ∷ named Tvx (tvx_bytes vectors) ∷ []) (sym of.tvd)
      ∙ ap (λ tvx. named Tvf files.tvf ∷ named Tvd files.tvd ∷ named Tvx tvx ∷ []) (sym of.tvx)

  pub tvf-past : limit < length files.tvf → first_past limit (vector_files_due wanted vectors) ≡ Some Tvf
  tvf-past tvf = ap (first_past limit) due ∙ past limit (named Tvf files.tvf) (named Tvd files.tvd ∷ named Tvx files.tvx ∷ []) tvf

  behind-tvf : length files.tvf ≤ limit → first_past limit (vector_files_due wanted vectors) ≡ first_past limit (named Tvd files.tvd ∷ named Tvx files.tvx ∷ [])
  behind-tvf tvf = ap (first_past limit) due ∙ not-past limit (named Tvf files.tvf) (named Tvd files.tvd ∷ named Tvx files.tvx ∷ []) tvf

  pub tvd-past : length files.tvf ≤ limit → limit < length files.tvd → first_past limit (vector_files_due wanted vectors) ≡ Some Tvd
  tvd-past tvf tvd = behind-tvf tvf ∙ past limit (named Tvd files.tvd) (named Tvx files.tvx ∷ []) tvd

  behind-tvd : length files.tvf ≤ limit → length files.tvd ≤ limit → first_past limit (vector_files_due wanted vectors) ≡ first_past limit (named Tvx files.tvx ∷ [])
  behind-tvd tvf tvd = behind-tvf tvf ∙ not-past limit (named Tvd files.tvd) (named Tvx files.tvx ∷ []) tvd

  pub tvx-past : length files.tvf ≤ limit → length files.tvd ≤ limit → limit < length files.tvx → first_past limit (vector_files_due wanted vectors) ≡ Some Tvx
  tvx-past tvf tvd tvx = behind-tvd tvf tvd ∙ past limit (named Tvx files.tvx) [] tvx

  pub none-past : length files.tvf ≤ limit → length files.tvd ≤ limit → length files.tvx ≤ limit → Wrote given_vectors limit (vector_files_due wanted vectors) (Ok (Some files))
  none-past tvf tvd tvx = (behind-tvd tvf tvd ∙ not-past limit (named Tvx files.tvx) [] tvx, sym due)

-- what a writer of all documents gives
pub files-of : (docs : List Document) (table : List TableField) (w : VectorWriting) (files : VectorFiles) → table ≡ table_of docs → HoldsDocuments (vectors_by_fields table docs) w
    → files.tvx ≡ w.tvx → files.tvd ≡ w.tvd → files.tvf ≡ w.tvf → AreFilesOf (vectors_of_documents table docs) files
files-of docs table w files of held tvx tvd tvf =
    let same : vectors_by_fields table docs ≡ vectors_of_documents table docs = sym (documents-vectors table docs (λ doc inside. subst (λ t. HasFields t doc) (sym of) (table-fields docs doc (contains-from_in doc docs inside)))) in record {
      tvx = tvx ∙ held.tvx ∙ ap tvx_bytes same;
      tvd = tvd ∙ held.tvd ∙ ap tvd_bytes same;
      tvf = tvf ∙ held.tvf ∙ ap tvf_bytes same;
    }
