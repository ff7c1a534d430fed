-- The norms of documents, field by field.
use Rattle.std.specs.Prelude.{◌≡◌, ◌≤◌, ℕ, zero, suc, cond, List, [], ◌∷◌, ◌++◌, length, map, drop, take, find, flat_map, Option, None, Some, unwrap_or}
use Rattle.std.specs.Global.{Global}
use Rattle.std.specs.Option.{option_and_then}
use Rattle.std.specs.declared.vec.Vec.{Vec}
use Rattle.doc_marks.specs.Norms.{nrm_spelling}
use Rattle.lu_types.specs.declared.kind.FileKind.TheVariants.{Nrm}
use Rattle.lu_types.specs.declared.named_file.NamedFile.{NamedFile}
use Rattle.segment_files.specs.Parts.{have_norms, norm_columns}
use Rattle.posting_files.specs.States.{named}
use Rattle.lu_types.specs.Tables.{TableField}
use Rattle.lu_types.specs.declared.document.Document.{Document}
use Rattle.lu_types.specs.declared.document.IndexedField.{IndexedField}
use Rattle.lu_model.specs.Contents.{has_norms, missing_norm}
use Rattle.seg_writer.specs.declared.appearance.Appearance.{Appearance}
use Rattle.seg_writer.specs.Appearing.{AreFieldColumns, appeared, column_from, is_field_named}

-- the norm of a document in which this field was found, or none was
abbrev pub found_norm : Option IndexedField → ℕ
found_norm found = unwrap_or (option_and_then (λ field. field.norm) found) missing_norm

-- the norms of the documents for the field with a name
abbrev pub norms_of : List ℕ → List Document → List ℕ
norms_of name docs = map (λ doc. found_norm (find (is_field_named name) doc.indexed)) docs

-- so many norms that are missing
abbrev pub missing_norms : ℕ → List ℕ
missing_norms zero = []
missing_norms (suc n) = missing_norm ∷ missing_norms n

-- for each field the norms, if it has norms
abbrev pub field_norms : List Document → List TableField → List (Option (List ℕ))
field_norms docs fields = map (λ field. cond (has_norms field.bits) (Some (norms_of field.name docs)) None) fields

-- the column is that of a name in so many documents
abbrev pub IsColumnIn : List Appearance → ℕ → List ℕ → List Document → Type 0
IsColumnIn column documents name docs = (map appeared column ≡ column_from name 0 docs) × (length docs ≡ documents)

-- the column is that of some name in so many documents
abbrev pub IsSomeColumn : List Appearance → ℕ → Type 0
IsSomeColumn column documents = (name : List ℕ) × (docs : List Document) × IsColumnIn column documents name docs

-- the norms of the first so many documents were added, and of the column this is left
pub record AreAdded (name : List ℕ) (docs : List Document) (rest : List Appearance) (next : ℕ) (old new : List ℕ) : Type 0 where
  pub low : next ≤ length docs
  pub left : map appeared rest ≡ column_from name next (drop next docs)
  pub added : new ≡ old ++ norms_of name (take next docs)

-- the norms of fields, one column after another
abbrev pub norm_bytes : List Document → List TableField → List ℕ
norm_bytes docs fields = flat_map (λ column. column) (norm_columns (field_norms docs fields))

-- the file of norms of documents, where some field has norms
abbrev pub norm_file_due : List Document → List TableField → List NamedFile
norm_file_due docs fields = cond (have_norms fields) (named Nrm (nrm_spelling (norm_columns (field_norms docs fields))) ∷ []) []

-- the one that a call gave
abbrev pub given_norms : Option (List ℕ) → List NamedFile
given_norms None = []
given_norms (Some nrm) = named Nrm nrm ∷ []

-- the columns of the fields of a table in so many documents
abbrev pub AreColumnsIn : List TableField → List (Vec Appearance Global) → ℕ → List Document → Type 0
AreColumnsIn fields columns documents docs = AreFieldColumns fields docs columns × (length docs ≡ documents)

-- the same, in some documents
abbrev pub AreSomeColumns : List TableField → List (Vec Appearance Global) → ℕ → Type 0
AreSomeColumns fields columns documents = (docs : List Document) × AreColumnsIn fields columns documents docs
