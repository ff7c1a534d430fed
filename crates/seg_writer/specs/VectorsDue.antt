-- The vectors of documents, and their files.
use Rattle.std.specs.Prelude.{Bool, cond, List, [], ◌∷◌, map, Option, Some, None}
use Rattle.lu_types.specs.Tables.{TableField}
use Rattle.lu_types.specs.declared.document.Document.{Document}
use Rattle.lu_types.specs.declared.kind.FileKind.TheVariants.{Tvx, Tvd, Tvf}
use Rattle.lu_types.specs.declared.named_file.NamedFile.{NamedFile}
use Rattle.lu_model.specs.Contents.{content_of, vectors_in}
use Rattle.term_vectors.specs.Vectors.{StoredVector}
use Rattle.term_vectors.specs.VectorBytes.{tvx_bytes, tvd_bytes, tvf_bytes}
use Rattle.term_vectors.specs.declared.writer.VectorFiles.{VectorFiles}
use Rattle.posting_files.specs.States.{named}

-- the vectors of each document, their fields by the numbers of a table
abbrev pub vectors_of_documents : List TableField → List Document → List (List StoredVector)
vectors_of_documents table docs = map (λ doc. vectors_in table (content_of doc).vectors) docs

-- the files of vectors, where they are wanted, in the order in which they are written
abbrev pub vector_files_due : Bool → List (List StoredVector) → List NamedFile
vector_files_due wanted vectors =
    cond wanted (named Tvf (tvf_bytes vectors) ∷ named Tvd (tvd_bytes vectors) ∷ named Tvx (tvx_bytes vectors) ∷ []) []

-- those that a call gave
abbrev pub given_vectors : Option VectorFiles → List NamedFile
given_vectors None = []
given_vectors (Some files) = named Tvf files.tvf ∷ named Tvd files.tvd ∷ named Tvx files.tvx ∷ []
