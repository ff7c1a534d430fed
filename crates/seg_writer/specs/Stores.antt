-- The stored values of documents.
use Rattle.std.specs.Prelude.{◌≡◌, ◌≤◌, ◌^◌, List, [], ◌∷◌, ◌++◌, length, map, All, IsSome, None, Result, Ok, Err}
use Rattle.lu_types.specs.Tables.{TableField, number_of}
use Rattle.lu_types.specs.declared.document.Document.{Document}
use Rattle.lu_types.specs.declared.kind.FileKind.TheVariants.{Fdt, Fdx}
use Rattle.lu_types.specs.declared.named_file.NamedFile.{NamedFile}
use Rattle.lu_types.specs.declared.stored.StoredValue.{StoredValue}
use Rattle.lu_types.specs.StoredFields.{StoredField}
use Rattle.lu_model.specs.Contents.{stored_in}
use Rattle.stored_fields.specs.Writing.{HeldDocuments, document_bytes, fdt_bytes, fdx_bytes}
use Rattle.stored_fields.specs.declared.writer.StoredFiles.{StoredFiles}
use Rattle.posting_files.specs.States.{named}
use Rattle.seg_writer.specs.declared.fault.WriteFault.{WriteFault}
use Rattle.seg_writer.specs.declared.fault.WriteFault.TheVariants.{Doc, TooLarge, OutOfMemory}

-- the fields of the values are in the table
abbrev pub AreInTable : List TableField → List StoredValue → Type 0
AreInTable table values = All (λ value. IsSome (number_of value.field table)) values

-- the stored values of each document, their fields by number
abbrev pub stores_of : List TableField → List Document → List (List StoredField)
stores_of table docs = map (λ doc. stored_in table doc.stored) docs

-- what the values of a document are written to behind finished documents: a document more; or they are too many bytes for any file; or there was no memory
abbrev pub WritesValues : List (List StoredField) → List StoredField → HeldDocuments → Result (Unit {0}) WriteFault → Type 0
WritesValues finished values held (Ok done) = held ≡ record { finished = finished ++ values ∷ []; opened = None }
WritesValues finished values held (Err (Doc number fault)) = ⊥
WritesValues finished values held (Err (TooLarge kind)) = (kind ≡ Fdt) × (2 ^ 31 ≤ length (document_bytes values))
WritesValues finished values held (Err OutOfMemory) = Unit {0}

-- the files of documents, in the order in which they are written
abbrev pub store_files_due : List (List StoredField) → List NamedFile
store_files_due documents = named Fdt (fdt_bytes documents) ∷ named Fdx (fdx_bytes documents) ∷ []

-- those that a call gave
abbrev pub given_store : StoredFiles → List NamedFile
given_store files = named Fdt files.fdt ∷ named Fdx files.fdx ∷ []
