-- The two files of written documents are a store of these documents.
use Rattle.std.proofs.Common.{List, ℕ, length, Some, refl}
use Rattle.lu_types.specs.declared.stored.Window.{Window}
use Rattle.lu_types.specs.FilePlans.{StandFor}
use Rattle.lu_grammar.proofs.Codecs.{Reads-from}
use Rattle.lu_types.specs.Stores.{windowed}
use Rattle.stored_fields.specs.Values.{StoredDocument}
use Rattle.stored_fields.specs.Places.{fdx_plan}
use Rattle.stored_fields.specs.Documents.{fdt_plan}
use Rattle.stored_fields.specs.Stores.{store_files}
use Rattle.stored_fields.specs.Writing.{AreStorable, fdt_bytes, fdx_bytes, IsCheckable}
use Rattle.stored_fields.proofs.ReadBackLemmas.{places_of, read_back}
use Rattle.stored_fields.proofs.ByteLemmas.{of_fdx, of_fdt}

pub written_store : (fields : ℕ) (window : Window) (documents : List StoredDocument) → AreStorable documents → IsCheckable fields window documents
    → StandFor (store_files (λ _. length documents) (λ _. window) fields (Some (fdx_bytes documents)) (Some (fdt_bytes documents))) (windowed window documents)
written_store fields window documents storable h =
    let read = read_back fields window documents storable h in (
      places_of documents,
      Reads-from (fdx_plan (length documents) window) (fdx_bytes documents) (places_of documents) (of_fdx documents) read.0,
      (documents, Reads-from (fdt_plan window fields (places_of documents)) (fdt_bytes documents) documents (of_fdt documents storable) read.1, refl),
    )
