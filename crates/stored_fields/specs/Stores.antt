-- What the two files of a store stand for (format page, "Stored documents").
use Rattle.std.specs.Prelude.{◌≡◌, ℕ, Bool, ◌-◌, ◌/◌, List, [], length, ℤ, Option, Ok}
use Rattle.lu_types.specs.declared.kind.FileKind.TheVariants.{Fdx, Fdt}
use Rattle.lu_types.specs.declared.stored.Window.{Window}
use Rattle.lu_types.specs.FilePlans.{FilePlan, stands, needs}
use Rattle.lu_grammar.specs.Bytes.{IsBytes, Cursor}
use Rattle.lu_grammar.specs.Reading.{value_or}
use Rattle.lu_grammar.specs.Plans.{read_plan, read_file}
use Rattle.lu_types.specs.Stores.{header_length, whole_store, windowed}
use Rattle.stored_fields.specs.Format.{place_length}
use Rattle.stored_fields.specs.Values.{StoredDocument}
use Rattle.stored_fields.specs.Places.{fdx_plan}
use Rattle.stored_fields.specs.Documents.{document_plan, fdt_plan}

-- how many documents a store has, by the length of its `.fdx`
abbrev pub total_of : List ℕ → ℕ
total_of fdx = (length fdx - header_length) / place_length

-- ---- the two files, in order, and what they stand for: the documents in the window

-- those of a store of which a segment with so many fields takes a window; its `.fdx` tells how many documents there are, and the window
abbrev pub store_files : (List ℕ → ℕ) → (List ℕ → Window) → ℕ → Option (List ℕ) → Option (List ℕ)
    → FilePlan (List StoredDocument)
store_files total window fields fdx fdt =
    needs Fdx fdx (λ bytes. fdx_plan (total bytes) (window bytes))
    (λ bytes places. needs Fdt fdt (λ _. fdt_plan (window bytes) fields places) (λ _ all. stands (windowed (window bytes) all)))

-- those of a segment of so many documents, with so many fields, that has its store to itself
abbrev pub own_files : ℕ → ℕ → Option (List ℕ) → Option (List ℕ) → FilePlan (List StoredDocument)
own_files size fields fdx fdt = store_files (λ _. size) (λ _. whole_store size) fields fdx fdt

-- those of a shared store, of which a segment with so many fields takes this window
abbrev pub shared_files : Window → ℕ → Option (List ℕ) → Option (List ℕ) → FilePlan (List StoredDocument)
shared_files window fields fdx fdt = store_files total_of (λ _. window) fields fdx fdt

-- those of a store without its segment: all of its documents, as many as `.fdx` has places for, with so many fields
abbrev pub all_files : ℕ → Option (List ℕ) → Option (List ℕ) → FilePlan (List StoredDocument)
all_files fields fdx fdt = store_files total_of (λ bytes. whole_store (total_of bytes)) fields fdx fdt

-- ---- what is read

-- the places that a `.fdx` without a fault holds
abbrev pub places_in : ℕ → Window → List ℕ → List ℤ
places_in total window fdx = value_or [] (read_file (fdx_plan total window) fdx)

-- the documents that a `.fdt` without a fault holds
abbrev pub documents_in : ℕ → ℕ → Window → List ℕ → List ℕ → List StoredDocument
documents_in fields total window fdx fdt = value_or [] (read_file (fdt_plan window fields (places_in total window fdx)) fdt)

-- the document that stands here, where it has no fault
abbrev pub document_here : Bool → ℕ → ℤ → Cursor → StoredDocument
document_here asked fields wanted here = (value_or ([], here) (read_plan (document_plan asked fields wanted) here)).0

-- the files have no fault
pub record HaveNoFault (fields total : ℕ) (window : Window) (fdx fdt : List ℕ) : Type 0 where
  pub bytes : IsBytes fdt
  pub places : read_file (fdx_plan total window) fdx ≡ Ok (places_in total window fdx)
  pub documents : read_file (fdt_plan window fields (places_in total window fdx)) fdt ≡ Ok (documents_in fields total window fdx fdt)
