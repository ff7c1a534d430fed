-- The field table, the stored documents and the deleted documents of a segment (format page, "Field tables", "Stored documents",
-- "Deletions").
use Rattle.std.specs.Prelude.{ℕ, List, [], length, Option, Some, None, option_map, is_some}
use Rattle.lu_types.specs.FilePlans.{FilePlan, stands, needs, where_needed}
use Rattle.lu_types.specs.Tables.{TableField}
use Rattle.lu_types.specs.declared.kind.FileKind.TheVariants.{Fnm, Del}
use Rattle.lu_types.specs.declared.stored.SharedStore.{SharedStore}
use Rattle.lu_types.specs.declared.stored.Window.{Window}
use Rattle.field_infos.specs.Fnm.{fnm_plan}
use Rattle.stored_fields.specs.Values.{StoredDocument}
use Rattle.stored_fields.specs.Stores.{own_files, shared_files}
use Rattle.doc_marks.specs.Deletions.{del_plan}
use Rattle.segment_infos.specs.declared.infos.SegInfo.{SegInfo}
use Rattle.check_index.specs.Files.{IndexFiles}

-- for how many fields the line counts norm generations, where it counts any
abbrev pub norm_fields : SegInfo → Option ℕ
norm_fields line = option_map length line.norm_gens

-- the field table
abbrev pub field_files : IndexFiles → SegInfo → FilePlan (List TableField)
field_files files line = needs Fnm files.fnm (λ _. fnm_plan line.has_prox (norm_fields line)) (λ _ fields. stands fields)

-- which documents of a shared store a segment of so many takes
abbrev pub window_of : SharedStore → ℕ → Window
window_of store size = record { offset = store.offset; count = size }

-- the stored documents of a segment of so many, with so many fields: its own, or its part of a shared store
abbrev pub stored_files : Option SharedStore → ℕ → ℕ → Option (List ℕ) → Option (List ℕ) → FilePlan (List StoredDocument)
stored_files None size fields fdx fdt = own_files size fields fdx fdt
stored_files (Some store) size fields fdx fdt = shared_files (window_of store size) fields fdx fdt

-- the deleted documents; none where the line has no generation of them
abbrev pub deletion_files : Option (List ℕ) → SegInfo → FilePlan (List ℕ)
deletion_files del line = where_needed (is_some line.del_gen) [] (needs Del del (λ _. del_plan line.size line.deleted) (λ _ documents. stands documents))
