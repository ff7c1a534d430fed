-- Which files of a segment a command needs, in order, and what they stand for.
use Rattle.std.specs.Prelude.{ℕ, true, List, [], ◌∷◌, length, Option, None}
use Rattle.lu_types.specs.Tables.{TableField}
use Rattle.lu_types.specs.FilePlans.{FilePlan, stands, needs, followed_by}
use Rattle.lu_types.specs.declared.kind.FileKind.{FileKind}
use Rattle.lu_types.specs.declared.kind.FileKind.TheVariants.{Fnm, Fdx, Fdt}
use Rattle.field_infos.specs.Fnm.{fnm_plan}
use Rattle.stored_fields.specs.Values.{StoredDocument}
use Rattle.stored_fields.specs.Stores.{all_files}

-- the files that `fields` reads, in order
abbrev pub fields_kinds : List FileKind
fields_kinds = Fnm ∷ []

-- the files that `docs` reads, in order
abbrev pub docs_kinds : List FileKind
docs_kinds = Fnm ∷ Fdx ∷ Fdt ∷ []

-- the field table of a segment of which no commit tells more
abbrev pub table_files : Option (List ℕ) → FilePlan (List TableField)
table_files fnm = needs Fnm fnm (λ _. fnm_plan true None) (λ _ table. stands table)

-- its stored documents, behind the field table, which tells how many fields there are
abbrev pub document_files : Option (List ℕ) → Option (List ℕ) → Option (List ℕ) → FilePlan (List StoredDocument)
document_files fnm fdx fdt = followed_by (table_files fnm) (λ table. all_files (length table) fdx fdt)
