-- The files that are read for a segment, in the order in which files are checked (docs/FORMAT.md, "Commits in a folder").
use Rattle.std.specs.Prelude.{ℕ, List, ◌++◌, map, Option, Some, None, if◌then◌else◌, option_map, option_and_then, slice_get}
use Rattle.std.specs.List.{filter_map}
use Rattle.lu_types.specs.declared.kind.FileKind.{FileKind}
use Rattle.lu_types.specs.declared.kind.FileKind.TheVariants as kinds
use Rattle.lu_types.specs.declared.stored.SharedStore.{SharedStore}
use Rattle.lu_types.specs.Kinds.{front_kinds, vector_kinds}
use Rattle.lu_dir.specs.Files.{Files}
use Rattle.lu_dir.specs.Loading.{first_over}
use Rattle.segment_infos.specs.declared.infos.SegInfo.{SegInfo}
use Rattle.segment_infos.specs.declared.naming.LuceneName.{LuceneName}
use Rattle.segment_infos.specs.declared.naming.LuceneName.TheVariants.{Commit, Part, Del, Sep}
use Rattle.segment_infos.specs.LuceneNames.{name_spelling}
use Rattle.segment_infos.specs.Referring.{del_names, norm_names}
use Rattle.lu_folder.specs.Limits.{file_limit}

-- the number of a segment that has its own parts outside a compound file
abbrev pub own_part : SegInfo → Option ℕ
own_part line = (if line.compound then None else Some line.number)

-- the number of a shared store that is compound
abbrev pub packed_store : Option SharedStore → Option ℕ
packed_store None = None
packed_store (Some store) = (if store.compound then Some store.number else None)

-- the number of the store that has the files of documents outside a compound file; without a store, of the segment
abbrev pub document_part : Option SharedStore → Option ℕ → Option ℕ
document_part None own = own
document_part (Some store) own = (if store.compound then None else Some store.number)

-- the number of the segment or the store whose file of this kind is read; none where none is
abbrev pub holder : SegInfo → FileKind → Option ℕ
holder line kinds.Commit = None
holder line kinds.Cfs = (if line.compound then Some line.number else None)
holder line kinds.Cfx = packed_store line.store
holder line kinds.Fnm = own_part line
holder line kinds.Fdx = document_part line.store (own_part line)
holder line kinds.Fdt = document_part line.store (own_part line)
holder line kinds.Tis = own_part line
holder line kinds.Tii = own_part line
holder line kinds.Frq = own_part line
holder line kinds.Prx = (if line.has_prox then own_part line else None)
holder line kinds.Nrm = own_part line
holder line (kinds.Sep field) = None
holder line kinds.Del = None
holder line kinds.Tvx = document_part line.store (own_part line)
holder line kinds.Tvd = document_part line.store (own_part line)
holder line kinds.Tvf = document_part line.store (own_part line)

-- the parts of these kinds that are read
abbrev pub parts_read : SegInfo → List FileKind → List LuceneName
parts_read line some = filter_map (λ kind. option_map (λ number. Part number kind) (holder line kind)) some

-- the names of the files that are read for a segment
abbrev pub read_names : SegInfo → List LuceneName
read_names line =
    parts_read line front_kinds ++ (norm_names line.number line.norm_gens ++ (del_names line.number line.del_gen ++ parts_read line vector_kinds))

-- the kind of the file that a name names
abbrev pub kind_of_name : LuceneName → FileKind
kind_of_name (Commit generation) = kinds.Commit
kind_of_name (Part segment kind) = kind
kind_of_name (Del segment generation) = kinds.Del
kind_of_name (Sep segment generation field) = kinds.Sep field

-- the kind of the first of these files that has more bytes than are read
abbrev pub first_too_large : Files → List LuceneName → Option FileKind
first_too_large files names =
    option_and_then (λ place. option_map kind_of_name (slice_get names place)) (first_over files file_limit (map name_spelling names))
