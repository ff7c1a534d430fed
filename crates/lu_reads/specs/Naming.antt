-- The names that files of a commit have in the folder (docs/FORMAT.md, "Names of files").
use Rattle.std.specs.Prelude.{ℕ, zero, suc, ℤ, pos, negsuc, List, [], Option, Some, None, option_map, unwrap_or, slice_get, if◌then◌else◌}
use Rattle.lu_types.specs.declared.kind.FileKind.{FileKind}
use Rattle.lu_types.specs.declared.kind.FileKind.TheVariants as kinds
use Rattle.lu_types.specs.declared.stored.SharedStore.{SharedStore}
use Rattle.segment_infos.specs.declared.infos.SegInfo.{SegInfo}
use Rattle.segment_infos.specs.declared.naming.LuceneName.{LuceneName}
use Rattle.segment_infos.specs.declared.naming.LuceneName.TheVariants.{Part, Del, Sep}
use Rattle.segment_infos.specs.LuceneNames.{name_spelling, is_generation_number}
use Rattle.lu_folder.specs.ChangeValues.{commit_name}

-- whose files of documents a segment has: those of its shared store, or its own
abbrev pub owner_of : Option SharedStore → ℕ → ℕ
owner_of None number = number
owner_of (Some store) number = store.number

-- the file of a field's norms, where their generation is that of a file
abbrev pub norm_name : ℕ → ℕ → Option ℤ → Option LuceneName
norm_name number field None = None
norm_name number field (Some (pos zero)) = None
norm_name number field (Some (pos (suc n))) = Some (Sep number (suc n) field)
norm_name number field (Some (negsuc n)) = None

-- the name that the segment's file of a kind has in the folder, where it is outside a compound file; none where the line has no such file
abbrev pub file_name : SegInfo → FileKind → Option LuceneName
file_name line kinds.Commit = None
file_name line kinds.Cfs = Some (Part line.number kinds.Cfs)
file_name line kinds.Cfx = Some (Part (owner_of line.store line.number) kinds.Cfx)
file_name line kinds.Fnm = Some (Part line.number kinds.Fnm)
file_name line kinds.Fdx = Some (Part (owner_of line.store line.number) kinds.Fdx)
file_name line kinds.Fdt = Some (Part (owner_of line.store line.number) kinds.Fdt)
file_name line kinds.Tis = Some (Part line.number kinds.Tis)
file_name line kinds.Tii = Some (Part line.number kinds.Tii)
file_name line kinds.Frq = Some (Part line.number kinds.Frq)
file_name line kinds.Prx = Some (Part line.number kinds.Prx)
file_name line kinds.Nrm = Some (Part line.number kinds.Nrm)
file_name line (kinds.Sep field) = norm_name line.number field (slice_get (unwrap_or line.norm_gens []) field)
file_name line kinds.Del = option_map (Del line.number) line.del_gen
file_name line kinds.Tvx = Some (Part (owner_of line.store line.number) kinds.Tvx)
file_name line kinds.Tvd = Some (Part (owner_of line.store line.number) kinds.Tvd)
file_name line kinds.Tvf = Some (Part (owner_of line.store line.number) kinds.Tvf)

-- the spelling of a name, and no text where there is none
abbrev pub shown : Option LuceneName → List ℕ
shown name = unwrap_or (option_map name_spelling name) []

-- the name of the commit of this generation, and no text where the number is that of none
abbrev pub commit_shown : ℕ → List ℕ
commit_shown generation = (if is_generation_number generation then commit_name generation else [])
