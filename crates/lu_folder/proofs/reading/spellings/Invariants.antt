use Rattle.std.proofs.Common.{◌≡◌, map, take}
use Rattle.lu_dir.specs.Loading.{texts}
use Rattle.segment_infos.specs.LuceneNames.{name_spelling}
use Rattle.lu_folder.proofs.reading.spellings.Given as goal

-- the spellings so far
abbrev pub invariant-loop-name : goal.invariant-loop-name
invariant-loop-name l = texts l.spelled.items ≡ map name_spelling (take l.name-index l.names)
