use Rattle.std.proofs.Common.{◌≡◌, take, map, filter, All, List, string_bytes}
use Rattle.segment_infos.specs.declared.naming.LuceneName.{LuceneName}
use Rattle.segment_infos.specs.Keeping.{HasOwnSpelling, HasNames, is_free}
use Rattle.segment_infos.proofs.removing.free_names.Given as goal

-- the free names so far
abbrev pub invariant-loop-name : goal.invariant-loop-name
invariant-loop-name l = (all : List LuceneName) → All HasOwnSpelling all → HasNames l.kept all → map string_bytes l.found.items ≡ filter (is_free all) (map string_bytes (take l.name-index l.names))
