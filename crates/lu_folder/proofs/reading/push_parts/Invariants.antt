use Rattle.std.proofs.Common.{◌≡◌, ◌++◌, take}
use Rattle.lu_folder.specs.Reading.{parts_read}
use Rattle.lu_folder.proofs.reading.push_parts.Given as goal

-- the parts so far
abbrev pub invariant-loop-kind : goal.invariant-loop-kind
invariant-loop-kind l = l.names.items ≡ l.fn.names.items ++ parts_read l.info (take l.kind-index l.kinds)
