use Rattle.std.proofs.Common.{◌≡◌, ◌++◌, take}
use Rattle.segment_infos.specs.Referring.{names_of_parts}
use Rattle.segment_infos.proofs.removing.push_parts.Given as goal

-- the parts so far
abbrev pub invariant-loop-kind : goal.invariant-loop-kind
invariant-loop-kind l = l.names.items ≡ l.fn.names.items ++ names_of_parts l.number (take l.kind-index l.kinds)
