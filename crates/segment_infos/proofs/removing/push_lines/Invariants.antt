use Rattle.std.proofs.Common.{◌≡◌, ◌++◌, [], take, flat_map}
use Rattle.segment_infos.specs.Referring.{line_names}
use Rattle.segment_infos.proofs.removing.push_lines.Given as goal

-- the names of the lines so far
abbrev pub invariant-loop-line : goal.invariant-loop-line
invariant-loop-line l = l.names.items ≡ l.fn.names.items ++ ([] ++ flat_map line_names (take l.line-index l.lines))
