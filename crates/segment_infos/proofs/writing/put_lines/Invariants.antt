use Rattle.std.proofs.Common.{◌≡◌, ◌++◌, [], take, flat_map}
use Rattle.segment_infos.specs.Spelling.{line_bytes}
use Rattle.segment_infos.proofs.writing.put_lines.Given as goal

-- what is written so far
abbrev pub invariant-loop-info : goal.invariant-loop-info
invariant-loop-info l = l.out.items ≡ l.fn.out.items ++ ([] ++ flat_map line_bytes (take l.info-index l.segments))
