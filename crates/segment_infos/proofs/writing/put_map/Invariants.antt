use Rattle.std.proofs.Common.{◌≡◌, ◌++◌, length, take, flat_map, pos}
use Rattle.lu_grammar.specs.Parts.{int32, spelling}
use Rattle.segment_infos.specs.Spelling.{pair_bytes}
use Rattle.segment_infos.proofs.writing.put_map.Given as goal

-- what is written so far
abbrev pub invariant-loop-pair : goal.invariant-loop-pair
invariant-loop-pair l = l.out.items ≡ l.fn.out.items ++ (spelling int32 (pos (length l.pairs)) ++ flat_map pair_bytes (take l.pair-index l.pairs))
