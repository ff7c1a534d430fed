use Rattle.std.proofs.Common.{◌≡◌, ◌++◌, length, take, flat_map, pos}
use Rattle.lu_grammar.specs.Parts.{int32, int64, spelling}
use Rattle.segment_infos.proofs.writing.put_gens.Given as goal

-- what is written so far
abbrev pub invariant-loop-generation : goal.invariant-loop-generation
invariant-loop-generation l = l.out.items ≡ l.fn.out.items ++ (spelling int32 (pos (length l.gens)) ++ flat_map (spelling int64) (take l.generation-index l.gens))
