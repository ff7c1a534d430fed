use Rattle.std.proofs.Common.{◌≡◌, ◌++◌, drop, map}
use Rattle.compound_file.specs.Packing.{part_contents}
use Rattle.compound_file.specs.Packs.{part_of}
use Rattle.compound_file.proofs.packing.put_contents.Given as goal

-- what is written and the bytes that are left are all
abbrev pub invariant-loop-part : goal.invariant-loop-part
invariant-loop-part l = l.out.items ++ part_contents (drop l.part-index (map part_of l.parts)) ≡ l.fn.out.items ++ part_contents (map part_of l.parts)
