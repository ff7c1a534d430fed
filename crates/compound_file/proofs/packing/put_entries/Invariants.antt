use Rattle.std.proofs.Common.{◌≡◌, ◌+◌, ◌++◌, drop, map}
use Rattle.compound_file.specs.Packing.{entries_bytes, contents_size}
use Rattle.compound_file.specs.Packs.{part_of}
use Rattle.compound_file.proofs.packing.put_entries.Given as goal

-- what is written and the entries that are left are all
abbrev pub invariant-loop-part : goal.invariant-loop-part
invariant-loop-part l = record {
  left : l.out.items ++ entries_bytes l.next (drop l.part-index (map part_of l.parts)) ≡ l.fn.out.items ++ entries_bytes l.start (map part_of l.parts);
  room : l.next + contents_size (drop l.part-index (map part_of l.parts)) ≡ l.start + contents_size (map part_of l.parts);
}
