use Rattle.std.proofs.Common.{◌≡◌, ◌+◌, ◌≤◌, drop, map}
use Rattle.compound_file.specs.Packing.{contents_size}
use Rattle.compound_file.specs.Packs.{part_of}
use Rattle.compound_file.proofs.packing.size_within.Given as goal

-- so far and what is left are the whole, and so far the limit is kept
abbrev pub invariant-loop-part : goal.invariant-loop-part
invariant-loop-part l = record {
  left : l.size + contents_size (drop l.part-index (map part_of l.parts)) ≡ l.directory + contents_size (map part_of l.parts);
  within : l.size ≤ l.limit;
}
