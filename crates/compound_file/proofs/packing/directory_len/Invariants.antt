use Rattle.std.proofs.Common.{◌≡◌, ◌+◌, ◌*◌, ◌≤◌, sum_by, drop, map}
use Rattle.compound_file.specs.Packing.{entry_size, directory_size}
use Rattle.compound_file.specs.Packs.{part_of}
use Rattle.compound_file.proofs.packing.directory_len.Given as goal

-- so far and what is left are the whole, and each entry is short
abbrev pub invariant-loop-part : goal.invariant-loop-part
invariant-loop-part l = record {
  left : l.size + sum_by entry_size (drop l.part-index (map part_of l.parts)) ≡ directory_size (map part_of l.parts);
  small : l.size ≤ 1 + 137 * l.part-index;
}
