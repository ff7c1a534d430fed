use Rattle.std.proofs.Common.{◌≡◌, ◌≤◌, ◌++◌, drop, map, length, filter_map, All}
use Rattle.lu_grammar.specs.Bytes.{IsBytes}
use Rattle.lu_types.specs.Names.{segment_name}
use Rattle.lu_types.specs.Kinds.{part_kinds}
use Rattle.compound_file.specs.Packing.{file_of, packed_in, packed_parts}
use Rattle.compound_file.specs.Packs.{part_of}
use Rattle.compound_file.proofs.packing.parts_of.Given as goal

-- the parts so far and those of the kinds that are left are all, and no more than the kinds so far; what they hold is bytes
abbrev pub invariant-loop-kind : goal.invariant-loop-kind
invariant-loop-kind l = record {
  left : map part_of l.parts.items ++ map (packed_in (segment_name l.number)) (filter_map (file_of l.files) (drop l.kind-index part_kinds)) ≡ packed_parts l.number l.files;
  few : length l.parts.items ≤ l.kind-index;
  bytes : All (λ part. IsBytes part.bytes.now) l.parts.items;
}
