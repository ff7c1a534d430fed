use Rattle.std.proofs.Common.{◌≡◌, ◌++◌, map, All}
use Rattle.std.specs.Vec.Iter.{into_iter_items}
use Rattle.lu_types.specs.Names.{IsPart}
use Rattle.lu_types.specs.declared.named_file.NamedFile.{NamedFile}
use Rattle.lu_changes.specs.Building.{new_file}
use Rattle.lu_changes.proofs.new_segment.new_files.Given as goal

-- the files so far, and those that are left, which are parts
abbrev pub invariant-loop-file : goal.invariant-loop-file
invariant-loop-file l = record {
  all : l.new.items ++ map (new_file l.number) (into_iter_items l.file-iterator) ≡ map (new_file l.number) l.fn.files.items;
  left : All (λ (file : NamedFile). IsPart file.kind) (into_iter_items l.file-iterator);
}
