use Rattle.std.proofs.Common.{◌≡◌, ◌++◌}
use Rattle.std.specs.List.{flat_map}
use Rattle.std.specs.Vec.Iter.{into_iter_items}
use Rattle.lu_changes.specs.Deleting.{file_of}
use Rattle.lu_changes.proofs.deleting.new_files.Given as goal

-- the files so far, and those of the markings that are left
abbrev pub invariant-loop-marking : goal.invariant-loop-marking
invariant-loop-marking l = l.files.items ++ flat_map file_of (into_iter_items l.marking-iterator) ≡ flat_map file_of l.fn.markings.items
