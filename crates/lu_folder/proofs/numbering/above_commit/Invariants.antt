use Rattle.std.proofs.Common.{◌≡◌, ◌≤◌, ◌^◌, take}
use Rattle.std.specs.List.{flat_map}
use Rattle.lu_folder.specs.Numbers.{above}
use Rattle.lu_folder.specs.Drawing.{line_numbers}
use Rattle.lu_folder.proofs.numbering.above_commit.Given as goal

abbrev pub invariant-loop-line : goal.invariant-loop-line
invariant-loop-line l = record { number : l.number ≡ above l.fn.commit.counter (flat_map line_numbers (take l.line-index l.line-items)); bound : l.number ≤ 2 ^ 32 }
