use Rattle.std.proofs.Common.{◌≡◌, ◌≤◌, ◌^◌, take}
use Rattle.lu_dir.specs.Loading.{texts}
use Rattle.lu_folder.specs.Counting.{drawn}
use Rattle.lu_folder.proofs.numbering.drawn.Given as goal

abbrev pub invariant-loop-name : goal.invariant-loop-name
invariant-loop-name l = record { number : l.number ≡ drawn l.counted l.least (texts (take l.name-index l.names)); bound : l.number ≤ 2 ^ 63 }
