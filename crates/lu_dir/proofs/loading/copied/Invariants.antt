use Rattle.std.proofs.Common.{◌≡◌, take}
use Rattle.lu_dir.specs.Loading.{texts}
use Rattle.lu_dir.proofs.loading.copied.Given as goal

abbrev pub invariant-loop-name : goal.invariant-loop-name
invariant-loop-name l = texts l.copies.items ≡ texts (take l.name-index l.names)
