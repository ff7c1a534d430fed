-- What a new commit is built on, as the program holds it.
use Rattle.lu_dir.specs.Loading.{texts}
use Rattle.lu_changes.specs.declared.basis.Basis.{Basis}
use Rattle.lu_changes.specs.Building.{BasisValue}

-- the names, the commit, the generation, and whether the new segment is packed
abbrev pub basis_value : Basis → BasisValue
basis_value basis = record { names = texts basis.names.now; before = basis.before; generation = basis.generation; compound = basis.compound }
