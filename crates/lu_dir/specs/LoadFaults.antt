-- What a failure of the outside is to a loading call.
use Rattle.lu_dir.specs.declared.fail.DirFail.{DirFail}
use Rattle.lu_dir.specs.declared.fail.DirFail.TheVariants as dir
use Rattle.lu_dir.specs.declared.loading.LoadFault.{LoadFault}
use Rattle.lu_dir.specs.declared.loading.LoadFault.TheVariants as load

-- want of memory
abbrev pub no_memory : LoadFault
no_memory = load.OutOfMemory

-- the same failure
abbrev pub load_fault : DirFail → LoadFault
load_fault dir.Failed = load.Failed
load_fault dir.OutOfMemory = load.OutOfMemory
