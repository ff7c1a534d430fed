use Rattle.lu_prims.proofs.Quotients.{leaves, only_one}
use Rattle.lu_prims.proofs.checksum.crc32_divides.Goals as goal

pub returns-clause-left : goal.returns-clause-left
returns-clause-left c = leaves

pub returns-clause-only : goal.returns-clause-only
returns-clause-only c = only_one
