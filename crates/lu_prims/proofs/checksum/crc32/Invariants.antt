use Rattle.std.proofs.Common.{◌≡◌, take}
use Rattle.lu_prims.specs.Checksum.{message}
use Rattle.lu_prims.proofs.Division.{fed}
use Rattle.lu_prims.proofs.checksum.crc32.Given as goal

abbrev pub invariant-loop-byte : goal.invariant-loop-byte
invariant-loop-byte l = l.register ≡ fed (message (take l.byte-index l.bytes)) 0xFFFF_FFFF
