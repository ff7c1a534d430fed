use Rattle.std.proofs.Common.{map, arith}
use Rattle.compound_file.specs.Packs.{part_of}
use Rattle.compound_file.proofs.PackLemmas.{length-cfs_bytes}
use Rattle.compound_file.proofs.packing.pack_parts.Goals as goal

pub returns-in_default : goal.returns-in_default
returns-in_default c = omega (arith, c.in_default.ensures, c.directory_len-start.ensures, length-cfs_bytes (map part_of c.args.parts.now))

pub returns-in-Ok : goal.returns-in-Ok
returns-in-Ok c = (c.in-Ok.ensures, omega (arith, c.in-Some.ensures.0, c.in-Some.ensures.1, c.directory_len-start.ensures, length-cfs_bytes (map part_of c.args.parts.now)))
