use Rattle.std.proofs.Common.{◌≡◌, ◌∙◌, ap, take, arith}
use Rattle.std.proofs.lemmas.List.{take_all}
use Rattle.lu_prims.specs.Checksum.{message}
use Rattle.lu_prims.proofs.Division.{fed}
use Rattle.lu_prims.proofs.Remainders.{register_first, register_more, checksum_is}
use Rattle.lu_prims.proofs.checksum.crc32.Goals as goal

pub loop-byte-init : goal.loop-byte-init
loop-byte-init c = register_first

pub loop-byte-preserved : goal.loop-byte-preserved
loop-byte-preserved c =
    register_more c.args.bytes.now c.loop-byte.byte-index c.loop-byte.register c.from.result c.remainder_of.result c.loop-byte-test.true c.from.ensures (omega (arith, c.type_inv.bytes c.loop-byte.byte-index, c.from.ensures)) c.loop-byte.invariant c.remainder_of.ensures

pub returns : goal.returns
returns c =
    let all : take c.loop-byte.byte-index c.args.bytes.now ≡ c.args.bytes.now = take_all c.loop-byte.byte-index c.args.bytes.now (omega arith) in
    checksum_is c.args.bytes.now c.loop-byte.register (c.loop-byte.invariant ∙ ap (λ x. fed (message x) 0xFFFF_FFFF) all)
