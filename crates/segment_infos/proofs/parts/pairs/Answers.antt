use Rattle.lu_grammar.specs.Records.{read_shape}
use Rattle.segment_infos.specs.Records.{many, pair_shape}
use Rattle.segment_infos.proofs.Pieces.{more-read, more-stopped, more-none, more-begin}
use Rattle.segment_infos.proofs.parts.pairs.Goals as goal

pub loop-init : goal.loop-init
loop-init c = rw c.new-pairs.ensures.items (more-begin pair_shape c.args.count c.args.cur.now)

pub returns-in-Err : goal.returns-in-Err
returns-in-Err c =
    more-stopped pair_shape c.args.count c.loop.counter c.loop.pairs.items (read_shape (many pair_shape c.args.count) c.args.cur.now) c.loop.cur c.pair_parts.new.cur c.pair_parts.new.cur c.in-Err.stop c.loop-test.true c.loop.invariant
    c.in-Err.ensures

pub loop-preserved : goal.loop-preserved
loop-preserved c =
    rw c.in_ok-push-in-Ok.ensures.items
    (more-read pair_shape c.args.count c.loop.counter c.loop.pairs.items (read_shape (many pair_shape c.args.count) c.args.cur.now) c.loop.cur c.in-Ok.pair c.pair_parts.new.cur c.loop-test.true c.loop.invariant c.in-Ok.ensures)

pub returns : goal.returns
returns c =
    rw c.new.ensures (more-none pair_shape c.args.count c.loop.counter c.loop.pairs.items (read_shape (many pair_shape c.args.count) c.args.cur.now) c.loop.cur c.loop-test.false c.loop.invariant)
