use Rattle.std.proofs.Common.{◌≡◌, ◌+◌, length, arith}
use Rattle.lu_model.specs.Valid.{IsValid}
use Rattle.lu_model.proofs.Each.{all-from_each}
use Rattle.seg_merger.specs.Merged.{indexes_of}
use Rattle.seg_merger.proofs.CountLemmas.{counted-all, counted-next, counted-valid}
use Rattle.seg_merger.proofs.LiveLemmas.{length-live}
use Rattle.seg_merger.proofs.merging.live_count.Goals as goal

pub overflow_sub-size : goal.overflow_sub-size
overflow_sub-size c =
    let all = length-live c.reader-item.result.index c.size.ensures.valid in
    let size = c.size.ensures.size in
    let deleted = c.deleted.ensures in
    omega (arith, all, size, deleted)

pub overflow_add-count : goal.overflow_add-count
overflow_add-count c =
    let low = c.loop-reader.invariant.low in
    let small = c.size.ensures.valid.small in
    let size = c.size.ensures.size in
    let few = c.requires in
    let lt = c.loop-reader-test.true in
    let more = c.from-count.ensures in
    omega (arith, low, small, size, few, lt, more)

pub loop-reader-preserved : goal.loop-reader-preserved
loop-reader-preserved c =
    let s = c.reader-item.result in
    let all = length-live s.index c.size.ensures.valid in
    let size = c.size.ensures.size in
    let deleted = c.deleted.ensures in
    let more = c.from-count.ensures in
    let here : c.from-count.result + length s.index.deleted ≡ s.index.size = omega (arith, all, size, deleted, more) in
    counted-next c.args.readers.now c.loop-reader.reader-index c.loop-reader.count c.from-count.result s c.loop-reader-test.true c.reader-item.is c.size.ensures.valid here c.loop-reader.invariant

pub returns-clause-count : goal.returns-clause-count
returns-clause-count c = counted-all c.args.readers.now c.loop-reader.reader-index c.loop-reader.count c.loop-reader-test.false c.loop-reader.invariant

pub returns-clause-valid : goal.returns-clause-valid
returns-clause-valid c =
    all-from_each IsValid (indexes_of c.args.readers.now) (counted-valid c.args.readers.now c.loop-reader.reader-index c.loop-reader.count c.loop-reader-test.false c.loop-reader.invariant)
