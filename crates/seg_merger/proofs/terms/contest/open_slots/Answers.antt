use Rattle.std.proofs.Common.{◌≡◌, ℕ, ◌+◌, length, drop, sym, ap, ◌∙◌, arith}
use Rattle.std.specs.Global.{Global}
use Rattle.std.specs.declared.vec.Vec.{Vec}
use Rattle.lu_model.specs.Contents.{live}
use Rattle.check_index.specs.Segments.{SegmentValue}
use Rattle.seg_merger.specs.Merged.{indexes_of}
use Rattle.seg_merger.specs.TermRests.{whole_rest, whole_rests}
use Rattle.seg_merger.proofs.OpenLemmas.{drop-index, drop-numbers, left_live, room-here, room-next, slots-next, valid-next, zip-at, zip-length}
use Rattle.seg_merger.proofs.terms.contest.open_slots.Goals as goal

pub number_documents-requires : goal.number_documents-requires
number_documents-requires c =
    let s = c.index-readers-place.result in
    let at = drop-index c.args.readers.now c.loop-place.place s c.loop-place-test.true c.index-readers-place.is in
    room-here c.loop-place.base (left_live (indexes_of c.args.readers.now)) (drop c.loop-place.place (indexes_of c.args.readers.now)) (drop (c.loop-place.place + 1) (indexes_of c.args.readers.now)) s.index at c.loop-place.invariant.room c.requires.few

pub bounds-numbers-place : goal.bounds-numbers-place
bounds-numbers-place c = let same = zip-length _ c.args.readers.now c.args.numbers.now c.requires.numbers in let low = c.loop-place-test.true in omega (arith, same, low)

pub open-requires-clause-fields : goal.open-requires-clause-fields
open-requires-clause-fields c =
    let s = c.index-readers-place.result in
    let ns = c.index-numbers-place.result in
    let both = zip-at (λ (s : SegmentValue) (ns : Vec ℕ Global). length ns.items ≡ length s.index.fields) c.args.readers.now c.args.numbers.now c.loop-place.place s ns c.requires.numbers c.loop-place-test.true in
    ap length (c.as_slice-fields.ensures.value ∙ ap (λ (v : Vec ℕ Global). v.items) c.index-numbers-place.is) ∙ both ∙ ap (λ (v : SegmentValue). length v.index.fields) (sym c.index-readers-place.is)

pub loop-place-preserved : goal.loop-place-preserved
loop-place-preserved c =
    let s = c.index-readers-place.result in
    let ns = c.index-numbers-place.result in
    let k = c.loop-place.place in
    let indexes = indexes_of c.args.readers.now in
    let at = drop-index c.args.readers.now k s c.loop-place-test.true c.index-readers-place.is in
    let same = zip-length _ c.args.readers.now c.args.numbers.now c.requires.numbers in
    let low = c.loop-place-test.true in
    let beside = drop-numbers c.args.numbers.now k ns (omega (arith, same, low)) c.index-numbers-place.is in
    let base = c.in_ok-numbered.ensures.base in
    let moved : c.in_ok-numbered.numbered.next ≡ c.loop-place.base + length (live s.index) = c.in_ok-numbered.ensures.numbers.next ∙ ap (λ n. n + length (live s.index)) base in
    record {
      slots = slots-next c.loop-place.slots.items c.push.new.self.items (whole_rests 0 indexes c.args.numbers.now) c.in_ok-open.field-0 c.loop-place.base c.in_ok-numbered.numbered.next (drop k indexes) (drop (k + 1) indexes) s.index (drop k c.args.numbers.now) (drop (k + 1) c.args.numbers.now) ns c.as_slice-fields.result.now
          c.in_ok-push.ensures.items (c.in_ok-open.ensures ∙ ap (λ n. whole_rest n s.index c.as_slice-fields.result.now) base) c.as_slice-fields.ensures.value moved at beside c.loop-place.invariant.slots;
      valid = valid-next c.args.readers.now k s c.loop-place-test.true c.index-readers-place.is c.size-size.ensures.valid c.loop-place.invariant.valid;
      room = room-next c.loop-place.base c.in_ok-numbered.numbered.next (left_live indexes) (drop k indexes) (drop (k + 1) indexes) s.index at moved c.loop-place.invariant.room;
    }
