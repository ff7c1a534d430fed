use Rattle.std.proofs.Common.{◌∙◌, sym, subst, arith}
use Rattle.lu_model.specs.Valid.{IsValid}
use Rattle.lu_model.proofs.Each.{each-from_all, each_at}
use Rattle.lu_model.proofs.Found.{get_in}
use Rattle.lu_model.proofs.Words.{IsIn}
use Rattle.seg_merger.specs.Merged.{AreFieldNumbers, indexes_of}
use Rattle.seg_merger.specs.VectorSteps.{AreJoined}
use Rattle.seg_merger.proofs.JoinedLemmas.{numbers-at, numbers-count, numbers-joined, numbers-many, source-in}
use Rattle.seg_merger.proofs.VectorSourceLemmas.{sources-held, sources-vectors}
use Rattle.seg_merger.proofs.vectors.written_vectors.Goals as goal

pub bounds-numbers-place : goal.bounds-numbers-place
bounds-numbers-place c =
    let are = subst (λ t. AreFieldNumbers t c.args.readers.now c.args.numbers.now) c.requires.table c.requires.numbers in
    let many = numbers-count c.args.readers.now c.args.numbers.now are in
    let lt = c.loop-place-test.true in
    omega (arith, many, lt)

pub write_source-requires-clause-joined : goal.write_source-requires-clause-joined
write_source-requires-clause-joined c =
    let sources = c.args.readers.now in
    let i = c.loop-place.place in
    let s = c.index-readers-place.result in
    let all = subst (λ t. AreFieldNumbers t sources c.args.numbers.now) c.requires.table c.requires.numbers in
    let inside = subst (λ x. IsIn x sources) (sym c.index-readers-place.is) (get_in sources i s c.loop-place-test.true) in
    let are = c.as_slice.ensures.value ∙ numbers-at sources c.args.numbers.now i s c.index-numbers-place.result all c.loop-place-test.true c.index-readers-place.is c.index-numbers-place.is in
    subst (λ t. AreJoined t c.as_slice.result.now) (sym c.requires.table) (numbers-joined sources s inside c.as_slice.result.now are)

pub write_source-requires-clause-many : goal.write_source-requires-clause-many
write_source-requires-clause-many c =
    let sources = c.args.readers.now in
    let i = c.loop-place.place in
    let s = c.index-readers-place.result in
    let all = subst (λ t. AreFieldNumbers t sources c.args.numbers.now) c.requires.table c.requires.numbers in
    let inside = subst (λ x. IsIn x sources) (sym c.index-readers-place.is) (get_in sources i s c.loop-place-test.true) in
    let are = c.as_slice.ensures.value ∙ numbers-at sources c.args.numbers.now i s c.index-numbers-place.result all c.loop-place-test.true c.index-readers-place.is c.index-numbers-place.is in
    numbers-many sources s inside c.as_slice.result.now are

pub loop-place-preserved : goal.loop-place-preserved
loop-place-preserved c =
    let sources = c.args.readers.now in
    let i = c.loop-place.place in
    let s = c.index-readers-place.result in
    let all = subst (λ t. AreFieldNumbers t sources c.args.numbers.now) c.requires.table c.requires.numbers in
    let inside = subst (λ x. IsIn x sources) (sym c.index-readers-place.is) (get_in sources i s c.loop-place-test.true) in
    let ok = each_at IsValid s.index (indexes_of sources) (each-from_all IsValid (indexes_of sources) c.requires.valid) (source-in sources s inside) in
    let are = c.as_slice.ensures.value ∙ numbers-at sources c.args.numbers.now i s c.index-numbers-place.result all c.loop-place-test.true c.index-readers-place.is c.index-numbers-place.is in (
      c.in-Ok.ensures.whole,
      sources-vectors sources c.args.table.now c.requires.table i s inside ok c.as_slice.result.now are c.loop-place.writer c.write_source.new.writer c.loop-place-test.true c.index-readers-place.is c.loop-place.invariant.1 c.in-Ok.ensures.written,
    )

pub returns : goal.returns
returns c =
    sources-held c.args.readers.now c.args.table.now c.requires.table (each-from_all IsValid (indexes_of c.args.readers.now) c.requires.valid) c.loop-place.place c.loop-place.writer c.loop-place-test.false c.loop-place.invariant.1
