use Rattle.std.proofs.Common.{◌∙◌, ℕ, ◌<◌, ◌≤◌, List, length, ap, sym, subst, arith}
use Rattle.lu_model.specs.Contents.{merge_of}
use Rattle.lu_model.specs.Valid.{IsValid}
use Rattle.lu_model.proofs.Each.{each-from_all, each_at}
use Rattle.lu_model.proofs.Found.{get_in}
use Rattle.lu_model.proofs.Words.{IsIn}
use Rattle.stored_fields.specs.Writing.{HeldDocuments}
use Rattle.seg_merger.specs.Merged.{indexes_of}
use Rattle.seg_merger.proofs.JoinedLemmas.{numbers-at, numbers-count, numbers-new, source-in}
use Rattle.seg_merger.proofs.StoredLemmas.{fdt-past, fdx-past, sources-all, sources-stored, store-within}
use Rattle.seg_merger.proofs.stored.write_stored.Goals as goal

pub bounds-numbers-place : goal.bounds-numbers-place
bounds-numbers-place c =
    let many = numbers-count c.args.readers.now c.args.numbers.now c.requires.numbers in
    let lt = c.loop-place-test.true in
    omega (arith, many, lt)

pub write_source-requires-clause-closed : goal.write_source-requires-clause-closed
write_source-requires-clause-closed c = ap (λ (held : HeldDocuments). held.opened) c.loop-place.invariant

pub write_source-requires-clause-numbers : goal.write_source-requires-clause-numbers
write_source-requires-clause-numbers c =
    let sources = c.args.readers.now in
    let i = c.loop-place.place in
    let s = c.index-readers-place.result in
    let inside = subst (λ x. IsIn x sources) (sym c.index-readers-place.is) (get_in sources i s c.loop-place-test.true) in
    let are = c.as_slice.ensures.value ∙ numbers-at sources c.args.numbers.now i s c.index-numbers-place.result c.requires.numbers c.loop-place-test.true c.index-readers-place.is c.index-numbers-place.is in
    numbers-new sources s inside c.as_slice.result.now are c.requires.few

pub loop-place-preserved : goal.loop-place-preserved
loop-place-preserved c =
    let sources = c.args.readers.now in
    let i = c.loop-place.place in
    let s = c.index-readers-place.result in
    let inside = subst (λ x. IsIn x sources) (sym c.index-readers-place.is) (get_in sources i s c.loop-place-test.true) in
    let ok = each_at IsValid s.index (indexes_of sources) (each-from_all IsValid (indexes_of sources) c.requires.valid) (source-in sources s inside) in
    let are = c.as_slice.ensures.value ∙ numbers-at sources c.args.numbers.now i s c.index-numbers-place.result c.requires.numbers c.loop-place-test.true c.index-readers-place.is c.index-numbers-place.is in
    sources-stored sources i s inside ok c.as_slice.result.now are c.loop-place.writer c.write_source.new.writer c.loop-place-test.true c.index-readers-place.is c.loop-place.invariant c.in-Ok.ensures

pub returns-then-as_slice-limit : goal.returns-then-as_slice-limit
returns-then-as_slice-limit c =
    let sources = c.args.readers.now in
    let same = sources-all sources c.loop-place.place c.loop-place.writer c.loop-place-test.false c.loop-place.invariant in
    let files = c.finish-files.result in
    fdt-past c.args.limit (merge_of (indexes_of sources)).stored c.loop-place.writer.finished files.fdt files.fdx same c.finish-files.ensures.fdt c.finish-files.ensures.fdx (subst (λ (bytes : List ℕ). c.args.limit < length bytes) c.as_slice-2.ensures c.if-as_slice-limit.true)

pub returns-then-as_slice-limit-2 : goal.returns-then-as_slice-limit-2
returns-then-as_slice-limit-2 c =
    let sources = c.args.readers.now in
    let same = sources-all sources c.loop-place.place c.loop-place.writer c.loop-place-test.false c.loop-place.invariant in
    let files = c.finish-files.result in
    fdx-past c.args.limit (merge_of (indexes_of sources)).stored c.loop-place.writer.finished files.fdt files.fdx same c.finish-files.ensures.fdt c.finish-files.ensures.fdx (subst (λ (bytes : List ℕ). length bytes ≤ c.args.limit) c.as_slice-2.ensures c.if-as_slice-limit.false) (subst (λ (bytes : List ℕ). c.args.limit < length bytes) c.as_slice-3.ensures c.if-as_slice-limit-2.true)

pub returns : goal.returns
returns c =
    let sources = c.args.readers.now in
    let same = sources-all sources c.loop-place.place c.loop-place.writer c.loop-place-test.false c.loop-place.invariant in
    let files = c.finish-files.result in
    store-within c.args.limit (merge_of (indexes_of sources)).stored c.loop-place.writer.finished files.fdt files.fdx same c.finish-files.ensures.fdt c.finish-files.ensures.fdx (subst (λ (bytes : List ℕ). length bytes ≤ c.args.limit) c.as_slice-2.ensures c.if-as_slice-limit.false) (subst (λ (bytes : List ℕ). length bytes ≤ c.args.limit) c.as_slice-3.ensures c.if-as_slice-limit-2.false)
