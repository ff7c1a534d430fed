use Rattle.std.proofs.Common.{◌-◌, ◌<◌, ℕ, List, [], ap, subst, sym, ◌∙◌, arith}
use Rattle.lu_types.specs.declared.kind.FileKind.TheVariants.{Tvf}
use Rattle.lu_types.specs.Judging.{IsBrokenSo}
use Rattle.lu_grammar.specs.Bytes.{Cursor}
use Rattle.lu_grammar.proofs.Codecs.{err_is_not_ok}
use Rattle.term_vectors.specs.Fields.{VectorPlace, placed}
use Rattle.term_vectors.proofs.Steps.{Continues}
use Rattle.term_vectors.proofs.FieldLemmas.{reads_further}
use Rattle.term_vectors.proofs.VectorLemmas.{reads_vectors, vectors-left, vectors-broken, vectors-done}
use Rattle.term_vectors.proofs.WasRead.{document_was, numbers_from, document-none, document-some}
use Rattle.term_vectors.proofs.WalkLemmas.{slot, Continues-passes}
use Rattle.term_vectors.proofs.checking.pass_vectors.Goals as goal

pub unreachable-requires : goal.unreachable-requires
unreachable-requires c =
    let (x, e) = c.requires in
    let was = document_was c.args.places c.args.beside.now x.0 x.1 e in
    err_is_not_ok (sym c.in-Err.ensures.takes.0 ∙ was.counted)

pub skip_numbers-requires : goal.skip_numbers-requires
skip_numbers-requires c =
    let (x, e) = c.requires in
    let was = document_was c.args.places c.args.beside.now x.0 x.1 e in
    ((was.numbers, was.behind), (numbers_from c.args.places c.args.beside.now x.0 x.1 was c.in-Ok.count c.num.new.self c.in-Ok.ensures.takes).0)

pub returns-then-count-eq0 : goal.returns-then-count-eq0
returns-then-count-eq0 c = λ slots d e.
    let was = document_was c.args.places c.args.beside.now slots d e in
    let from = numbers_from c.args.places c.args.beside.now slots d was c.in-Ok.count c.num.new.self c.in-Ok.ensures.takes in
    let none = document-none c.args.places c.args.beside.now slots d was (sym from.1 ∙ c.if-count-eq0.true) in
    (([], ap (λ (ss : List VectorPlace). reads_vectors ss c.args.here.now) none.0 ∙ vectors-done c.args.here.now), c.skip_numbers.ensures was.numbers was.behind from.0 ∙ none.1)

pub returns-in-Err-pass_vector : goal.returns-in-Err-pass_vector
returns-in-Err-pass_vector c = λ slots d e.
    let was = document_was c.args.places c.args.beside.now slots d e in
    let from = numbers_from c.args.places c.args.beside.now slots d was c.in-Ok.count c.num.new.self c.in-Ok.ensures.takes in
    let some : 0 < was.count = omega (arith, from.1) in
    let first = document-some c.args.places c.args.beside.now slots d was some in (
      subst (λ (ss : List VectorPlace). IsBrokenSo Tvf (reads_vectors ss c.args.here.now) c.in-Err-pass_vector.fault) (sym first.all)
          (vectors-broken Tvf (slot first.field c.args.places.tvf) (placed first.numbers was.further) c.args.here.now c.in-Err-pass_vector.fault (c.in-Err-pass_vector.ensures first.field)),
      tt,
    )

pub pass_further-requires : goal.pass_further-requires
pass_further-requires c =
    let (x, e) = c.requires in
    let was = document_was c.args.places c.args.beside.now x.0 x.1 e in
    let from = numbers_from c.args.places c.args.beside.now x.0 x.1 was c.in-Ok.count c.num.new.self c.in-Ok.ensures.takes in (
      (was.further, x.1),
      ap (λ (k : ℕ). reads_further (k - 1) c.args.places.tvf c.skip_numbers.new.beside) from.1
          ∙ ap (λ (b : Cursor). reads_further (was.count - 1) c.args.places.tvf b) (c.skip_numbers.ensures was.numbers was.behind from.0) ∙ was.placed_so,
    )

pub returns : goal.returns
returns c = λ slots d e.
    let was = document_was c.args.places c.args.beside.now slots d e in
    let from = numbers_from c.args.places c.args.beside.now slots d was c.in-Ok.count c.num.new.self c.in-Ok.ensures.takes in
    let some : 0 < was.count = omega (arith, from.1) in
    let first = document-some c.args.places c.args.beside.now slots d was some in
    let (v, there) = c.in_default.ensures first.field in
    let left = vectors-left (slot first.field c.args.places.tvf) (placed first.numbers was.further) c.args.here.now v c.pass_vector.new.here there in
    let rest = reads_vectors (placed first.numbers was.further) c.pass_vector.new.here in
    let many = first.many ∙ ap (λ (k : ℕ). k - 1) (sym from.1) in
    let reads = ap (λ (k : ℕ). reads_further (k - 1) c.args.places.tvf c.skip_numbers.new.beside) from.1
    ∙ ap (λ (b : Cursor). reads_further (was.count - 1) c.args.places.tvf b) (c.skip_numbers.ensures was.numbers was.behind from.0) ∙ was.placed_so in
    let (passes, ends) = c.pass_further.ensures first.numbers was.further d many reads in (
      Continues-passes Tvf (reads_vectors slots c.args.here.now) rest c.pass_further.new.here c.pass_further.result
          (subst (λ (ss : List VectorPlace). Continues (reads_vectors ss c.args.here.now) rest) (sym first.all) left) passes,
      ends,
    )
