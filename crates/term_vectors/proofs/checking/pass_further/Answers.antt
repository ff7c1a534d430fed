use Rattle.std.proofs.Common.{◌≡◌, ℕ, List, [], ap, subst, sym, ◌∙◌, arith}
use Rattle.lu_types.specs.declared.kind.FileKind.TheVariants.{Tvf}
use Rattle.lu_types.specs.Judging.{IsBrokenSo}
use Rattle.lu_grammar.specs.Bytes.{Cursor}
use Rattle.lu_grammar.specs.Reading.{value_or}
use Rattle.term_vectors.specs.Fields.{placed}
use Rattle.term_vectors.proofs.VectorLemmas.{reads_vectors}
use Rattle.term_vectors.proofs.WalkLemmas.{all_further, walked-none, walked-more, walked-fault, walked-no_fault, walked-end}
use Rattle.term_vectors.proofs.checking.pass_further.Goals as goal

pub loop-nth-init : goal.loop-nth-init
loop-nth-init c = walked-none c.args.count c.args.place c.args.beside.now c.args.here.now c.requires.0 c.requires.1

pub unreachable-requires : goal.unreachable-requires
unreachable-requires c = walked-no_fault c.args.count c.args.place c.args.beside.now c.args.here.now c.loop-nth._nth c.loop-nth.before c.loop-nth.beside c.loop-nth.here c.in-Err.field-0 c.loop-nth.invariant c.loop-nth-test.true c.in-Err.ensures

pub returns-in-Err-pass_vector : goal.returns-in-Err-pass_vector
returns-in-Err-pass_vector c = λ numbers further d many e.
    let made = c.in-Ok.ensures in
    let is : all_further c.args.count c.args.place c.args.beside.now ≡ (further, d) = ap (value_or ([], c.args.beside.now)) e in (
      subst (λ (x : List ℕ × Cursor). IsBrokenSo Tvf (reads_vectors (placed numbers x.0) c.args.here.now) c.in-Err-pass_vector.fault) is
          (walked-fault c.args.count c.args.place c.args.beside.now c.args.here.now Tvf c.loop-nth._nth c.loop-nth.before c.in-Ok.next made.0 c.loop-nth.beside c.loop-nth.here c.next_place.new.here c.in-Err-pass_vector.fault
          c.loop-nth.invariant c.loop-nth-test.true made.1 made.2 c.in-Err-pass_vector.ensures numbers many),
      tt,
    )

pub loop-nth-preserved : goal.loop-nth-preserved
loop-nth-preserved c =
    let made = c.in-Ok.ensures in
    walked-more c.args.count c.args.place c.args.beside.now c.args.here.now c.loop-nth._nth c.loop-nth.before c.in-Ok.next made.0 c.loop-nth.beside c.loop-nth.here c.next_place.new.here c.pass_vector.new.here
    c.loop-nth.invariant c.loop-nth-test.true made.1 made.2 c.in_default.ensures

pub returns : goal.returns
returns c = λ numbers further d many e.
    let is : all_further c.args.count c.args.place c.args.beside.now ≡ (further, d) = ap (value_or ([], c.args.beside.now)) e in
    let end = walked-end c.args.count c.args.place c.args.beside.now c.args.here.now c.loop-nth._nth c.loop-nth.before c.loop-nth.beside c.loop-nth.here c.loop-nth.invariant (omega arith) in
    let (v, all) = end.1 numbers many in
    ((v, ap (λ (x : List ℕ × Cursor). reads_vectors (placed numbers x.0) c.args.here.now) (sym is) ∙ all), end.0 ∙ ap (λ (x : List ℕ × Cursor). x.1) is)
