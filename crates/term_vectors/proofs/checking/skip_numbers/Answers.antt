use Rattle.std.proofs.Common.{[], ◌∷◌, false, sym, ◌∙◌, arith}
use Rattle.lu_grammar.specs.Records.{rule_of}
use Rattle.lu_grammar.proofs.Codecs.{same_pair}
use Rattle.term_vectors.proofs.TurnLemmas.{none-passed, all-passed}
use Rattle.term_vectors.proofs.FieldLemmas.{reads_numbers, numbers-done}
use Rattle.term_vectors.proofs.WasRead.{numbers-no_fault, numbers-unread, numbers-next}
use Rattle.term_vectors.proofs.checking.skip_numbers.Goals as goal

pub loop-nth-init : goal.loop-nth-init
loop-nth-init c = ([], none-passed (reads_numbers false []) c.args.count [] c.args.beside.now)

pub unreachable-requires : goal.unreachable-requires
unreachable-requires c =
    let (x, all) = c.requires in
    let (before, left) = c.loop-nth.invariant in
    numbers-no_fault c.args.count c.loop-nth._nth c.args.beside.now c.loop-nth.beside before x (rule_of c.in-Err.field-0) all left c.loop-nth-test.true (numbers-unread before c.loop-nth.beside c.in-Err.field-0 c.in-Err.ensures.takes.0)

pub loop-nth-preserved : goal.loop-nth-preserved
loop-nth-preserved c =
    let (x, all) = c.requires in
    let (before, left) = c.loop-nth.invariant in
    (c.in-Ok.field-0 ∷ before, numbers-next c.args.count c.loop-nth._nth c.args.beside.now c.loop-nth.beside c.num.new.self before c.in-Ok.field-0 x all left c.loop-nth-test.true c.in-Ok.ensures.takes)

pub returns : goal.returns
returns c = λ ns d e.
    let (before, left) = c.loop-nth.invariant in
    let (v, all) = all-passed (reads_numbers false []) c.args.count [] c.args.beside.now c.loop-nth._nth before c.loop-nth.beside left (omega arith) (numbers-done false [] before c.loop-nth.beside) in
    (same_pair v ns c.loop-nth.beside d (sym all ∙ e)).1
