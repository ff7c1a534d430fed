use Rattle.std.proofs.Common.{◌≡◌, ℕ, List, [], get_or, ap, ◌∙◌, arith}
use Rattle.lu_grammar.specs.Bytes.{Cursor}
use Rattle.lu_grammar.specs.Reading.{value_or}
use Rattle.term_vectors.proofs.SlotLemmas.{all_numbers, number-none, number-no_fault, number-more, number-all}
use Rattle.term_vectors.proofs.document.number_at.Goals as goal

pub loop-i-init : goal.loop-i-init
loop-i-init c = number-none c.args.count c.args.nth c.args.beside.now c.requires.there.0 c.requires.there.1

pub unreachable-requires : goal.unreachable-requires
unreachable-requires c = number-no_fault c.args.count c.args.nth c.args.beside.now c.loop-i.i c.loop-i.number c.loop-i.beside c.in-Err.field-0 c.loop-i.invariant c.loop-i-test.true c.in-Err.ensures.takes.0

pub loop-i-preserved : goal.loop-i-preserved
loop-i-preserved c =
    number-more c.args.count c.args.nth c.args.beside.now c.loop-i.i c.loop-i.number c.in-Ok.found c.either-number.result c.loop-i.beside c.num.new.self c.loop-i.invariant c.loop-i-test.true c.in-Ok.ensures.takes c.either-number.ensures

pub returns : goal.returns
returns c = λ ns d e.
    let is : all_numbers c.args.count c.args.beside.now ≡ (ns, d) = ap (value_or ([], c.args.beside.now)) e in
    let all = number-all c.args.count c.args.nth c.args.beside.now c.loop-i.i c.loop-i.number c.loop-i.beside c.loop-i.invariant (omega arith) c.requires.within in
    (all.0 ∙ ap (λ (x : List ℕ × Cursor). get_or x.0 c.args.nth 0) is, all.1 ∙ ap (λ (x : List ℕ × Cursor). x.1) is)
