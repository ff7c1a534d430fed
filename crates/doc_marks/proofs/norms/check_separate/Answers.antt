use Rattle.std.proofs.Common.{◌≡◌, Ok, Err, length, refl, arith, ap}
use Rattle.std.proofs.lemmas.List.{length-take}
use Rattle.lu_grammar.specs.Bytes.{start_of}
use Rattle.lu_grammar.specs.Parts.{bytes}
use Rattle.lu_grammar.specs.Reading.{read_part}
use Rattle.doc_marks.proofs.Steps.{bytes-taken}
use Rattle.doc_marks.proofs.NormLemmas.{separate-unread, separate-left, separate-read}
use Rattle.doc_marks.proofs.norms.check_separate.Goals as goal

pub returns-in-Err-clause-checks : goal.returns-in-Err-clause-checks
returns-in-Err-clause-checks c =
    let unread : read_part (bytes c.args.documents) (start_of c.args.bytes.now) ≡ Err c.in-Err.bad = rw c.at-cur.ensures at c.in-Err.ensures.0 in
    rw c.at.ensures (refl, separate-unread c.args.documents c.args.bytes.now (λ i. (c.type_inv.bytes i).fits) c.in-Err.bad c.rule_of.result unread c.rule_of.ensures)

pub returns-then-left-gt0-clause-checks : goal.returns-then-left-gt0-clause-checks
returns-then-left-gt0-clause-checks c =
    let is : read_part (bytes c.args.documents) (start_of c.args.bytes.now) ≡ Ok (c.in-Ok.norms.now, c.bytes.new.self) = rw c.at-cur.ensures at c.in-Ok.ensures in
    rw (c.at-then-left-gt0.ensures, c.place.ensures) (refl, separate-left c.args.documents c.args.bytes.now (λ i. (c.type_inv.bytes i).fits) c.in-Ok.norms.now c.bytes.new.self is (omega (arith, c.left.ensures, c.if-left-gt0.true)))

pub returns-clause-checks : goal.returns-clause-checks
returns-clause-checks c =
    let is : read_part (bytes c.args.documents) (start_of c.args.bytes.now) ≡ Ok (c.in-Ok.norms.now, c.bytes.new.self) = rw c.at-cur.ensures at c.in-Ok.ensures in
    separate-read c.args.documents c.args.bytes.now (λ i. (c.type_inv.bytes i).fits) c.in-Ok.norms.now c.bytes.new.self is (omega (arith, c.left.ensures, c.if-left-gt0.false))

pub returns-clause-count : goal.returns-clause-count
returns-clause-count c =
    let is : read_part (bytes c.args.documents) (start_of c.args.bytes.now) ≡ Ok (c.in-Ok.norms.now, c.bytes.new.self) = rw c.at-cur.ensures at c.in-Ok.ensures in
    let taken = bytes-taken c.args.documents (start_of c.args.bytes.now) c.in-Ok.norms.now c.bytes.new.self is in
    omega (arith, ap length taken.0, length-take c.args.documents c.args.bytes.now, taken.2)
