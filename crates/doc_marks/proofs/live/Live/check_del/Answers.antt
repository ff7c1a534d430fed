use Rattle.std.proofs.Common.{◌≡◌, pos, Ok, Err, refl, arith}
use Rattle.lu_grammar.specs.Bytes.{start_of}
use Rattle.lu_grammar.specs.Records.{record_at}
use Rattle.doc_marks.specs.Deletions.{header as header_of, header_shape, header_conditions}
use Rattle.doc_marks.specs.Lent.{deleted_in}
use Rattle.doc_marks.proofs.FileLemmas.{heading_was, del-heading_fault, del-fault, del-left, del-read}
use Rattle.doc_marks.proofs.live.Live.check_del.Goals as goal

pub returns-in-Err-clause-checks : goal.returns-in-Err-clause-checks
returns-in-Err-clause-checks c =
    let broken : record_at header_shape (header_conditions c.args.size c.args.count) (start_of c.args.del.now) ≡ Err c.in-Err.rule = rw c.at-cur.ensures at c.in-Err.ensures in
    rw c.at.ensures (refl, del-heading_fault c.args.size c.args.count c.args.del.now (λ i. (c.type_inv.del i).fits) c.in-Err.rule broken)

pub check_body-requires : goal.check_body-requires
check_body-requires c = λ sparse.
    let heading : record_at header_shape (header_conditions c.args.size c.args.count) (start_of c.args.del.now) ≡ Ok (header_of c.in-Ok.is_sparse (pos c.args.size) (pos c.args.count), c.pass_heading.new.cur) = rw c.at-cur.ensures at c.in-Ok.ensures in
    heading_was c.args.size c.args.count c.args.del.now (pos c.args.size) (pos c.args.count) c.pass_heading.new.cur (rw sparse at heading)

pub returns-in-Err-check_body-clause-checks : goal.returns-in-Err-check_body-clause-checks
returns-in-Err-check_body-clause-checks c =
    let heading : record_at header_shape (header_conditions c.args.size c.args.count) (start_of c.args.del.now) ≡ Ok (header_of c.in-Ok.is_sparse (pos c.args.size) (pos c.args.count), c.pass_heading.new.cur) = rw c.at-cur.ensures at c.in-Ok.ensures in
    let fault = c.in-Err-check_body.fault in
    let gives = c.in-Err-check_body.ensures.gives in
    (gives.0, del-fault c.args.size c.args.count c.args.del.now (λ i. (c.type_inv.del i).fits) c.in-Ok.is_sparse c.pass_heading.new.cur heading fault.offset fault.rule gives.1)

pub returns-then-left-gt0-clause-checks : goal.returns-then-left-gt0-clause-checks
returns-then-left-gt0-clause-checks c =
    let heading : record_at header_shape (header_conditions c.args.size c.args.count) (start_of c.args.del.now) ≡ Ok (header_of c.in-Ok.is_sparse (pos c.args.size) (pos c.args.count), c.pass_heading.new.cur) = rw c.at-cur.ensures at c.in-Ok.ensures in
    rw (c.at-then-left-gt0.ensures, c.place.ensures) (
      refl,
      del-left c.args.size c.args.count c.args.del.now (λ i. (c.type_inv.del i).fits) c.in-Ok.is_sparse c.pass_heading.new.cur heading (deleted_in c.in-Ok-check_body.form (record { size = c.args.size; count = c.args.count })) c.check_body.new.cur
          c.in-Ok-check_body.ensures.gives (omega (arith, c.left.ensures, c.if-left-gt0.true)),
    )

pub returns-clause-checks : goal.returns-clause-checks
returns-clause-checks c =
    let heading : record_at header_shape (header_conditions c.args.size c.args.count) (start_of c.args.del.now) ≡ Ok (header_of c.in-Ok.is_sparse (pos c.args.size) (pos c.args.count), c.pass_heading.new.cur) = rw c.at-cur.ensures at c.in-Ok.ensures in
    del-read c.args.size c.args.count c.args.del.now (λ i. (c.type_inv.del i).fits) c.in-Ok.is_sparse c.pass_heading.new.cur heading (deleted_in c.in-Ok-check_body.form (record { size = c.args.size; count = c.args.count })) c.check_body.new.cur
    c.in-Ok-check_body.ensures.gives (omega (arith, c.left.ensures, c.if-left-gt0.false))
