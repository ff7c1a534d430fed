use Rattle.std.proofs.Common.{◌≡◌, Ok, Err, refl, arith}
use Rattle.lu_grammar.specs.Bytes.{start_of}
use Rattle.lu_grammar.specs.Records.{record_at}
use Rattle.field_infos.specs.Fnm.{header as header_of, header_shape, header_conditions, format_number}
use Rattle.field_infos.proofs.Records.{header-fault, fields-fails, fields-left, fields-read}
use Rattle.field_infos.proofs.reading.check.Goals as goal

pub returns-in-Err : goal.returns-in-Err
returns-in-Err c =
    let broken : record_at header_shape (header_conditions c.args.norm_fields) (start_of c.args.fnm.now) ≡ Err c.in-Err.rule = rw c.at-cur.ensures at c.in-Err.ensures.gives in
    rw c.fault.ensures (refl, header-fault c.args.has_prox c.args.norm_fields c.args.fnm.now (λ i. (c.type_inv.fnm i).fits) c.in-Err.rule broken)

pub returns-in-Err-fields : goal.returns-in-Err-fields
returns-in-Err-fields c =
    let is : record_at header_shape (header_conditions c.args.norm_fields) (start_of c.args.fnm.now) ≡ Ok (header_of format_number c.in-Ok.count, c.header.new.cur) = rw c.at-cur.ensures at c.in-Ok.ensures.gives in
    fields-fails c.args.has_prox c.args.norm_fields c.args.fnm.now (λ i. (c.type_inv.fnm i).fits) c.in-Ok.count c.header.new.cur is c.fields.new.cur c.in-Err-fields.found c.in-Err-fields.ensures

pub returns-then-left-gt0 : goal.returns-then-left-gt0
returns-then-left-gt0 c =
    let is : record_at header_shape (header_conditions c.args.norm_fields) (start_of c.args.fnm.now) ≡ Ok (header_of format_number c.in-Ok.count, c.header.new.cur) = rw c.at-cur.ensures at c.in-Ok.ensures.gives in
    rw (c.fault-then-left-gt0.ensures, c.place.ensures) (
      refl,
      fields-left c.args.has_prox c.args.norm_fields c.args.fnm.now (λ i. (c.type_inv.fnm i).fits) c.in-Ok.count c.header.new.cur is c.in-Ok-fields.table c.fields.new.cur c.in-Ok-fields.ensures
          (omega (arith, c.left.ensures, c.if-left-gt0.true)),
    )

pub returns : goal.returns
returns c =
    let is : record_at header_shape (header_conditions c.args.norm_fields) (start_of c.args.fnm.now) ≡ Ok (header_of format_number c.in-Ok.count, c.header.new.cur) = rw c.at-cur.ensures at c.in-Ok.ensures.gives in
    fields-read c.args.has_prox c.args.norm_fields c.args.fnm.now (λ i. (c.type_inv.fnm i).fits) c.in-Ok.count c.header.new.cur is c.in-Ok-fields.table c.fields.new.cur c.in-Ok-fields.ensures
    (omega (arith, c.left.ensures, c.if-left-gt0.false))
