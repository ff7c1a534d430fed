use Rattle.std.proofs.Common.{◌≡◌, ◌*◌, ◌≤◌, List, [], Ok, Err, length, drop, refl, sym, ap, ◌∙◌, arith}
use Rattle.lu_grammar.specs.Bytes.{start_of}
use Rattle.lu_grammar.specs.Records.{record_at}
use Rattle.lu_grammar.specs.Plans.{times, read_plan}
use Rattle.doc_marks.specs.Norms.{norm_header, bytes_shape, header_conditions, one_column, columns_in}
use Rattle.doc_marks.proofs.NormLemmas.{header_was, nrm-header_fault, nrm-fault, nrm-left, nrm-read, nrm-columns}
use Rattle.doc_marks.proofs.norms.Norms.check_norms.Goals as goal

pub returns-in-Err-clause-checks : goal.returns-in-Err-clause-checks
returns-in-Err-clause-checks c =
    let broken : record_at (bytes_shape 4) header_conditions (start_of c.args.nrm.now) ≡ Err c.in-Err.rule = rw c.at-cur.ensures at c.in-Err.ensures in
    rw c.at.ensures (refl, nrm-header_fault c.args.columns c.args.documents c.args.nrm.now (λ i. (c.type_inv.nrm i).fits) c.in-Err.rule broken)

pub split_at-requires : goal.split_at-requires
split_at-requires c =
    let header : record_at (bytes_shape 4) header_conditions (start_of c.args.nrm.now) ≡ Ok (norm_header, c.pass_header.new.cur) = rw c.at-cur.ensures at c.in_default.ensures in
    let was = header_was (start_of c.args.nrm.now) c.pass_header.new.cur norm_header header in was.2

pub returns-in-Err-pass_columns-clause-checks : goal.returns-in-Err-pass_columns-clause-checks
returns-in-Err-pass_columns-clause-checks c =
    let header : record_at (bytes_shape 4) header_conditions (start_of c.args.nrm.now) ≡ Ok (norm_header, c.pass_header.new.cur) = rw c.at-cur.ensures at c.in_default.ensures in
    let fault = c.in-Err-pass_columns.fault in
    let gives : (fault.kind ≡ _) × (read_plan (times (one_column c.args.documents) c.args.columns []) c.pass_header.new.cur ≡ Err (record { offset = fault.offset; rule = fault.rule })) = c.in-Err-pass_columns.ensures.gives in
    (gives.0, nrm-fault c.args.columns c.args.documents c.args.nrm.now (λ i. (c.type_inv.nrm i).fits) c.pass_header.new.cur header fault.offset fault.rule gives.1)

pub returns-then-left-gt0-clause-checks : goal.returns-then-left-gt0-clause-checks
returns-then-left-gt0-clause-checks c =
    let header : record_at (bytes_shape 4) header_conditions (start_of c.args.nrm.now) ≡ Ok (norm_header, c.pass_header.new.cur) = rw c.at-cur.ensures at c.in_default.ensures in
    rw (c.at-then-left-gt0.ensures, c.place.ensures) (
      refl,
      nrm-left c.args.columns c.args.documents c.args.nrm.now (λ i. (c.type_inv.nrm i).fits) c.pass_header.new.cur header (columns_in c.args.columns c.args.documents c.pass_header.new.cur.rest) c.pass_columns.new.cur
          c.in_default-pass_columns.ensures.gives (omega (arith, c.left.ensures, c.if-left-gt0.true)),
    )

pub invariant_of-result : goal.invariant_of-result
invariant_of-result c =
    let header : record_at (bytes_shape 4) header_conditions (start_of c.args.nrm.now) ≡ Ok (norm_header, c.pass_header.new.cur) = rw c.at-cur.ensures at c.in_default.ensures in
    let passed : (c.args.columns * c.args.documents ≤ length c.pass_header.new.cur.rest) × (c.pass_columns.new.cur.rest ≡ drop (c.args.columns * c.args.documents) c.pass_header.new.cur.rest) = c.in_default-pass_columns.ensures.passed in
    (nrm-columns c.args.columns c.args.documents c.args.nrm.now c.split_at.result.1.now c.pass_header.new.cur c.pass_columns.new.cur header c.split_at.ensures.back passed (omega (arith, c.left.ensures, c.if-left-gt0.false))).0

pub returns-clause-checks : goal.returns-clause-checks
returns-clause-checks c =
    let header : record_at (bytes_shape 4) header_conditions (start_of c.args.nrm.now) ≡ Ok (norm_header, c.pass_header.new.cur) = rw c.at-cur.ensures at c.in_default.ensures in
    let passed : (c.args.columns * c.args.documents ≤ length c.pass_header.new.cur.rest) × (c.pass_columns.new.cur.rest ≡ drop (c.args.columns * c.args.documents) c.pass_header.new.cur.rest) = c.in_default-pass_columns.ensures.passed in
    let is = (nrm-columns c.args.columns c.args.documents c.args.nrm.now c.split_at.result.1.now c.pass_header.new.cur c.pass_columns.new.cur header c.split_at.ensures.back passed (omega (arith, c.left.ensures, c.if-left-gt0.false))).1 in
    nrm-read c.args.columns c.args.documents c.args.nrm.now (λ i. (c.type_inv.nrm i).fits) c.pass_header.new.cur header (columns_in c.args.columns c.args.documents c.split_at.result.1.now) c.pass_columns.new.cur
    (c.in_default-pass_columns.ensures.gives ∙ ap (λ (t : List _). Ok (columns_in c.args.columns c.args.documents t, c.pass_columns.new.cur)) (sym is)) (omega (arith, c.left.ensures, c.if-left-gt0.false))

pub returns-clause-columns : goal.returns-clause-columns
returns-clause-columns c =
    let header : record_at (bytes_shape 4) header_conditions (start_of c.args.nrm.now) ≡ Ok (norm_header, c.pass_header.new.cur) = rw c.at-cur.ensures at c.in_default.ensures in
    let passed : (c.args.columns * c.args.documents ≤ length c.pass_header.new.cur.rest) × (c.pass_columns.new.cur.rest ≡ drop (c.args.columns * c.args.documents) c.pass_header.new.cur.rest) = c.in_default-pass_columns.ensures.passed in
    (nrm-columns c.args.columns c.args.documents c.args.nrm.now c.split_at.result.1.now c.pass_header.new.cur c.pass_columns.new.cur header c.split_at.ensures.back passed (omega (arith, c.left.ensures, c.if-left-gt0.false))).2
