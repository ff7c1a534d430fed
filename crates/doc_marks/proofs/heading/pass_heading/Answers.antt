use Rattle.std.proofs.Common.{◌≡◌, None, sym}
use Rattle.lu_grammar.specs.Records.{first_broken}
use Rattle.lu_grammar.proofs.Records.{record_at-read, record_at-breaks, record_at-unread}
use Rattle.doc_marks.specs.Deletions.{header as header_of, header_shape, header_conditions}
use Rattle.doc_marks.proofs.DelLemmas.{heading-good}
use Rattle.doc_marks.proofs.heading.pass_heading.Goals as goal

pub returns-in-Err : goal.returns-in-Err
returns-in-Err c = rw c.rule_of.ensures (record_at-unread header_shape (header_conditions c.args.segment.size c.args.segment.count) c.args.cur.now c.in-Err.bad c.in-Err.ensures)

pub returns-in-Some : goal.returns-in-Some
returns-in-Some c =
    let h = c.in-Ok.found in
    record_at-breaks header_shape (header_conditions c.args.segment.size c.args.segment.count) c.args.cur.now (header_of h.is_sparse h.size h.count) c.heading_parts.new.cur c.in-Some.rule c.in-Ok.ensures (sym c.in-Some.ensures)

pub returns-in-None : goal.returns-in-None
returns-in-None c =
    let h = c.in-Ok.found in
    let good : first_broken (header_conditions c.args.segment.size c.args.segment.count (header_of h.is_sparse h.size h.count)) ≡ None = sym c.in-None.ensures in
    let sizes = heading-good c.args.segment.size c.args.segment.count h.is_sparse h.size h.count good in
    rw (← sizes.0, ← sizes.1) (record_at-read header_shape (header_conditions c.args.segment.size c.args.segment.count) c.args.cur.now (header_of h.is_sparse h.size h.count) c.heading_parts.new.cur c.in-Ok.ensures good)
