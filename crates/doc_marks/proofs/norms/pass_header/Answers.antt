use Rattle.std.proofs.Common.{rules}
use Rattle.doc_marks.proofs.NormLemmas.{header-read, header-other, header-unread}
use Rattle.doc_marks.proofs.norms.pass_header.Goals as goal

pub returns-in-Err : goal.returns-in-Err
returns-in-Err c = header-unread c.args.cur.now c.in-Err.bad c.rule_of.result c.in-Err.ensures.0 c.rule_of.ensures

pub returns-then-ne : goal.returns-then-ne
returns-then-ne c = header-other c.args.cur.now c.bytes.new.self c.in-Ok.found.now c.in-Ok.ensures (search rules)

pub returns-else-ne : goal.returns-else-ne
returns-else-ne c = header-read c.args.cur.now c.bytes.new.self c.in-Ok.found.now c.in-Ok.ensures (search rules)
