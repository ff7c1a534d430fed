use Rattle.term_dict.proofs.CheckLemmas.{header-read, header-unread}
use Rattle.term_dict.proofs.checking.header_at.Goals as goal

pub returns-in-Err : goal.returns-in-Err
returns-in-Err c = header-unread c.args.cur.now c.heading_at.new.cur c.in-Err.bad c.rule_of.result c.in-Err.ensures c.rule_of.ensures

pub returns-in-Ok : goal.returns-in-Ok
returns-in-Ok c = header-read c.args.cur.now c.heading_at.new.cur c.in-Ok.heading c.numbers_of.result c.in-Ok.ensures c.numbers_of.ensures
