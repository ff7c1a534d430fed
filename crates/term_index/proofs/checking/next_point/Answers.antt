use Rattle.term_index.specs.Points.{index_point_of, last_term_of, wanted_of, progress}
use Rattle.term_dict.specs.Walk.{next_place}
use Rattle.term_index.proofs.EntryLemmas.{next-judged, next-unread}
use Rattle.term_index.proofs.checking.next_point.Goals as goal

pub returns-in-Err-clause-next : goal.returns-in-Err-clause-next
returns-in-Err-clause-next c = λ d n k t p.
    next-unread d (progress n (last_term_of c.args.last.now) c.args.last.now.place) c.args.skip_interval c.args.cur.now c.in-Err.bad c.rule_of.result k c.in-Err.ensures.takes c.rule_of.ensures

pub returns-in-Ok-clause-next : goal.returns-in-Ok-clause-next
returns-in-Ok-clause-next c = λ d n k t p.
    next-judged d n (last_term_of c.args.last.now) c.args.last.now.place c.args.cur.now c.point_at.new.cur (index_point_of c.in-Ok.point) c.args.skip_interval (wanted_of c.args.passed.now.info c.args.cursor.now) (next_place c.args.cursor.now) c.step.result
    k t p c.in-Ok.ensures.takes c.step.ensures.rule
