use Rattle.term_dict.specs.Entries.{term_record_of}
use Rattle.term_dict.specs.Dictionary.{within}
use Rattle.term_dict.specs.Last.{term_of_last}
use Rattle.term_dict.proofs.CheckLemmas.{next-judged, next-unread}
use Rattle.term_dict.proofs.checking.next_term.Goals as goal

pub returns-in-Err-clause-next : goal.returns-in-Err-clause-next
returns-in-Err-clause-next c = λ s is first.
    next-unread (within c.args.fields.now c.args.documents) c.args.skip_interval s c.args.cur.now c.in-Err.bad c.rule_of.result c.in-Err.ensures.takes c.rule_of.ensures

pub returns-in-Ok-clause-next : goal.returns-in-Ok-clause-next
returns-in-Ok-clause-next c = λ s is first.
    next-judged (within c.args.fields.now c.args.documents) c.args.skip_interval s c.args.cur.now c.entry_at.new.cur (term_record_of c.in-Ok.entry) (term_of_last c.args.last.now) (term_of_last c.step.new.self) c.step.result
    c.in-Ok.ensures.takes is (c.step.ensures.rule s.terms is first) c.step.ensures.good
