use Rattle.lu_grammar.proofs.Records.{record_at-read, record_at-breaks, record_at-unread}
use Rattle.doc_marks.specs.Deletions.{pair as pair_of, pair_shape, pair_conditions}
use Rattle.doc_marks.proofs.pairs.next_pair.Goals as goal

pub returns-in-Err-clause-gives : goal.returns-in-Err-clause-gives
returns-in-Err-clause-gives c =
    let s = c.args.segment in
    let p = c.args.passed in
    rw c.rule_of.ensures (record_at-unread pair_shape (pair_conditions s.size s.count p.index p.documents) c.args.cur.now c.in-Err.bad c.in-Err.ensures.gives)

pub returns-in-Err-judge_pair-clause-gives : goal.returns-in-Err-judge_pair-clause-gives
returns-in-Err-judge_pair-clause-gives c =
    let s = c.args.segment in
    let p = c.args.passed in
    record_at-breaks pair_shape (pair_conditions s.size s.count p.index p.documents) c.args.cur.now (pair_of c.in-Ok.parts.0 c.in-Ok.parts.1) c.pair_parts.new.cur c.in-Err-judge_pair.rule c.in-Ok.ensures.gives c.in-Err-judge_pair.ensures.judged

pub returns-in-Ok-judge_pair-clause-gives : goal.returns-in-Ok-judge_pair-clause-gives
returns-in-Ok-judge_pair-clause-gives c =
    let s = c.args.segment in
    let p = c.args.passed in
    record_at-read pair_shape (pair_conditions s.size s.count p.index p.documents) c.args.cur.now (pair_of c.in-Ok.parts.0 c.in-Ok.parts.1) c.pair_parts.new.cur c.in-Ok.ensures.gives c.in-Ok-judge_pair.ensures.judged
