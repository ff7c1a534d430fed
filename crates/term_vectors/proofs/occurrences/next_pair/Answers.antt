use Rattle.lu_grammar.specs.Parts.{vint, num}
use Rattle.term_vectors.specs.Vectors.{pair, pair_conditions}
use Rattle.term_vectors.proofs.FormatLemmas.{two_read, two_breaks, two_unread, two_half}
use Rattle.term_vectors.proofs.occurrences.next_pair.Goals as goal

pub returns-in-Err : goal.returns-in-Err
returns-in-Err c = two_unread vint num (λ far long. pair far long) (pair_conditions c.args.last) c.args.here.now c.in-Err.bad _ c.in-Err.ensures.0 c.rule_of.ensures

pub returns-in-Err-num : goal.returns-in-Err-num
returns-in-Err-num c =
    two_half vint num (λ far long. pair far long) (pair_conditions c.args.last) c.args.here.now c.vint.new.self c.in-Ok.far c.in-Err-num.bad _ c.in-Ok.ensures c.in-Err-num.ensures.takes.0 c.rule_of-in-Err-num.ensures

pub returns-in-None : goal.returns-in-None
returns-in-None c =
    two_breaks vint num (λ far long. pair far long) (pair_conditions c.args.last) c.args.here.now c.vint.new.self c.num.new.self c.in-Ok.far c.in-Ok-num.long 113 c.in-Ok.ensures c.in-Ok-num.ensures.takes c.in-None.ensures

pub returns-in-Some : goal.returns-in-Some
returns-in-Some c = (
  pair c.in-Ok.far c.in-Ok-num.long,
  two_read vint num (λ far long. pair far long) (pair_conditions c.args.last) c.args.here.now c.vint.new.self c.num.new.self c.in-Ok.far c.in-Ok-num.long c.in-Ok.ensures c.in-Ok-num.ensures.takes c.in-Some.ensures.0,
  c.in-Some.ensures.1,
)
