use Rattle.std.proofs.Common.{◌∙◌, sym}
use Rattle.lu_grammar.specs.Parts.{num}
use Rattle.lu_grammar.proofs.Codecs.{alone_read, alone_breaks, alone_unread}
use Rattle.term_vectors.specs.Fields.{number, stated, number_conditions}
use Rattle.term_vectors.proofs.fields.next_number.Goals as goal

pub returns-in-Err : goal.returns-in-Err
returns-in-Err c = λ before has. alone_unread num (λ n. number n) (λ r. number_conditions c.args.asked c.args.fields.now before (stated r)) _ c.in-Err.bad _ c.in-Err.ensures.takes.0 c.rule_of.ensures

pub returns-in-Some : goal.returns-in-Some
returns-in-Some c = λ before has.
    alone_breaks num (λ n. number n) (λ r. number_conditions c.args.asked c.args.fields.now before (stated r)) c.args.here.now c.num.new.self c.in-Ok.number c.in-Some.rule c.in-Ok.ensures.takes
    (sym (c.in-Some.ensures before (c.contains.ensures ∙ has c.in-Ok.number)))

pub returns-in-None : goal.returns-in-None
returns-in-None c = λ before has.
    alone_read num (λ n. number n) (λ r. number_conditions c.args.asked c.args.fields.now before (stated r)) c.args.here.now c.num.new.self c.in-Ok.number c.in-Ok.ensures.takes
    (sym (c.in-None.ensures before (c.contains.ensures ∙ has c.in-Ok.number)))
