use Rattle.std.proofs.Common.{◌∙◌, sym}
use Rattle.lu_grammar.specs.Parts.{num}
use Rattle.lu_grammar.proofs.Codecs.{alone_unread}
use Rattle.term_vectors.specs.Fields.{count, count_conditions}
use Rattle.term_vectors.proofs.FieldLemmas.{count_given, count_broken}
use Rattle.term_vectors.proofs.fields.next_count.Goals as goal

pub returns-in-Err : goal.returns-in-Err
returns-in-Err c = alone_unread num (λ n. count n) (λ _. count_conditions c.args.wanted c.args.here.now.place) _ c.in-Err.bad _ c.in-Err.ensures.takes.0 c.rule_of.ensures

pub returns-then-start-wanted : goal.returns-then-start-wanted
returns-then-start-wanted c = count_broken c.args.wanted c.args.here.now c.num.new.self c.in-Ok.count c.in-Ok.ensures.takes (λ same. c.if-start-wanted.true (c.place-start.ensures ∙ same))

pub returns-else-start-wanted : goal.returns-else-start-wanted
returns-else-start-wanted c = count_given c.args.wanted c.args.here.now c.num.new.self c.in-Ok.count c.in-Ok.ensures.takes (sym c.place-start.ensures ∙ c.if-start-wanted.false)
