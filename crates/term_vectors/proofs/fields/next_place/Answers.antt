use Rattle.std.proofs.Common.{◌+◌, ℕ, ap, arith}
use Rattle.lu_grammar.specs.Parts.{vlong}
use Rattle.lu_grammar.proofs.Codecs.{alone_unread}
use Rattle.term_vectors.specs.Fields.{difference, stated, difference_conditions}
use Rattle.term_vectors.proofs.FieldLemmas.{difference_given, difference_broken}
use Rattle.term_vectors.proofs.fields.next_place.Goals as goal

pub returns-in-Err : goal.returns-in-Err
returns-in-Err c = alone_unread vlong (λ n. difference n) (λ r. difference_conditions c.args.place (stated r)) _ c.in-Err.bad _ c.in-Err.ensures.takes.0 c.rule_of.ensures

pub returns-then-next-from : goal.returns-then-next-from
returns-then-next-from c = difference_broken c.args.place c.args.here.now c.vlong.new.self c.in-Ok.far c.in-Ok.ensures.takes (omega (arith, c.from.ensures, c.from-in-Ok.ensures))

pub returns-else-next-from : goal.returns-else-next-from
returns-else-next-from c =
    (difference c.in-Ok.far, difference_given c.args.place c.args.here.now c.vlong.new.self c.in-Ok.far c.in-Ok.ensures.takes (omega (arith, c.from.ensures, c.from-in-Ok.ensures)), ap (λ (n : ℕ). n + c.in-Ok.far) c.from.ensures)
