use Rattle.std.proofs.Common.{sym, ◌∙◌, arith}
use Rattle.lu_grammar.specs.Parts.{byte, num}
use Rattle.term_vectors.specs.Vectors.{heading, heading_conditions}
use Rattle.term_vectors.proofs.FormatLemmas.{two_unread, two_half}
use Rattle.term_vectors.proofs.VectorLemmas.{heading_given, heading_elsewhere, heading_bits}
use Rattle.term_vectors.proofs.vectors.next_heading.Goals as goal

pub returns-in-Err : goal.returns-in-Err
returns-in-Err c = two_unread num byte (λ n k. heading n k) (heading_conditions c.args.wanted c.args.here.now.place) c.args.here.now c.in-Err.bad _ c.in-Err.ensures.takes.0 c.rule_of.ensures

pub returns-in-Err-u8 : goal.returns-in-Err-u8
returns-in-Err-u8 c =
    two_half num byte (λ n k. heading n k) (heading_conditions c.args.wanted c.args.here.now.place) c.args.here.now c.num.new.self c.in-Ok.count c.in-Err-u8.bad _ c.in-Ok.ensures.takes c.in-Err-u8.ensures.0 c.rule_of-in-Err-u8.ensures

pub returns-then-start-wanted : goal.returns-then-start-wanted
returns-then-start-wanted c =
    heading_elsewhere c.args.wanted c.args.here.now c.num.new.self c.u8.new.self c.in-Ok.count c.in-Ok-u8.bits c.in-Ok.ensures.takes c.in-Ok-u8.ensures (λ same. c.if-start-wanted.true (c.place-start.ensures ∙ same))

pub returns-then-bits : goal.returns-then-bits
returns-then-bits c =
    heading_bits c.args.wanted c.args.here.now c.num.new.self c.u8.new.self c.in-Ok.count c.in-Ok-u8.bits c.in-Ok.ensures.takes c.in-Ok-u8.ensures (sym c.place-start.ensures ∙ c.if-start-wanted.false) (omega arith)

pub returns-else-bits : goal.returns-else-bits
returns-else-bits c =
    heading_given c.args.wanted c.args.here.now c.num.new.self c.u8.new.self c.in-Ok.count c.in-Ok-u8.bits c.in-Ok.ensures.takes c.in-Ok-u8.ensures (sym c.place-start.ensures ∙ c.if-start-wanted.false) (omega arith)
