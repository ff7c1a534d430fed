use Rattle.std.proofs.Common.{◌+◌, ℕ, ap, ◌∙◌, arith}
use Rattle.lu_grammar.specs.Parts.{vint}
use Rattle.lu_grammar.proofs.Codecs.{alone_unread}
use Rattle.term_vectors.specs.Vectors.{position, position_conditions}
use Rattle.term_vectors.proofs.OccurrenceLemmas.{position_given, position_broken}
use Rattle.term_vectors.proofs.occurrences.next_position.Goals as goal

pub returns-in-Err : goal.returns-in-Err
returns-in-Err c = alone_unread vint (λ n. position n) (position_conditions c.args.last) _ c.in-Err.bad _ c.in-Err.ensures.0 c.rule_of.ensures

pub returns-then-position-from : goal.returns-then-position-from
returns-then-position-from c =
    position_broken c.args.last c.args.here.now c.vint.new.self c.in-Ok.delta c.in-Ok.ensures (omega (arith, c.from.ensures, c.from-in-Ok.ensures, c.from-in-Ok-2.ensures))

pub returns-else-position-from : goal.returns-else-position-from
returns-else-position-from c = (
  position c.in-Ok.delta,
  position_given c.args.last c.args.here.now c.vint.new.self c.in-Ok.delta c.in-Ok.ensures (omega (arith, c.from.ensures, c.from-in-Ok.ensures, c.from-in-Ok-2.ensures)),
  ap (λ (n : ℕ). n + c.from-in-Ok.result) c.from.ensures ∙ ap (λ (n : ℕ). c.args.last + n) c.from-in-Ok.ensures,
)
