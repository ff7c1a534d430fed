use Rattle.std.proofs.Common.{◌∙◌, sym, rules, to_z, of_z, w32}
use Rattle.lu_grammar.specs.Parts.{int32}
use Rattle.lu_grammar.proofs.Codecs.{alone_unread}
use Rattle.term_vectors.specs.Format.{format_rule}
use Rattle.term_vectors.proofs.FormatLemmas.{format_given, format_broken}
use Rattle.term_vectors.proofs.layout.pass_format.Goals as goal

pub returns-in-Err : goal.returns-in-Err
returns-in-Err c = alone_unread int32 (λ z. z) (format_rule c.args.rule) _ c.in-Err.bad _ c.in-Err.ensures.0 c.rule_of.ensures

pub returns-then-is_other_format : goal.returns-then-is_other_format
returns-then-is_other_format c = format_broken c.args.rule _ c.i32.new.self c.in-Ok.format (to_z w32 (of_z w32 c.in-Ok.format)) (search rules) c.in-Ok.ensures (sym c.is_other_format.ensures ∙ c.if-is_other_format.true)

pub returns-else-is_other_format : goal.returns-else-is_other_format
returns-else-is_other_format c = format_given c.args.rule _ c.i32.new.self c.in-Ok.format (to_z w32 (of_z w32 c.in-Ok.format)) (search rules) c.in-Ok.ensures (sym c.is_other_format.ensures ∙ c.if-is_other_format.false)
