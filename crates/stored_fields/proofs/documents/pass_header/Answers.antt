use Rattle.std.proofs.Common.{◌∙◌, sym, rules, to_z, of_z, w32}
use Rattle.lu_grammar.specs.Parts.{int32}
use Rattle.stored_fields.specs.Documents.{format, format_conditions}
use Rattle.lu_grammar.proofs.Codecs.{alone_unread}
use Rattle.stored_fields.proofs.DocumentLemmas.{format_given, format_broken}
use Rattle.stored_fields.proofs.documents.pass_header.Goals as goal

pub returns-in-Err : goal.returns-in-Err
returns-in-Err c = alone_unread int32 (λ z. format z) format_conditions _ c.in-Err.bad _ c.in-Err.ensures.0 c.rule_of.ensures

pub returns-then-is_other_store_format : goal.returns-then-is_other_store_format
returns-then-is_other_store_format c = format_broken _ c.i32.new.self c.in-Ok.format (to_z w32 (of_z w32 c.in-Ok.format)) (search rules) c.in-Ok.ensures (sym c.is_other_store_format.ensures ∙ c.if-is_other_store_format.true)

pub returns-else-is_other_store_format : goal.returns-else-is_other_store_format
returns-else-is_other_store_format c = format_given _ c.i32.new.self c.in-Ok.format (to_z w32 (of_z w32 c.in-Ok.format)) (search rules) c.in-Ok.ensures (sym c.is_other_store_format.ensures ∙ c.if-is_other_store_format.false)
