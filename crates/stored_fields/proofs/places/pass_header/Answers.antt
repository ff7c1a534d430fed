use Rattle.std.proofs.Common.{rules, to_z, of_z, w32}
use Rattle.lu_grammar.specs.Parts.{int32}
use Rattle.lu_grammar.proofs.Codecs.{alone_unread}
use Rattle.stored_fields.specs.Places.{fdx_header_conditions}
use Rattle.stored_fields.proofs.PlaceLemmas.{header_given, header_broken_by}
use Rattle.stored_fields.proofs.places.pass_header.Goals as goal

pub returns-in-Err : goal.returns-in-Err
returns-in-Err c = alone_unread int32 (λ z. z) (fdx_header_conditions c.args.total c.args.window) _ c.in-Err.bad _ c.in-Err.ensures.0 c.rule_of.ensures

pub returns-in-Some : goal.returns-in-Some
returns-in-Some c = header_broken_by c.args.total c.args.window _ c.i32.new.self c.in-Ok.format (to_z w32 (of_z w32 c.in-Ok.format)) c.in-Some.rule (search rules) c.in-Ok.ensures c.in-Some.ensures

pub returns-in-None : goal.returns-in-None
returns-in-None c = header_given c.args.total c.args.window _ c.i32.new.self c.in-Ok.format (to_z w32 (of_z w32 c.in-Ok.format)) (search rules) c.in-Ok.ensures c.in-None.ensures
