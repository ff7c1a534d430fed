use Rattle.std.proofs.Common.{◌∙◌, sym, rules}
use Rattle.lu_grammar.specs.Parts.{int64}
use Rattle.stored_fields.specs.Places.{fdx_place_conditions}
use Rattle.lu_grammar.proofs.Codecs.{alone_unread}
use Rattle.stored_fields.proofs.PlaceLemmas.{place_given, place_broken}
use Rattle.stored_fields.proofs.places.next_place.Goals as goal

pub returns-in-Err : goal.returns-in-Err
returns-in-Err c = alone_unread int64 (λ z. z) (fdx_place_conditions c.args.before) _ c.in-Err.bad _ c.in-Err.ensures.0 c.rule_of.ensures

pub returns-then-is_misplaced : goal.returns-then-is_misplaced
returns-then-is_misplaced c = place_broken c.args.before _ c.i64.new.self c.in-Ok.place _ (search rules) c.in-Ok.ensures (sym c.is_misplaced.ensures ∙ c.if-is_misplaced.true)

pub returns-else-is_misplaced : goal.returns-else-is_misplaced
returns-else-is_misplaced c = place_given c.args.before _ c.i64.new.self c.in-Ok.place _ (search rules) c.in-Ok.ensures (sym c.is_misplaced.ensures ∙ c.if-is_misplaced.false)
