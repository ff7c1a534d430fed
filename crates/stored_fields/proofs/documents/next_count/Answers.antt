use Rattle.std.proofs.Common.{◌≡◌, ◌∙◌, sym, ap, ℕ, rules, to_z, of_z, w64}
use Rattle.lu_grammar.specs.Parts.{num}
use Rattle.stored_fields.specs.Documents.{count, is_elsewhere, start_conditions}
use Rattle.lu_grammar.proofs.Codecs.{alone_unread}
use Rattle.stored_fields.proofs.DocumentLemmas.{count_given, count_broken}
use Rattle.stored_fields.proofs.documents.next_count.Goals as goal

pub returns-in-Err : goal.returns-in-Err
returns-in-Err c = alone_unread num (λ n. count n) (λ _. start_conditions c.args.wanted c.args.here.now.place) _ c.in-Err.bad _ c.in-Err.ensures.takes.0 c.rule_of.ensures

pub returns-then-is_elsewhere : goal.returns-then-is_elsewhere
returns-then-is_elsewhere c =
    let e : to_z w64 (of_z w64 c.args.wanted) ≡ c.args.wanted = search rules in
    count_broken c.args.wanted c.args.here.now c.num.new.self c.in-Ok.count c.in-Ok.ensures.takes
    (ap (λ (n : ℕ). is_elsewhere n c.args.wanted) (sym c.place-start.ensures) ∙ ap (is_elsewhere c.place-start.result) (sym e) ∙ sym c.is_elsewhere.ensures ∙ c.if-is_elsewhere.true)

pub returns-else-is_elsewhere : goal.returns-else-is_elsewhere
returns-else-is_elsewhere c =
    let e : to_z w64 (of_z w64 c.args.wanted) ≡ c.args.wanted = search rules in
    count_given c.args.wanted c.args.here.now c.num.new.self c.in-Ok.count c.in-Ok.ensures.takes
    (ap (λ (n : ℕ). is_elsewhere n c.args.wanted) (sym c.place-start.ensures) ∙ ap (is_elsewhere c.place-start.result) (sym e) ∙ sym c.is_elsewhere.ensures ∙ c.if-is_elsewhere.false)
