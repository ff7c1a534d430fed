use Rattle.std.proofs.Common.{ℕ, ◌+◌, ◌^◌, ◌<◌, rules, refl, sym, ap, ◌∙◌}
use Rattle.lu_grammar.specs.Records.{first_broken}
use Rattle.lu_grammar.proofs.Records.{record_at-read, record_at-breaks, record_at-unread}
use Rattle.freq_skips.specs.Records.{Record, entry, entry_shape}
use Rattle.freq_skips.specs.Entries.{entry_conditions, gap}
use Rattle.freq_skips.proofs.entry.next_entry.Goals as goal

pub returns-in-Err : goal.returns-in-Err
returns-in-Err c = rw c.rule_of.ensures (record_at-unread _ _ c.args.cur.now c.in-Err.bad c.in-Err.ensures)

pub overflow_add-result : goal.overflow_add-result
overflow_add-result c = let below : c.args.last + gap c.args.term.now c.in-Ok.parts.delta < 2 ^ 32 = c.in-None.ensures.below refl in rw c.gap.ensures (search rules)

-- the conditions by the place that was asked for
pub returns-in-Some : goal.returns-in-Some
returns-in-Some c =
    let t = c.args.term.now in
    let r : Record = entry c.in-Ok.parts.delta c.in-Ok.parts.stated in
    let broken = ap (λ (n : ℕ). first_broken (entry_conditions t c.args.first c.args.last n r)) (sym c.place-place.ensures) ∙ sym c.in-Some.ensures.broken in
    record_at-breaks (entry_shape t) _ c.args.cur.now r c.entry_parts.new.cur c.in-Some.rule c.in-Ok.ensures broken

pub returns-in-None : goal.returns-in-None
returns-in-None c =
    let t = c.args.term.now in
    let r : Record = entry c.in-Ok.parts.delta c.in-Ok.parts.stated in
    let broken = ap (λ (n : ℕ). first_broken (entry_conditions t c.args.first c.args.last n r)) (sym c.place-place.ensures) ∙ sym c.in-None.ensures.broken in
    (r, record_at-read (entry_shape t) _ c.args.cur.now r c.entry_parts.new.cur c.in-Ok.ensures broken, cc)
