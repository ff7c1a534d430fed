use Rattle.std.proofs.Common.{ℕ, sym, ap, ◌∙◌}
use Rattle.lu_grammar.specs.Records.{first_broken}
use Rattle.lu_grammar.proofs.Records.{record_at-read, record_at-breaks, record_at-unread}
use Rattle.freq_skips.specs.Records.{Record, datum, datum_shape}
use Rattle.freq_skips.specs.Levels.{datum_conditions, point_of}
use Rattle.freq_skips.proofs.datum.next_datum.Goals as goal

pub returns-in-Err-clause-read : goal.returns-in-Err-clause-read
returns-in-Err-clause-read c = rw c.rule_of.ensures (record_at-unread _ _ c.args.cur.now c.in-Err.bad c.in-Err.ensures.parts)

-- the conditions by the place that was asked for
pub returns-in-Some-clause-read : goal.returns-in-Some-clause-read
returns-in-Some-clause-read c =
    let t = c.args.term.now in
    let r : Record = datum c.in-Ok.parts.0 in
    let broken = ap (λ (n : ℕ). first_broken (datum_conditions t c.args.wanted.now c.args.level.now.place c.args.last.now n r)) (sym c.place-place.ensures) ∙ sym c.in-Some.ensures in
    record_at-breaks (datum_shape t c.args.level.now.number) _ c.args.cur.now r c.datum_parts.new.cur c.in-Some.rule c.in-Ok.ensures.parts broken

pub returns-in-None-clause-read : goal.returns-in-None-clause-read
returns-in-None-clause-read c =
    let t = c.args.term.now in
    let r : Record = datum c.in-Ok.parts.0 in
    let broken = ap (λ (n : ℕ). first_broken (datum_conditions t c.args.wanted.now c.args.level.now.place c.args.last.now n r)) (sym c.place-place.ensures) ∙ sym c.in-None.ensures in
    let point = ap (λ (n : ℕ). point_of t c.args.last.now n r) (sym c.place-place.ensures) ∙ sym c.point_after.ensures.point in
    (r, record_at-read (datum_shape t c.args.level.now.number) _ c.args.cur.now r c.datum_parts.new.cur c.in-Ok.ensures.parts broken, point)
