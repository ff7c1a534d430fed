use Rattle.std.proofs.Common.{◌≡◌, ℕ, ◌+◌, Bool, refl, sym, ap, ◌∙◌}
use Rattle.lu_grammar.specs.Records.{first_broken}
use Rattle.lu_grammar.proofs.Codecs.{record_at-read, record_at-breaks, record_at-unread}
use Rattle.positions.specs.Records.{occurrence_shape, position_gap}
use Rattle.positions.specs.Views.{occurrence_record_of}
use Rattle.positions.specs.Occurrences.{due_with, occurrence_conditions}
use Rattle.positions.specs.Walked.{posted_by}
use Rattle.positions.proofs.reading.Reading.check_next.Goals as goal

pub returns-in-Err : goal.returns-in-Err
returns-in-Err c = rw c.rule_of.ensures (record_at-unread _ _ c.args.self.now.cur c.in-Err.bad c.in-Err.ensures.taken)

-- the conditions by the place that was asked for
pub returns-in-Some : goal.returns-in-Some
returns-in-Some c =
    let s = c.args.self.now in
    let parts = c.in-Ok.parts in
    let broken = ap (λ (n : ℕ). first_broken (occurrence_conditions (posted_by c.args.walk.now) (due_with c.args.first c.args.index s.force s.position n) parts.delta)) (sym c.place.ensures) ∙ sym c.in-Some.ensures.broken in
    record_at-breaks (occurrence_shape s.payloads s.force) _ s.cur (occurrence_record_of parts) c.take.new.self.cur c.in-Some.rule c.in-Ok.ensures.taken.0 broken

pub returns-in-None : goal.returns-in-None
returns-in-None c =
    let s = c.args.self.now in
    let parts = c.in-Ok.parts in
    let broken = ap (λ (n : ℕ). first_broken (occurrence_conditions (posted_by c.args.walk.now) (due_with c.args.first c.args.index s.force s.position n) parts.delta)) (sym c.place.ensures) ∙ sym c.in-None.ensures.broken in (
      occurrence_record_of parts,
      record_at-read (occurrence_shape s.payloads s.force) _ s.cur (occurrence_record_of parts) c.take.new.self.cur c.in-Ok.ensures.taken.0 broken,
      c.in-Ok.ensures.taken.1,
      ap (λ (n : ℕ). s.position + n) c.position_gap.ensures ∙ ap (λ (b : Bool). s.position + position_gap b parts.delta) c.in-Ok.ensures.payloads,
      c.in-Ok.ensures.payloads,
    )
