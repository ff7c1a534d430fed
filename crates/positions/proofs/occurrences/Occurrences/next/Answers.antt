use Rattle.std.proofs.Common.{◌≡◌, ℕ, ◌+◌, ◌-◌, ◌<◌, Bool, Ok, Err, refl, sym, ap, subst, ◌∙◌, arith}
use Rattle.std.specs.Prelude.{min}
use Rattle.lu_grammar.specs.Records.{read_shape}
use Rattle.freq_skips.specs.declared.rules.RuledTerm.{RuledTerm}
use Rattle.positions.specs.Records.{occurrence_shape, position_gap}
use Rattle.positions.specs.Views.{occurrence_record_of}
use Rattle.positions.specs.Cursors.{CursorState, IsAmong}
use Rattle.positions.proofs.AmongLemmas.{among-next, among-never}
use Rattle.positions.proofs.occurrences.Occurrences.next.Goals as goal

pub returns-in-Err : goal.returns-in-Err
returns-in-Err c = λ t value occurrences passed left h.
    let i = c.self.inside in
    let old : CursorState = record { term = i.term; prx = i.prx.now; here = i.reading.cur; force = i.reading.force; position = i.reading.position; left = i.left } in
    let before : IsAmong t value occurrences passed left old = subst (λ (s : CursorState). IsAmong t value occurrences passed left s) (sym c.self.view_is) h in
    let flag = c.self.invariant.payloads ∙ ap (λ (x : RuledTerm). x.rules.payloads) before.term_is in
    let some : 0 < i.left = omega (arith, c.if-self-eq0.false) in
    absurd (among-never t value occurrences passed left old c.in-Err._bad before some
    (subst (λ (b : Bool). read_shape (occurrence_shape b i.reading.force) i.reading.cur ≡ Err c.in-Err._bad) flag c.in-Err.ensures.taken))

pub returns-in-Ok : goal.returns-in-Ok
returns-in-Ok c = λ t value occurrences passed left h.
    let i = c.self.inside in
    let two = c.take.new.self in
    let r = occurrence_record_of c.in-Ok.parts in
    let position = c.saturating_add-self-inside.result in
    let old : CursorState = record { term = i.term; prx = i.prx.now; here = i.reading.cur; force = i.reading.force; position = i.reading.position; left = i.left } in
    let new : CursorState = record { term = i.term; prx = i.prx.now; here = two.cur; force = two.force; position = position; left = i.left - 1 } in
    let before : IsAmong t value occurrences passed left old = subst (λ (s : CursorState). IsAmong t value occurrences passed left s) (sym c.self.view_is) h in
    let flag = c.self.invariant.payloads ∙ ap (λ (x : RuledTerm). x.rules.payloads) before.term_is in
    let taken = c.in-Ok.ensures.taken in
    let some : 0 < i.left = omega (arith, c.if-self-eq0.false) in
    let at = c.saturating_add-self-inside.ensures
    ∙ ap (λ (q : ℕ). min (q + c.position_gap-gap.result) 4294967295) taken.2
    ∙ ap (λ (g : ℕ). min (i.reading.position + g) 4294967295) (c.position_gap-gap.ensures ∙ ap (λ (b : Bool). position_gap b r.delta) (c.in-Ok.ensures.payloads ∙ flag)) in
    among-next t value occurrences passed left old new r before some
    (subst (λ (b : Bool). read_shape (occurrence_shape b i.reading.force) i.reading.cur ≡ Ok (r, two.cur)) flag taken.0)
    taken.1 refl refl (omega arith) at
