use Rattle.std.proofs.Common.{ℕ, Bool, refl, sym, ap, subst, ◌∙◌}
use Rattle.freq_skips.specs.declared.rules.RuledTerm.{RuledTerm}
use Rattle.positions.specs.Standing.{PassesOver}
use Rattle.positions.specs.Cursors.{CursorState, IsAmong}
use Rattle.positions.proofs.AmongLemmas.{among-opened}
use Rattle.positions.proofs.occurrences.Occurrences.open_doc.Goals as goal

pub returns : goal.returns
returns c = λ t value occurrences passed entry left h omit le lt sum is.
    let i = c.self.inside in
    let one = c.pass.new.self in
    let two = c.pass-2.new.self in
    let old : CursorState = record { term = i.term; prx = i.prx.now; here = i.reading.cur; force = i.reading.force; position = i.reading.position; left = i.left } in
    let new : CursorState = record { term = i.term; prx = i.prx.now; here = two.cur; force = two.force; position = 0; left = c.args.freq } in
    let before : IsAmong t value occurrences passed left old = subst (λ (s : CursorState). IsAmong t value occurrences passed left s) (sym c.self.view_is) h in
    let flag = c.self.invariant.payloads ∙ ap (λ (x : RuledTerm). x.rules.payloads) before.term_is in
    let first = subst (λ (b : Bool). PassesOver b i.left i.reading.force i.reading.cur one.force one.cur) flag
    (subst (λ (n : ℕ). PassesOver i.reading.payloads n i.reading.force i.reading.cur one.force one.cur) c.from.ensures c.pass.ensures.passes) in
    let second = subst (λ (b : Bool). PassesOver b c.args.skip one.force one.cur two.force two.cur) (c.pass.ensures.payloads ∙ flag) c.pass-2.ensures.passes in
    among-opened t value occurrences passed entry c.args.skip c.args.freq left old new one.force one.cur before omit le lt sum is first second refl refl refl refl
