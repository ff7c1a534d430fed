use Rattle.std.proofs.Common.{◌≡◌, Some, ap, subst, ◌∙◌}
use Rattle.seg_reader.specs.declared.place.Place.{Place}
use Rattle.seg_reader.specs.Postings.{PostingsWalk}
use Rattle.seg_reader.specs.InnerCursor.{entries_seen, here_at, AreTogether}
use Rattle.seg_reader.proofs.OccurrenceLemmas.{frequency-omitted, frequency-at, frequency-within}
use Rattle.seg_reader.proofs.postings.PostingsCursor.freq.Goals as goal

pub returns-then-self : goal.returns-then-self
returns-then-self c = λ e here.
    let i = c.self.inside in
    frequency-omitted i.scan i.skips i.beside i.omits i.place c.self.invariant c.if-self.true e (ap (λ (w : PostingsWalk). w.here) c.self.view_is ∙ here)

pub returns-in-At : goal.returns-in-At
returns-in-At c = λ e here.
    let i = c.self.inside in
    let entry = c.in-At.entry in
    let together = subst (λ (p : Place). AreTogether i.scan i.skips i.beside p i.omits) c.in-At.is c.self.invariant in
    let seen = entries_seen i.scan.entries.term i.scan.entries.value i.beside.occurrences.prx in
    let stands = ap (λ (w : PostingsWalk). w.here) c.self.view_is ∙ here in
    frequency-at i.scan i.skips i.beside i.omits entry together c.if-self.false e (subst (λ (p : Place). here_at seen i.scan.passed p ≡ Some e) c.in-At.is stands)

pub returns-in-Within : goal.returns-in-Within
returns-in-Within c = λ e here.
    let i = c.self.inside in
    let entry = c.in-Within.entry in
    let together = subst (λ (p : Place). AreTogether i.scan i.skips i.beside p i.omits) c.in-Within.is c.self.invariant in
    let seen = entries_seen i.scan.entries.term i.scan.entries.value i.beside.occurrences.prx in
    let stands = ap (λ (w : PostingsWalk). w.here) c.self.view_is ∙ here in
    frequency-within i.scan i.skips i.beside i.omits entry together c.if-self.false e (subst (λ (p : Place). here_at seen i.scan.passed p ≡ Some e) c.in-Within.is stands)
