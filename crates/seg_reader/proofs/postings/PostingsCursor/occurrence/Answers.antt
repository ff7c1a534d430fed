use Rattle.std.proofs.Common.{sym, ap, subst, ◌∙◌}
use Rattle.seg_reader.specs.declared.beside.Beside.{Beside}
use Rattle.seg_reader.specs.declared.place.Place.{Place}
use Rattle.seg_reader.specs.declared.place.Place.TheVariants.{Within}
use Rattle.seg_reader.specs.Postings.{PostingsWalk}
use Rattle.seg_reader.specs.InnerCursor.{walk_at, AreTogether}
use Rattle.seg_reader.proofs.OpenLemmas.{IsTaken, can-open, counted, together-at, taken-at, together-within, taken-within}
use Rattle.seg_reader.proofs.postings.PostingsCursor.occurrence.Goals as goal

pub open-requires-clause-jump : goal.open-requires-clause-jump
open-requires-clause-jump c =
    let i = c.self.inside in
    let together = subst (λ (p : Place). AreTogether i.scan i.skips i.beside p i.omits) c.in-At.is c.self.invariant in
    can-open i.scan i.skips i.beside i.omits c.if-self.false c.in-At.entry together

pub open-requires-clause-counted : goal.open-requires-clause-counted
open-requires-clause-counted c =
    let i = c.self.inside in
    let together = subst (λ (p : Place). AreTogether i.scan i.skips i.beside p i.omits) c.in-At.is c.self.invariant in
    counted i.scan i.skips i.beside i.omits c.if-self.false c.in-At.entry together

pub invariant_of-self : goal.invariant_of-self
invariant_of-self c =
    let i = c.self.inside in
    let together = subst (λ (p : Place). AreTogether i.scan i.skips i.beside p i.omits) c.in-At.is c.self.invariant in
    together-at i.scan i.skips i.beside i.omits c.if-self.false c.in-At.entry together c.open.new.self.occurrences c.next.new.self c.open.new.self.ahead c.next.result c.open.ensures.open c.next.ensures c.open.ensures.settled

pub returns-in-At : goal.returns-in-At
returns-in-At c =
    let i = c.self.inside in
    let e = c.in-At.entry in
    let together = subst (λ (p : Place). AreTogether i.scan i.skips i.beside p i.omits) c.in-At.is c.self.invariant in
    let all = taken-at i.scan i.skips i.beside i.omits c.if-self.false e together c.open.new.self.occurrences c.next.new.self c.open.new.self.ahead c.next.result c.open.ensures.open c.next.ensures in
    let is = ap (λ (p : Place). walk_at i.scan i.beside p) (sym c.in-At.is) ∙ c.self.view_is in
    subst (λ (w : PostingsWalk). IsTaken w (walk_at i.scan (record { occurrences = c.next.new.self; ahead = c.open.new.self.ahead }) (Within e)) c.next.result) is all

pub invariant_of-self-in-Within : goal.invariant_of-self-in-Within
invariant_of-self-in-Within c =
    let i = c.self.inside in
    let new = c.next-in-Within.new.self in
    let together = subst (λ (p : Place). AreTogether i.scan i.skips i.beside p i.omits) c.in-Within.is c.self.invariant in
    subst (λ (p : Place). AreTogether i.scan i.skips (record { occurrences = new; ahead = i.beside.ahead }) p i.omits) (sym c.in-Within.is)
    (together-within i.scan i.skips i.beside i.omits c.if-self.false c.in-Within.field-0 together new c.next-in-Within.result c.next-in-Within.ensures)

pub returns-in-Within : goal.returns-in-Within
returns-in-Within c =
    let i = c.self.inside in
    let new = c.next-in-Within.new.self in
    let r = c.next-in-Within.result in
    let beside : Beside = record { occurrences = new; ahead = i.beside.ahead } in
    let together = subst (λ (p : Place). AreTogether i.scan i.skips i.beside p i.omits) c.in-Within.is c.self.invariant in
    let all = taken-within i.scan i.skips i.beside i.omits c.if-self.false c.in-Within.field-0 together new r c.next-in-Within.ensures in
    let back = subst (λ (p : Place). IsTaken (walk_at i.scan i.beside p) (walk_at i.scan beside p) r) (sym c.in-Within.is) all in
    subst (λ (w : PostingsWalk). IsTaken w (walk_at i.scan beside i.place) r) c.self.view_is back
