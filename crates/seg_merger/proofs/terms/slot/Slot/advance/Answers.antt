use Rattle.std.proofs.Common.{[], ap, ◌∙◌}
use Rattle.seg_merger.proofs.SlotLemmas.{gone-left, next-said}
use Rattle.seg_merger.proofs.StepLemmas.{with_left}
use Rattle.seg_merger.proofs.TurnLemmas.{gone}
use Rattle.seg_merger.proofs.terms.slot.Slot.advance.Goals as goal

pub returns : goal.returns
returns c =
    let i = c.self.inside in
    ap (with_left (record { base = i.numbered.base; size = i.reader.now.index.size; deleted = i.reader.now.index.deleted; left = [] }))
    (gone-left i c.self.invariant c.next-self-inside.new.self c.next-self-inside.result c.next-self-inside.ensures.term c.next-self-inside.ensures.passed)
    ∙ ap gone c.self.view_is

pub invariant_of-self : goal.invariant_of-self
invariant_of-self c =
    let i = c.self.inside in
    let h = c.self.invariant in
    let next = next-said i.reader.now i.cursor c.next-self-inside.new.self c.next-self-inside.result c.next-self-inside.ensures.term c.next-self-inside.ensures.passed h.walk in
    record { valid = h.valid; said = h.said; walk = next.0; head = next.1; docs = h.docs; fields = h.fields }
