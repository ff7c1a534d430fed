use Rattle.std.proofs.Common.{[], drop, map, ap, ◌∙◌}
use Rattle.term_dict.specs.Walk.{TermWalk}
use Rattle.seg_merger.specs.TermSources.{source_term}
use Rattle.seg_merger.proofs.SlotLemmas.{next-left, next-said}
use Rattle.seg_merger.proofs.StepLemmas.{with_left}
use Rattle.seg_merger.proofs.terms.slot.Slot.open.Goals as goal

pub returns : goal.returns
returns c =
    let s = c.args.reader.now in
    let w = c.in_ok-cursor.cursor in
    ap (λ ts. with_left (record { base = c.args.numbered.base; size = s.index.size; deleted = s.index.deleted; left = [] }) (map (source_term s.index.fields c.args.fields.now) ts))
    (next-left s w c.next-head.new.self c.next-head.result c.in_ok-cursor.ensures.said c.next-head.ensures.term c.next-head.ensures.passed (ap (λ (v : TermWalk). v.dictionary) c.in_ok-cursor.ensures.walk)
    ∙ ap (λ (v : TermWalk). drop v.passed s.index.terms) c.in_ok-cursor.ensures.walk)

pub invariant_of-result : goal.invariant_of-result
invariant_of-result c =
    let s = c.args.reader.now in
    let next = next-said s c.in_ok-cursor.cursor c.next-head.new.self c.next-head.result c.next-head.ensures.term c.next-head.ensures.passed (ap (λ (v : TermWalk). v.dictionary) c.in_ok-cursor.ensures.walk) in
    record { valid = c.size-size.ensures.valid; said = c.in_ok-cursor.ensures.said; walk = next.0; head = next.1; docs = c.requires.numbers.docs; fields = c.requires.fields }
