use Rattle.std.proofs.Common.{ap, ◌∙◌}
use Rattle.seg_reader.specs.Postings.{entries_left}
use Rattle.seg_merger.specs.TermRests.{Rest}
use Rattle.seg_merger.specs.TermSources.{entries_of_first, live_entries}
use Rattle.seg_merger.proofs.SlotLemmas.{postings-left, stands}
use Rattle.seg_merger.proofs.terms.slot.Slot.postings.Goals as goal

pub returns : goal.returns
returns c =
    let i = c.self.inside in
    let on = stands i c.in-Some.info c.self.invariant c.in-Some.is in
    ap entries_left (c.postings.ensures on.n on.is_term)
    ∙ postings-left i c.self.invariant c.in-Some.info c.in-Some.is
    ∙ ap (λ (r : Rest). live_entries r.deleted (entries_of_first r.left)) c.self.view_is
