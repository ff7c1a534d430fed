use Rattle.std.proofs.Common.{◌≡◌, ◌++◌, not, map, sym, ap, ◌∙◌, subst}
use Rattle.std.specs.Prelude.{IfOk}
use Rattle.std.specs.List.{AllByRecursion}
use Rattle.lu_types.specs.Joins.{is_empty}
use Rattle.lu_model.specs.Index.{IndexedEntry}
use Rattle.seg_merger.specs.TermNumbers.{HasNumber, renamed}
use Rattle.seg_merger.specs.TermSources.{entries_of_first}
use Rattle.seg_merger.specs.TermSteps.{IsGoing, IsInTerm}
use Rattle.seg_merger.proofs.DocumentLemmas.{numbered-live, renamed-live}
use Rattle.seg_merger.proofs.terms.merging.add_first.Goals as goal

pub add_entries-requires-clause-numbered : goal.add_entries-requires-clause-numbered
add_entries-requires-clause-numbered g c =
    let r = c.args.slot.now in
    subst (AllByRecursion (λ (e : IndexedEntry). HasNumber c.docs.result.now e.document)) (sym c.postings-postings.ensures)
    (numbered-live r.base r.deleted r.size c.docs.result.now c.docs.ensures (entries_of_first r.left) c.requires.low)

pub add_entries-requires-clause-going : goal.add_entries-requires-clause-going
add_entries-requires-clause-going g c =
    let r = c.args.slot.now in
    let own = ap (map (renamed c.args.bits c.docs.result.now)) c.postings-postings.ensures ∙ renamed-live c.args.bits r.base r.deleted r.size c.docs.result.now c.docs.ensures (entries_of_first r.left) c.requires.low in
    (c.requires.going.0, subst (λ es. IsGoing c.args.bits (es ++ c.requires.going.0) c.args.writer.now) (sym own) c.requires.going.1)

pub returns-clause-adds : goal.returns-clause-adds
returns-clause-adds g c at all more h =
    let r = c.args.slot.now in
    let own = ap (map (renamed c.args.bits c.docs.result.now)) c.postings-postings.ensures ∙ renamed-live c.args.bits r.base r.deleted r.size c.docs.result.now c.docs.ensures (entries_of_first r.left) c.requires.low in
    c.add_entries.ensures.adds at all more (subst (λ es. IsInTerm at all (es ++ more) c.args.writer.now) (sym own) h)

pub returns-clause-some : goal.returns-clause-some
returns-clause-some g c =
    let r = c.args.slot.now in
    let own = ap (map (renamed c.args.bits c.docs.result.now)) c.postings-postings.ensures ∙ renamed-live c.args.bits r.base r.deleted r.size c.docs.result.now c.docs.ensures (entries_of_first r.left) c.requires.low in
    subst (λ es. IfOk c.add_entries.result (λ some. some ≡ not (is_empty es))) own c.add_entries.ensures.some
