use Rattle.std.proofs.Common.{Option, ap, sym, subst, ◌∙◌, ℕ}
use Rattle.check_index.specs.Segments.{SegmentValue}
use Rattle.check_index.specs.Opened.{IsTermOf}
use Rattle.seg_reader.specs.Postings.{entries_left}
use Rattle.lu_model.specs.Index.{IndexedTerm}
use Rattle.lu_changes.specs.EntryMarks.{with_marks, entries_of_term, AreBelow}
use Rattle.lu_changes.proofs.EntryMarkLemmas.{sought-left, sought-below}
use Rattle.lu_changes.proofs.marking.mark_term.Goals as goal

pub all_postings-requires : goal.all_postings-requires
all_postings-requires c =
    let term = c.in-Some.ensures.term in
    (term.0, subst (λ (s : SegmentValue). IsTermOf s term.0 c.in-Some.term) (sym c.in-Some.ensures.same) term.1)

pub mark_entries-requires : goal.mark_entries-requires
mark_entries-requires c =
    let term = c.in-Some.ensures.term in
    let is = c.all_postings.ensures term.0 (subst (λ (s : SegmentValue). IsTermOf s term.0 c.in-Some.term) (sym c.in-Some.ensures.same) term.1) in
    subst (λ (n : ℕ). AreBelow n (entries_left c.all_postings.result)) (sym c.requires)
    (sought-below c.args.reader c.seek.new.self term.0 c.in-Some.term c.all_postings.result c.args.target.field.now c.args.target.text.now c.in-Some.ensures.same is term.2 c.size-size.ensures.valid)

pub returns-in-Some : goal.returns-in-Some
returns-in-Some c =
    let term = c.in-Some.ensures.term in
    let is = c.all_postings.ensures term.0 (subst (λ (s : SegmentValue). IsTermOf s term.0 c.in-Some.term) (sym c.in-Some.ensures.same) term.1) in
    c.mark_entries.ensures ∙ ap (with_marks c.args.marks.now) (sought-left c.args.reader c.seek.new.self term.0 c.in-Some.term c.all_postings.result c.args.target.field.now c.args.target.text.now c.in-Some.ensures.same is term.2)

pub returns : goal.returns
returns c = ap (λ (term : Option IndexedTerm). with_marks c.args.marks.now (entries_of_term term)) (sym c.in-None.ensures.term)
