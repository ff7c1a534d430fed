use Rattle.std.proofs.Common.{◌+◌, ◌≤◌, ℕ, codes, ap, sym, subst, ◌∙◌, arith}
use Rattle.std.specs.Fmt.{decimal}
use Rattle.check_index.specs.Segments.{SegmentValue}
use Rattle.check_index.specs.Opened.{IsTermOf}
use Rattle.term_index.specs.Seeking.{most_seek_steps}
use Rattle.seg_reader.specs.Terms.{term_at, term_named}
use Rattle.seg_reader.specs.Postings.{PostingsWalk, postings_of, most_steps_to}
use Rattle.lu_listing.specs.InnerEntries.{AreOfTerm, AreReachedLines}
use Rattle.lu_listing.specs.Lines.{line, ◌▹◌}
use Rattle.lu_listing.proofs.PrintingLemmas.{prints-both, prints-same}
use Rattle.lu_listing.proofs.ReachedTexts.{text-of_none, text-of_term}
use Rattle.lu_listing.proofs.postings.postings_text.Goals as goal

pub returns-in_default-clause-lines : goal.returns-in_default-clause-lines
returns-in_default-clause-lines g c =
    let s = c.args.reader.now in
    let q = c.args.query.now in
    let found : c.seek-found.new.steps ≤ most_seek_steps s.dictionary = omega (arith, c.seek-found.ensures.bound, c.requires.seek) in
    let first = prints-same _ _ _ _ (ap (λ (n : ℕ). line (codes "segment" ▹ decimal n)) c.from.ensures) c.number_line.ensures in
    let second = prints-same _ _ _ _ (ap (λ (n : ℕ). line (codes "seek" ▹ decimal n)) c.count.ensures) c.number_line-2.ensures in
    (_, text-of_none s q.place q.field.now q.text.now q.from c.seek-found.new.steps c.in_default.ensures.term found, prints-both _ _ _ _ _ first second)

pub reached_text-requires-clause-entries : goal.reached_text-requires-clause-entries
reached_text-requires-clause-entries g c =
    let s = c.args.reader.now in
    let q = c.args.query.now in
    let term = c.in-Some.ensures.term in
    let same = c.seek-found.ensures.same in
    let is = c.postings.ensures term.0 (subst (λ (x : SegmentValue). IsTermOf x term.0 c.in-Some.info) (sym same) term.1) ∙ ap (λ (x : SegmentValue). postings_of x term.0 c.in-Some.info x.index.deleted) same in
    let of_term = c.reach_of-reach.ensures.entries (term_at s term.0) (ap (λ (x : SegmentValue). term_named x.index q.field.now q.text.now) same ∙ term.2) in
    subst (λ (w : PostingsWalk). AreOfTerm c.reach_of-reach.result.omits w.entries) (sym is) of_term

pub returns-clause-lines : goal.returns-clause-lines
returns-clause-lines g c =
    let s = c.args.reader.now in
    let q = c.args.query.now in
    let term = c.in-Some.ensures.term in
    let same = c.seek-found.ensures.same in
    let walk = c.postings.result in
    let is = c.postings.ensures term.0 (subst (λ (x : SegmentValue). IsTermOf x term.0 c.in-Some.info) (sym same) term.1) ∙ ap (λ (x : SegmentValue). postings_of x term.0 c.in-Some.info x.index.deleted) same in
    let found : c.seek-found.new.steps ≤ most_seek_steps s.dictionary = omega (arith, c.seek-found.ensures.bound, c.requires.seek) in
    let printed = c.reached_text.ensures in
    let reached = subst (λ (f : ℕ). AreReachedLines walk f (c.args.counts.now.walk + most_steps_to walk f) printed.0) c.reach_of-reach.ensures.from printed.1 in
    let first = prints-same _ _ _ _ (ap (λ (n : ℕ). line (codes "segment" ▹ decimal n)) c.from.ensures) c.number_line.ensures in
    let second = prints-same _ _ _ _ (ap (λ (n : ℕ). line (codes "seek" ▹ decimal n)) c.count.ensures) c.number_line-2.ensures in (
      _,
      text-of_term s q.place q.field.now q.text.now q.from c.seek-found.new.steps term.0 c.in-Some.info walk (c.args.counts.now.walk + most_steps_to walk q.from) printed.0 term.1 term.2 found is (omega (arith, c.requires.walk)) reached,
      prints-both _ _ _ _ _ first (prints-both _ _ _ _ _ second printed.2),
    )
