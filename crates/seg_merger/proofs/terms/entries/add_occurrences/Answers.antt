use Rattle.std.proofs.Common.{sym, ap, ◌∙◌, subst}
use Rattle.std.proofs.lemmas.Bool.{false≢true}
use Rattle.posting_files.specs.States.{PostingState}
use Rattle.positions.specs.Views.{occurrence_seen}
use Rattle.seg_reader.specs.Postings.{PostingsWalk}
use Rattle.seg_merger.specs.TermSteps.{AreWritable}
use Rattle.seg_merger.proofs.PutLemmas.{occurrence-next, writable-first}
use Rattle.seg_merger.proofs.terms.entries.add_occurrences.Goals as goal

pub loop-more-preserved : goal.loop-more-preserved
loop-more-preserved c =
    let o = occurrence_seen c.in-Some.occ in
    let split = c.in-Some.ensures.0 in
    let left = c.occurrence.new.self.left in
    let puts = c.in-Ok.ensures in
    let inv = c.loop-more.invariant in
    let first = writable-first c.loop-more.writer.prox.position c.loop-more.postings.left left o split inv.writable in
    record {
      writable = subst (λ (s : PostingState). AreWritable s.prox.position left) (sym puts) first.3;
      lists = ap (λ (s : PostingState). s.lists) puts ∙ inv.lists;
      begun = λ at es h. occurrence-next o c.loop-more.writer c.add_occurrence.new.self c.loop-more.postings.left left c.args.postings.now.left split puts at es (inv.begun at es h);
      walk = c.in-Some.ensures.1 ∙ ap (λ (w : PostingsWalk). record w { left = left }) inv.walk;
      ended = λ e. absurd (false≢true (sym e ∙ c.loop-more-test.true));
    }
