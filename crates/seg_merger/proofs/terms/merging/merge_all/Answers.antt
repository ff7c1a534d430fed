use Rattle.std.proofs.Common.{subst}
use Rattle.segment_files.specs.Postings.{kept_terms}
use Rattle.seg_merger.specs.TermSteps.{IsOn}
use Rattle.seg_merger.proofs.RestLemmas.{terms-none}
use Rattle.seg_merger.proofs.terms.merging.merge_all.Goals as goal

pub returns-in-Err : goal.returns-in-Err
returns-in-Err g c i limit all h = c.in-Err.ensures.terms i limit all (c.loop-more.invariant.terms i limit all h)

pub returns : goal.returns
returns g c i limit all h =
    subst (λ ts. IsOn i limit all (kept_terms c.args.fields.now ts) c.loop-more.writer) (terms-none c.args.fields.now c.loop-more.contest.rests (c.loop-more.invariant.ended c.loop-more-test.false)) (c.loop-more.invariant.terms i limit all h)
