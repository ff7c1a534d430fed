use Rattle.std.proofs.Common.{subst}
use Rattle.std.specs.Prelude.{option_copied}
use Rattle.check_index.specs.Terms.{lists_in}
use Rattle.check_index.specs.Segments.{SegmentValue}
use Rattle.check_index.specs.Known.{AreKnown}
use Rattle.check_index.proofs.KnownCounts.{lists-count, occurrences-count, entries-count, kept-count}
use Rattle.check_index.proofs.standing.Standing.terms.Goals as goal

pub returns-clause-known : goal.returns-clause-known
returns-clause-known c =
    let i = c.self.inside in
    let fields = i.contents.fields in
    let d = i.contents.terms.terms in
    let frq = i.contents.terms.frq.now in
    let prx = option_copied i.contents.prx in
    let lists = lists_in fields i.size d frq in
    let tied = c.self.invariant in
    subst (λ (s : SegmentValue). AreKnown s) c.self.view_is (record {
      lists = lists-count fields i.size d frq lists tied.listed;
      occurrences = occurrences-count fields i.size d frq lists tied.listed prx tied.posted;
      entries = λ n info there. entries-count fields i.size d frq lists tied.listed n info there;
      kept = λ n info there keeps. kept-count fields i.size d frq lists tied.listed n info there prx tied.posted keeps;
    })
