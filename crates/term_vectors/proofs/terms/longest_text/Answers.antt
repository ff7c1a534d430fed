use Rattle.std.proofs.Common.{◌+◌, length, arith}
use Rattle.term_vectors.proofs.TermWalkLemmas.{ord_max-above, longest-none, longest-next, longest-more, longest-all}
use Rattle.term_vectors.proofs.terms.longest_text.Goals as goal

pub loop-nth-init : goal.loop-nth-init
loop-nth-init c = longest-none c.args.tvf.now c.args.bits c.args.count c.args.place c.requires.within c.requires.there

pub term_at-parts-requires-clause-within : goal.term_at-parts-requires-clause-within
term_at-parts-requires-clause-within c = c.loop-nth.invariant.within

pub term_at-parts-requires-clause-there : goal.term_at-parts-requires-clause-there
term_at-parts-requires-clause-there c =
    let next = longest-next c.args.tvf.now c.args.bits c.args.count c.args.place c.loop-nth._nth c.loop-nth.here c.loop-nth.longest c.loop-nth.invariant c.loop-nth-test.true in
    (c.loop-nth.invariant.before, next.0, next.1)

pub loop-nth-preserved : goal.loop-nth-preserved
loop-nth-preserved c =
    let w = c.loop-nth.invariant in
    let next = longest-next c.args.tvf.now c.args.bits c.args.count c.args.place c.loop-nth._nth c.loop-nth.here c.loop-nth.longest w c.loop-nth-test.true in
    let has = c.term_at-parts.ensures w.before next.0.0 next.0.1 next.1 in
    let above = ord_max-above c.loop-nth.longest (c.term_at-parts.result.prefix + length c.term_at-parts.result.suffix.now) in
    longest-more c.args.tvf.now c.args.bits c.args.count c.args.place c.loop-nth._nth c.loop-nth.here c.loop-nth.longest c.max-longest.result c.term_at-parts.result w c.loop-nth-test.true has (omega (arith, above.0)) (omega (arith, above.1))

pub returns : goal.returns
returns c = longest-all c.args.tvf.now c.args.bits c.args.count c.args.place c.loop-nth._nth c.loop-nth.here c.loop-nth.longest c.loop-nth.invariant (omega arith)
