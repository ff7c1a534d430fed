use Rattle.std.proofs.Common.{◌≡◌, length}
use Rattle.seg_merger.proofs.VectorLemmas.{AreSpansLeft}
use Rattle.seg_merger.proofs.vectors.write_spans.Given as goal

abbrev pub invariant-loop-span : goal.invariant-loop-span
invariant-loop-span l = AreSpansLeft l.fn.writer l.writer l.fn.terms.spans l.terms.spans × (l.terms ≡ record l.fn.terms { spans = l.terms.spans })

abbrev pub decreases-loop-span : goal.decreases-loop-span
decreases-loop-span l = length l.terms.spans
