use Rattle.seg_merger.proofs.CountLemmas.{AreCounted}
use Rattle.seg_merger.proofs.merging.live_count.Given as goal

abbrev pub invariant-loop-reader : goal.invariant-loop-reader
invariant-loop-reader l = AreCounted l.readers l.reader-index l.count
