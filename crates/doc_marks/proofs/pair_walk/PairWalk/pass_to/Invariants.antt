use Rattle.std.proofs.Common.{◌≡◌, ◌-◌}
use Rattle.doc_marks.specs.Walking.{PairsAt, walk_documents}
use Rattle.doc_marks.proofs.pair_walk.PairWalk.pass_to.Given as goal

-- the walk stands among its pairs, and those that were passed are behind the document
abbrev pub invariant-loop-segment : goal.invariant-loop-segment
invariant-loop-segment l = record {
  walking : PairsAt l.fn.self.segment.size l.fn.self.segment.count (walk_documents l.fn.self) l.self.passed.index l.self.passed.documents l.self.marks l.self.cur l.doc;
  file : l.self.del ≡ l.fn.self.del;
  segment : l.self.segment ≡ l.fn.self.segment;
}

abbrev pub decreases-loop-segment : goal.decreases-loop-segment
decreases-loop-segment l = l.fn.self.segment.count - l.self.passed.documents
