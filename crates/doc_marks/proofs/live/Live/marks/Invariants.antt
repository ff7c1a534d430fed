use Rattle.std.proofs.Common.{◌≡◌, ◌-◌, ◌≤◌, ◌++◌, false, replicate}
use Rattle.doc_marks.specs.Marking.{flags_of}
use Rattle.doc_marks.proofs.live.Live.marks.Given as goal

-- the documents so far are marked where they are deleted
abbrev pub invariant-loop-doc : goal.invariant-loop-doc
invariant-loop-doc l = record {
  marks : l.marks ≡ flags_of 0 l.doc l.self.documents ++ replicate (l.size - l.doc) false;
  documents : l.walk.documents ≡ l.self.documents;
  from : l.walk.from ≤ l.doc;
}
