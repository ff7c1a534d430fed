use Rattle.std.proofs.Common.{◌≤◌}
use Rattle.codec_tests.proofs.doc_marks_tests.agrees.Given as goal

-- no document behind the next one was asked for
abbrev pub invariant-loop-doc : goal.invariant-loop-doc
invariant-loop-doc g l = l.walk.from ≤ l.doc-counter
