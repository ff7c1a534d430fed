use Rattle.std.proofs.Common.{◌≡◌, drop, take, All}
use Rattle.lu_types.specs.Documents.{IsDocument}
use Rattle.seg_writer.specs.Answers.{first_faulty}
use Rattle.seg_writer.proofs.documents.check_documents.Given as goal

abbrev pub invariant-loop-number : goal.invariant-loop-number
invariant-loop-number l = (first_faulty l.limits 0 l.docs ≡ first_faulty l.limits l.number (drop l.number l.docs)) × All IsDocument (take l.number l.docs)
