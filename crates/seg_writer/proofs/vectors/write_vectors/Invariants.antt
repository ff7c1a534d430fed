use Rattle.std.proofs.Common.{◌≡◌, take}
use Rattle.term_vectors.specs.VectorWriting.{no_vectors_written}
use Rattle.seg_writer.proofs.VectorHeldLemmas.{with_whole_documents}
use Rattle.seg_writer.proofs.VectorFieldLemmas.{vectors_by_fields}
use Rattle.seg_writer.proofs.vectors.write_vectors.Given as goal

abbrev pub invariant-loop-doc : goal.invariant-loop-doc
invariant-loop-doc l = l.writer ≡ with_whole_documents (vectors_by_fields l.table (take l.doc-index l.docs)) no_vectors_written
