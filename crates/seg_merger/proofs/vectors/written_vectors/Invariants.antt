use Rattle.std.proofs.Common.{◌≡◌, take}
use Rattle.std.specs.Prelude.{flat_map}
use Rattle.check_index.specs.Segments.{SegmentValue}
use Rattle.term_vectors.specs.VectorWriting.{IsDocumentWhole, no_vectors_written}
use Rattle.seg_merger.specs.VectorSteps.{with_vectors_of}
use Rattle.seg_merger.proofs.SourceLemmas.{vectors_under}
use Rattle.seg_merger.proofs.vectors.written_vectors.Given as goal

abbrev pub invariant-loop-place : goal.invariant-loop-place
invariant-loop-place l = IsDocumentWhole l.writer × (l.writer ≡ with_vectors_of (flat_map (λ (s : SegmentValue). vectors_under l.table s.index) (take l.place l.readers)) no_vectors_written)
