use Rattle.std.proofs.Common.{◌≡◌, [], get_or, map}
use Rattle.lu_model.specs.Contents.{live_from}
use Rattle.term_vectors.specs.VectorWriting.{IsDocumentWhole}
use Rattle.seg_merger.specs.Renumbered.{kept_vectors}
use Rattle.seg_merger.specs.VectorSteps.{with_vectors_of}
use Rattle.seg_merger.proofs.vectors.write_source.Given as goal

abbrev pub invariant-loop-doc : goal.invariant-loop-doc
invariant-loop-doc l = IsDocumentWhole l.writer
    × (l.writer ≡ with_vectors_of (map (λ document. kept_vectors l.fields.table.now l.fields.numbers.now (get_or l.reader.index.vectors document [])) (live_from l.reader.index.deleted 0 l.doc)) l.initial.writer)
