use Rattle.std.proofs.Common.{◌≡◌, [], get_or, map}
use Rattle.lu_model.specs.Contents.{live_from}
use Rattle.seg_merger.specs.Renumbered.{renumbered_values, with_finished}
use Rattle.seg_merger.proofs.stored.write_source.Given as goal

abbrev pub invariant-loop-doc : goal.invariant-loop-doc
invariant-loop-doc l = l.writer ≡ with_finished (map (λ document. renumbered_values l.numbers (get_or l.reader.index.stored document [])) (live_from l.reader.index.deleted 0 l.doc)) l.initial.writer
