use Rattle.std.proofs.Common.{◌≡◌, None, take}
use Rattle.std.specs.Prelude.{flat_map}
use Rattle.lu_model.specs.Contents.{joined_table}
use Rattle.check_index.specs.Segments.{SegmentValue}
use Rattle.seg_merger.specs.Merged.{indexes_of}
use Rattle.seg_merger.proofs.SourceLemmas.{stored_under}
use Rattle.seg_merger.proofs.stored.write_stored.Given as goal

abbrev pub invariant-loop-place : goal.invariant-loop-place
invariant-loop-place l = l.writer ≡ record { finished = flat_map (λ (s : SegmentValue). stored_under (joined_table (indexes_of l.readers)) s.index) (take l.place l.readers); opened = None }
