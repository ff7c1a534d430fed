use Rattle.std.proofs.Common.{◌≡◌, ◌++◌, drop}
use Rattle.seg_merger.specs.Merged.{indexes_of}
use Rattle.seg_merger.proofs.NormLemmas.{norms_of_fields}
use Rattle.seg_merger.proofs.norms.add_fields.Given as goal

-- with the norms of the fields that are left it has those of all
abbrev pub invariant-loop-field : goal.invariant-loop-field
invariant-loop-field l = l.writer ++ norms_of_fields (indexes_of l.readers) (drop l.field-index l.fields) ≡ l.initial.writer ++ norms_of_fields (indexes_of l.readers) l.fields
