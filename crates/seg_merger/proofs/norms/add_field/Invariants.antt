use Rattle.std.proofs.Common.{◌≡◌, ◌++◌, drop}
use Rattle.seg_merger.specs.Merged.{indexes_of}
use Rattle.seg_merger.specs.Renumbered.{merged_norms}
use Rattle.seg_merger.proofs.norms.add_field.Given as goal

-- with the norms that are left it has those of all
abbrev pub invariant-loop-reader : goal.invariant-loop-reader
invariant-loop-reader l = l.writer ++ merged_norms (indexes_of (drop l.reader-index l.readers)) l.name ≡ l.initial.writer ++ merged_norms (indexes_of l.readers) l.name
