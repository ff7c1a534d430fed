use Rattle.std.proofs.Common.{◌≡◌, ◌++◌, map}
use Rattle.std.specs.Prelude.{option_copied}
use Rattle.lu_model.specs.Contents.{live_from}
use Rattle.seg_merger.specs.Renumbered.{norm_of}
use Rattle.seg_merger.proofs.norms.add_source.Given as goal

abbrev pub invariant-loop-doc : goal.invariant-loop-doc
invariant-loop-doc l = l.writer ≡ l.initial.writer ++ map (norm_of (option_copied l.norms)) (live_from l.reader.index.deleted 0 l.doc)
