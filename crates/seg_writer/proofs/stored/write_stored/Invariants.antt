use Rattle.std.proofs.Common.{◌≡◌, take, None}
use Rattle.seg_writer.specs.Stores.{stores_of}
use Rattle.seg_writer.proofs.stored.write_stored.Given as goal

abbrev pub invariant-loop-doc : goal.invariant-loop-doc
invariant-loop-doc l = l.writer ≡ record { finished = stores_of l.table (take l.doc-index l.docs); opened = None }
