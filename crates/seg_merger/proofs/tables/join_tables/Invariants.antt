use Rattle.std.proofs.Common.{◌≡◌, drop, map}
use Rattle.std.specs.List.{fold}
use Rattle.lu_types.specs.Joins.{join}
use Rattle.lu_model.specs.Contents.{joined_table}
use Rattle.lu_model.specs.Index.{Index}
use Rattle.seg_merger.specs.Merged.{indexes_of}
use Rattle.seg_merger.proofs.tables.join_tables.Given as goal

-- what is left makes of the table that of all
abbrev pub invariant-loop-reader : goal.invariant-loop-reader
invariant-loop-reader l = joined_table (indexes_of l.readers) ≡ fold join l.table (map (λ (index : Index). index.fields) (indexes_of (drop l.reader-index l.readers)))
