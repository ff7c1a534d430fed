use Rattle.std.proofs.Common.{◌≡◌, drop}
use Rattle.std.specs.Prelude.{flat_map}
use Rattle.lu_types.specs.Joins.{join, fields_of, table_of}
use Rattle.seg_writer.proofs.table.table_of.Given as goal

-- what is left makes of the table the table of all
abbrev pub invariant-loop-doc : goal.invariant-loop-doc
invariant-loop-doc l = table_of l.docs ≡ join l.table (flat_map fields_of (drop l.doc-index l.docs))
