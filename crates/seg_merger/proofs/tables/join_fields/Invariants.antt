use Rattle.std.proofs.Common.{◌≡◌, drop}
use Rattle.lu_types.specs.Joins.{join}
use Rattle.seg_merger.proofs.tables.join_fields.Given as goal

-- what is left makes of the table what all makes of it
abbrev pub invariant-loop-number : goal.invariant-loop-number
invariant-loop-number l = join l.fn.table l.fields ≡ join l.table (drop l.number l.fields)
