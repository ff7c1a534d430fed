use Rattle.std.proofs.Common.{◌≡◌, take, map}
use Rattle.lu_types.specs.Fields.{table_field}
use Rattle.lu_types.proofs.joined.infos_of.Given as goal

-- the fields so far
abbrev pub invariant-loop-field : goal.invariant-loop-field
invariant-loop-field l = l.infos.items ≡ map table_field (take l.field-index l.fields)
