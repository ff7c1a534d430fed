use Rattle.std.proofs.Common.{sym}
use Rattle.lu_grammar.proofs.Records.{record_at-read, record_at-breaks}
use Rattle.lu_types.specs.Fields.{table_field}
use Rattle.field_infos.specs.Fnm.{field as field_of, field_shape, field_conditions}
use Rattle.field_infos.proofs.Records.{field-good}
use Rattle.field_infos.proofs.reading.field.Goals as goal

pub returns-in-Some-clause-gives : goal.returns-in-Some-clause-gives
returns-in-Some-clause-gives c =
    record_at-breaks field_shape (field_conditions c.args.has_prox c.args.table.now) c.args.cur.now (field_of (table_field c.in-Ok.found)) c.field_parts.new.cur c.in-Some.rule c.in-Ok.ensures (sym c.in-Some.ensures)

pub returns-in-None-clause-gives : goal.returns-in-None-clause-gives
returns-in-None-clause-gives c =
    record_at-read field_shape (field_conditions c.args.has_prox c.args.table.now) c.args.cur.now (field_of (table_field c.in-Ok.found)) c.field_parts.new.cur c.in-Ok.ensures (sym c.in-None.ensures)

pub returns-in-None-clause-new : goal.returns-in-None-clause-new
returns-in-None-clause-new c = field-good c.args.has_prox c.args.table.now (table_field c.in-Ok.found) (sym c.in-None.ensures)
