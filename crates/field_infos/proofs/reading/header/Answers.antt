use Rattle.std.proofs.Common.{◌≡◌, None, sym}
use Rattle.lu_grammar.specs.Records.{first_broken}
use Rattle.lu_grammar.proofs.Records.{record_at-read, record_at-breaks}
use Rattle.field_infos.specs.Fnm.{header as header_of, header_shape, header_conditions}
use Rattle.field_infos.proofs.Records.{format-good}
use Rattle.field_infos.proofs.reading.header.Goals as goal

pub returns-in-Some-clause-gives : goal.returns-in-Some-clause-gives
returns-in-Some-clause-gives c =
    record_at-breaks header_shape (header_conditions c.args.norm_fields) c.args.cur.now (header_of c.in-Ok.parts.0 c.in-Ok.parts.1) c.header_parts.new.cur c.in-Some.rule c.in-Ok.ensures.gives (sym c.in-Some.ensures)

pub returns-in-None-clause-gives : goal.returns-in-None-clause-gives
returns-in-None-clause-gives c =
    let good : first_broken (header_conditions c.args.norm_fields (header_of c.in-Ok.parts.0 c.in-Ok.parts.1)) ≡ None = sym c.in-None.ensures in
    rw (← format-good c.args.norm_fields c.in-Ok.parts.0 c.in-Ok.parts.1 good)
    (record_at-read header_shape (header_conditions c.args.norm_fields) c.args.cur.now (header_of c.in-Ok.parts.0 c.in-Ok.parts.1) c.header_parts.new.cur c.in-Ok.ensures.gives good)
