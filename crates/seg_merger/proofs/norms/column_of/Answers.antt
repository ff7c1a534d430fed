use Rattle.std.proofs.Common.{◌∙◌, ap}
use Rattle.lu_types.specs.Tables.{number_of}
use Rattle.seg_merger.proofs.NormLemmas.{column-all, column-named, column-none}
use Rattle.seg_merger.proofs.norms.column_of.Goals as goal

pub returns-in-Some-clause-norms : goal.returns-in-Some-clause-norms
returns-in-Some-clause-norms c =
    c.norm_column.ensures ∙ column-named c.args.name.now c.args.reader.now.index c.in-Some.number (c.in-Some.ensures ∙ ap (number_of c.args.name.now) c.fields.ensures)

pub returns-in-Some-clause-all : goal.returns-in-Some-clause-all
returns-in-Some-clause-all c = column-all c.args.reader.now.index c.size-size.ensures.valid c.in-Some.number c.norm_column.result c.norm_column.ensures

pub returns-in-None-clause-norms : goal.returns-in-None-clause-norms
returns-in-None-clause-norms c = column-none c.args.name.now c.args.reader.now.index c.size-size.ensures.valid (c.in-None.ensures ∙ ap (number_of c.args.name.now) c.fields.ensures)
