use Rattle.std.proofs.Common.{take, map}
use Rattle.std.specs.List.{filter}
use Rattle.lu_model.specs.Contents.{name_of}
use Rattle.seg_writer.specs.Appearing.{HaveMore, appeared_in, is_field_named}
use Rattle.seg_writer.proofs.columns.add_fields.Given as goal

abbrev pub invariant-loop-field : goal.invariant-loop-field
invariant-loop-field l = HaveMore (λ n. map (appeared_in l.doc) (filter (is_field_named (name_of l.table n)) (take l.field-index l.fields))) l.initial.columns.items l.columns.items
