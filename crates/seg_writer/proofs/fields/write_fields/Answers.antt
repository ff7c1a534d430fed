use Rattle.lu_types.specs.declared.kind.FileKind.TheVariants.{Fnm}
use Rattle.seg_writer.proofs.FnmLemmas.{fnm-past}
use Rattle.seg_writer.proofs.fields.write_fields.Goals as goal

pub returns-then-fields-ge-NUMBERS : goal.returns-then-fields-ge-NUMBERS
returns-then-fields-ge-NUMBERS c = fnm-past c.args.limit Fnm c.args.fields.now c.requires.limit c.if-fields-ge-NUMBERS.true
