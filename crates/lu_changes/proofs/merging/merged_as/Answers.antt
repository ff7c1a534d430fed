use Rattle.lu_changes.specs.Basis.{basis_value}
use Rattle.seg_merger.specs.Merged.{indexes_of}
use Rattle.lu_changes.proofs.MergedFilesLemmas.{merges-written, merges-large, merges-many, written-sayable}
use Rattle.lu_changes.proofs.merging.merged_as.Goals as goal

pub returns-in-Ok-clause-merges : goal.returns-in-Ok-clause-merges
returns-in-Ok-clause-merges c =
    merges-written (basis_value c.args.basis.now) (indexes_of c.args.sources.now) c.args.number c.options_for-options.result c.options_for-options.ensures c.in-Ok.files c.in-Ok.ensures

pub returns-in-Ok-clause-made : goal.returns-in-Ok-clause-made
returns-in-Ok-clause-made c =
    written-sayable (basis_value c.args.basis.now) (indexes_of c.args.sources.now) c.args.number c.options_for-options.result c.options_for-options.ensures c.in-Ok.files c.in-Ok.ensures c.hold_commit.ensures c.requires.drawn c.requires.version

pub returns-in-Err-TooMany-clause-merges : goal.returns-in-Err-TooMany-clause-merges
returns-in-Err-TooMany-clause-merges c =
    merges-many (basis_value c.args.basis.now) (indexes_of c.args.sources.now) c.args.number c.options_for-options.result c.options_for-options.ensures c.in-Err-TooMany.field-0 _ c.in-Err-TooMany.field-0-is c.in-Err-TooMany.ensures

pub returns-in-Err-TooLarge-clause-merges : goal.returns-in-Err-TooLarge-clause-merges
returns-in-Err-TooLarge-clause-merges c =
    merges-large (basis_value c.args.basis.now) (indexes_of c.args.sources.now) c.args.number c.options_for-options.result c.options_for-options.ensures c.in-Err-TooLarge.field-0 c.in-Err-TooLarge.kind c.in-Err-TooLarge.field-0-is c.in-Err-TooLarge.ensures
