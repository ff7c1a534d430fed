use Rattle.std.proofs.Common.{Err, sym, subst}
use Rattle.lu_model.specs.Contents.{merge_of}
use Rattle.seg_merger.specs.declared.fault.MergeFault.{MergeFault}
use Rattle.seg_merger.specs.Merged.{indexes_of}
use Rattle.seg_merger.specs.MergeSteps.{AnswersFiles}
use Rattle.seg_merger.proofs.MergeLemmas.{files-told, packing-fault, parts-fault, parts-of-merge}
use Rattle.seg_merger.proofs.merging.merged.Goals as goal

pub merge_fault-requires : goal.merge_fault-requires
merge_fault-requires g c = parts-of-merge c.args.options.now (merge_of (indexes_of c.args.readers.now)) c.in-Err.fault c.in-Err.ensures

pub returns : goal.returns
returns g c =
    files-told c.args.options.now (merge_of (indexes_of c.args.readers.now)) c.in-Ok.parts c.in-Ok.ensures c.in-Ok-files_of.files c.new.result c.args.documents c.in-Ok-files_of.ensures c.new.ensures c.requires.documents

pub returns-in-Err : goal.returns-in-Err
returns-in-Err g c =
    let merged = merge_of (indexes_of c.args.readers.now) in
    subst (λ (fault : MergeFault). AnswersFiles c.args.options.now merged (Err fault)) (sym c.merge_fault.ensures) (parts-fault c.args.options.now merged c.in-Err.fault c.in-Err.ensures)

pub returns-in-Err-files_of : goal.returns-in-Err-files_of
returns-in-Err-files_of g c =
    let merged = merge_of (indexes_of c.args.readers.now) in
    subst (λ (fault : MergeFault). AnswersFiles c.args.options.now merged (Err fault)) (sym c.merge_fault-in-Err-files_of.ensures) (packing-fault c.args.options.now merged c.in-Ok.parts c.in-Ok.ensures c.in-Err-files_of.fault c.in-Err-files_of.ensures)
