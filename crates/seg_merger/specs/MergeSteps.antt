-- How segments are merged, step by step.
use Rattle.std.specs.Prelude.{Result, Ok, Err}
use Rattle.lu_model.specs.Index.{Index}
use Rattle.segment_files.specs.Written.{canonical_files, too_large_file}
use Rattle.segment_files.specs.declared.options.SegmentFiles.{SegmentFiles}
use Rattle.segment_files.specs.declared.options.WriteOptions.{WriteOptions}
use Rattle.seg_writer.specs.declared.fault.WriteFault.{WriteFault}
use Rattle.seg_writer.specs.declared.fault.WriteFault.TheVariants as write
use Rattle.seg_merger.specs.declared.fault.MergeFault.{MergeFault}
use Rattle.seg_merger.specs.declared.fault.MergeFault.TheVariants.{TooLarge, OutOfMemory}
use Rattle.seg_merger.specs.Merged.{AnswersMerge, merged_files_due}

-- no document is at fault
abbrev pub IsOfMerge : WriteFault → Type 0
IsOfMerge (write.Doc number fault) = ⊥
IsOfMerge (write.TooLarge kind) = Unit {0}
IsOfMerge write.OutOfMemory = Unit {0}

-- why segments were not merged
abbrev pub merge_fault : WriteFault → MergeFault
merge_fault (write.Doc number fault) = OutOfMemory
merge_fault (write.TooLarge kind) = TooLarge kind
merge_fault write.OutOfMemory = OutOfMemory

-- the files of an index are written, or that the first of them passes the limit; or there was no memory
abbrev pub AnswersFiles : WriteOptions → Index → Result SegmentFiles MergeFault → Type 0
AnswersFiles options index answer = AnswersMerge (merged_files_due (too_large_file options index) (canonical_files options index)) answer
