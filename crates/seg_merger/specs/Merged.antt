-- What merging answers, and which parts of segments it joins (format page, "Indexes" and "Canonical files").
use Rattle.std.specs.Prelude.{◌≡◌, ◌⊎◌, ℕ, cond, nat_lt, List, map, Option, None, Some, Result, Ok, Err}
use Rattle.std.specs.Global.{Global}
use Rattle.std.specs.List.{AllZip}
use Rattle.std.specs.declared.vec.Vec.{Vec}
use Rattle.lu_types.specs.Tables.{TableField}
use Rattle.lu_types.specs.declared.kind.FileKind.{FileKind}
use Rattle.lu_model.specs.Index.{Index}
use Rattle.lu_model.specs.Contents.{field_number, merge_of}
use Rattle.check_index.specs.Segments.{SegmentValue}
use Rattle.segment_files.specs.Written.{canonical_files, too_large_file}
use Rattle.segment_files.specs.declared.options.SegmentFiles.{SegmentFiles}
use Rattle.segment_files.specs.declared.options.WriteOptions.{WriteOptions}
use Rattle.seg_merger.specs.declared.fault.MergeFault.{MergeFault}
use Rattle.seg_merger.specs.declared.fault.MergeFault.TheVariants.{TooMany, TooLarge, OutOfMemory}

-- the indexes of segments
abbrev pub indexes_of : List SegmentValue → List Index
indexes_of sources = map (λ s. s.index) sources

-- what is due to a merge whose files may pass the limit: its canonical files, or the first that does
abbrev pub merged_files_due : Option FileKind → SegmentFiles → Result SegmentFiles MergeFault
merged_files_due None files = Ok files
merged_files_due (Some kind) files = Err (TooLarge kind)

-- what merging indexes is to answer: how many documents are live, where these are too many; else the first canonical file of their merge that passes the limit; else these files
abbrev pub merged_segment : List Index → WriteOptions → Result SegmentFiles MergeFault
merged_segment indexes options = let merged = merge_of indexes in
    cond (nat_lt options.limits.documents merged.size) (Err (TooMany merged.size)) (merged_files_due (too_large_file options merged) (canonical_files options merged))

-- a call answers what it is to answer, or that there was no memory
abbrev pub AnswersMerge : Result SegmentFiles MergeFault → Result SegmentFiles MergeFault → Type 0
AnswersMerge due answer = (answer ≡ due) ⊎ (answer ≡ Err OutOfMemory)

-- ---- the parts of sources

-- the numbers that the fields of a segment have in a table
abbrev pub numbers_in : List TableField → SegmentValue → List ℕ
numbers_in table s = map (λ field. field_number field.name table) s.index.fields

-- these are the numbers that the fields of each segment have in a table
abbrev pub AreFieldNumbers : List TableField → List SegmentValue → List (Vec ℕ Global) → Type 0
AreFieldNumbers table sources numbers = AllZip (λ s ns. ns.items ≡ numbers_in table s) sources numbers
