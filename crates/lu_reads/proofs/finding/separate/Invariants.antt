use Rattle.std.proofs.Common.{◌≡◌, ◌≤◌, map}
use Rattle.std.specs.List.{range_with_len}
use Rattle.lu_types.specs.declared.kind.FileKind.TheVariants as kinds
use Rattle.lu_reads.specs.Finding.{file_among}
use Rattle.lu_reads.proofs.finding.separate.Given as goal

-- the files so far
abbrev pub invariant-loop-field : goal.invariant-loop-field
invariant-loop-field l = (l.field ≤ l.field-end) × (l.files ≡ map (λ field. file_among l.loaded.names l.loaded.found l.info (kinds.Sep field)) (range_with_len 0 l.field))
