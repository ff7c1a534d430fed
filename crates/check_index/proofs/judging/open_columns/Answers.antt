use Rattle.std.proofs.Common.{refl}
use Rattle.doc_marks.specs.Lent.{Deletions}
use Rattle.check_index.specs.declared.standing.OpenColumns.{OpenColumns}
use Rattle.check_index.specs.Files.{folder_of}
use Rattle.check_index.specs.Locating.{part_files_of}
use Rattle.check_index.specs.Norms.{FieldNorms}
use Rattle.check_index.specs.Vectors.{vectors_seen}
use Rattle.check_index.specs.Opened.{columns_of}
use Rattle.check_index.proofs.ContentFiles.{norms-fault, deletions-fault, vectors-fault, columns-stand}
use Rattle.check_index.proofs.judging.open_columns.Goals as goal

pub returns-in-Err-open_deletions-clause-judged : goal.returns-in-Err-open_deletions-clause-judged
returns-in-Err-open_deletions-clause-judged c =
    deletions-fault (columns_of c.args.info.now.size) (folder_of c.args.parts.now) (part_files_of c.args.files.now) c.args.info.now c.args.fields.now c.in-Ok.norms c.in-Ok.ensures.judged
    (λ (d : Deletions). d.documents) c.in-Err-open_deletions.fault c.in-Err-open_deletions.ensures.judged

pub returns-in-Err-open_vectors-clause-judged : goal.returns-in-Err-open_vectors-clause-judged
returns-in-Err-open_vectors-clause-judged c =
    let size = c.args.info.now.size in
    vectors-fault (columns_of size) (folder_of c.args.parts.now) (part_files_of c.args.files.now) c.args.info.now c.args.fields.now c.in-Ok.norms c.in-Ok.ensures.judged
    c.in-Ok-open_deletions.live.documents c.in-Ok-open_deletions.ensures.judged (vectors_seen size) c.in-Err-open_vectors.fault c.in-Err-open_vectors.ensures.judged

pub returns-clause-judged : goal.returns-clause-judged
returns-clause-judged c =
    let size = c.args.info.now.size in
    let all : OpenColumns = record { norms = c.in-Ok.norms; live = c.in-Ok-open_deletions.live; vectors = c.in-Ok-open_vectors.vectors } in
    columns-stand (columns_of size) (folder_of c.args.parts.now) (part_files_of c.args.files.now) c.args.info.now c.args.fields.now c.in-Ok.norms c.in-Ok.ensures.judged
    c.in-Ok-open_deletions.live.documents c.in-Ok-open_deletions.ensures.judged (columns_of size all).vectors all c.in-Ok-open_vectors.ensures.judged refl

pub returns-in-Err-clause-judged : goal.returns-in-Err-clause-judged
returns-in-Err-clause-judged c =
    norms-fault (columns_of c.args.info.now.size) (folder_of c.args.parts.now) (part_files_of c.args.files.now) c.args.info.now c.args.fields.now (λ (n : FieldNorms). n) c.in-Err.fault c.in-Err.ensures.judged
