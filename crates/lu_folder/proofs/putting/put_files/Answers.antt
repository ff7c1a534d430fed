use Rattle.std.proofs.Common.{take, ◌+◌, ◌∙◌, arith}
use Rattle.lu_dir.specs.Files.{with_file, CreateLeaves}
use Rattle.lu_folder.specs.Writing.{with_new_files, WritesOnly}
use Rattle.lu_dir.proofs.Told.{Leaves-after, changed-changed}
use Rattle.lu_folder.proofs.WritingLemmas.{with_new_files-next, WritesOnly-next}
use Rattle.lu_folder.proofs.putting.put_files.Goals as goal

pub returns-in-Err-clause-left : goal.returns-in-Err-clause-left
returns-in-Err-clause-left g c =
    Leaves-after (with_new_files (take c.loop-file.file-index c.args.files.now)) (CreateLeaves c.file-item.result.name c.file-item.result.bytes) (WritesOnly c.args.files.now) (g.D.Dir.files c.args.dir.now) (g.D.Dir.files c.loop-file.dir) (g.D.Dir.files c.put_file.new.dir)
    c.loop-file.invariant.made
    (λ old new left. WritesOnly-next c.args.files.now c.loop-file.file-index c.file-item.result old new c.loop-file-test.true c.file-item.is left)
    c.in-Err.ensures.left

pub loop-file-preserved : goal.loop-file-preserved
loop-file-preserved g c = record {
  made = changed-changed (with_new_files (take c.loop-file.file-index c.args.files.now)) (with_file c.file-item.result.name c.file-item.result.bytes) (with_new_files (take (c.loop-file.file-index + 1) c.args.files.now)) (g.D.Dir.files c.args.dir.now) (g.D.Dir.files c.loop-file.dir) (g.D.Dir.files c.put_file.new.dir)
      c.loop-file.invariant.made c.in-Ok.ensures.made
      (λ files. with_new_files-next c.args.files.now c.loop-file.file-index c.file-item.result files c.loop-file-test.true c.file-item.is);
  asked = c.in-Ok.ensures.asked ∙ c.loop-file.invariant.asked;
  later = omega (arith, c.in-Ok.ensures.cause.later, c.loop-file.invariant.later);
}
