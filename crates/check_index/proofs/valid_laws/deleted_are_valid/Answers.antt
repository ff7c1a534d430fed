use Rattle.std.specs.Prelude.{is_some}
use Rattle.check_index.proofs.StandsLaws.{stands-by_files}
use Rattle.check_index.proofs.ValidDeleted.{deleted-are}
use Rattle.check_index.proofs.valid_laws.deleted_are_valid.Goals as goal

pub returns : goal.returns
returns c = record {
  rise = λ folder line x h. let by = stands-by_files folder line x h in (deleted-are (is_some line.del_gen) line.size line.deleted folder.del x.index.deleted by.del).rise;
  below = λ folder line x h. let by = stands-by_files folder line x h in (deleted-are (is_some line.del_gen) line.size line.deleted folder.del x.index.deleted by.del).below;
}
