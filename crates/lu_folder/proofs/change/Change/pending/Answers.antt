use Rattle.std.proofs.Common.{◌∙◌, ap}
use Rattle.segment_infos.specs.Spelling.{commit_bytes, pending}
use Rattle.lu_folder.specs.ChangeValues.{commit_name}
use Rattle.lu_folder.specs.Changes.{pending_file}
use Rattle.lu_folder.proofs.WritingLemmas.{file-same}
use Rattle.lu_folder.proofs.change.Change.pending.Goals as goal

pub returns : goal.returns
returns c =
    file-same c.self.inside.pending (commit_name c.self.inside.generation) (pending (commit_bytes c.self.inside.commit)) c.self.invariant.0 c.self.invariant.1
    ∙ ap pending_file c.self.view_is
