use Rattle.std.proofs.Common.{◌∙◌, ap}
use Rattle.segment_infos.specs.Spelling.{commit_bytes}
use Rattle.lu_folder.specs.ChangeValues.{ChangeValue}
use Rattle.lu_folder.proofs.change.Change.bytes.Goals as goal

pub returns : goal.returns
returns c = c.as_slice.ensures ∙ c.self.invariant.2 ∙ ap (λ (v : ChangeValue). commit_bytes v.commit) c.self.view_is
