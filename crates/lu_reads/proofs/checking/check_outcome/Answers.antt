use Rattle.std.proofs.Common.{Option, Result, Ok, refl, subst, ◌∙◌}
use Rattle.std.specs.Option.{ForSome}
use Rattle.std.proofs.lemmas.Result.{IfOk-weaker}
use Rattle.lu_dir.specs.Files.{Files}
use Rattle.lu_folder.specs.Choosing.{AnswersNewest}
use Rattle.lu_folder.specs.declared.choosing.Chosen.{Chosen}
use Rattle.lu_folder.specs.declared.fault.FolderFault.{FolderFault}
use Rattle.lu_reads.specs.Checking.{CommitSays}
use Rattle.lu_reads.proofs.CheckLemmas.{says-chosen}
use Rattle.lu_reads.proofs.checking.check_outcome.Goals as goal

pub returns-in-Ok-newest-clause-due : goal.returns-in-Ok-newest-clause-due
returns-in-Ok-newest-clause-due g c =
    let chosen = c.in-Ok-newest.chosen in
    let answer : Result Chosen FolderFault = Ok chosen in
    IfOk-weaker c.commit_outcome.result (λ outcome. CommitSays (g.D.Dir.files c.newest.new.dir) c.chosen.inside.0.0 c.as_slice.result.now outcome) _
    (λ outcome says. (
      c.requires,
      (
        answer,
        subst (λ (files : Option Files). ForSome files (λ told. AnswersNewest told answer)) c.in-Ok.ensures.files c.in-Ok-newest.ensures.told,
        subst (λ (files : Option Files). CommitSays files chosen.generation chosen.commit.segments outcome) (c.in-Ok-newest.ensures.files ∙ c.in-Ok.ensures.files)
            (says-chosen (g.D.Dir.files c.newest.new.dir) c.chosen.inside.0.0 c.as_slice.result.now _ chosen outcome refl c.as_slice.ensures c.chosen.view_is says),
      ),
    ))
    c.commit_outcome.ensures.says
