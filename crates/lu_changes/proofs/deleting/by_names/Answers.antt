use Rattle.std.proofs.Common.{Option, subst}
use Rattle.std.proofs.lemmas.Result.{IfOk-weaker}
use Rattle.lu_dir.specs.Files.{Files}
use Rattle.lu_dir.specs.Loading.{texts}
use Rattle.lu_folder.specs.Drawing.{next_generation}
use Rattle.lu_reads.specs.Checking.{Refuses}
use Rattle.lu_changes.specs.Following.{GenerationFollows}
use Rattle.lu_changes.specs.Deleting.{MarksGive}
use Rattle.lu_changes.proofs.FollowLemmas.{follow-chosen, follow-refused}
use Rattle.lu_changes.proofs.deleting.by_names.Goals as goal

pub returns-in-Ok-clause-due : goal.returns-in-Ok-clause-due
returns-in-Ok-clause-due g c =
    let names = texts c.args.names.now in
    let chosen = c.in-Ok.chosen in
    let Give = MarksGive c.args.target.field.now c.args.target.text.now in
    IfOk-weaker c.by_commit.result (λ outcome. GenerationFollows Give (g.D.Dir.files c.current.new.dir) names chosen (next_generation names) outcome) _
    (λ outcome follows. follow-chosen Give (g.D.Dir.files c.args.dir.now) names chosen outcome c.requires.made c.requires.names c.in-Ok.ensures.told
    (subst (λ (files : Option Files). GenerationFollows Give files names chosen (next_generation names) outcome) c.in-Ok.ensures.files follows))
    c.by_commit.ensures.due

pub returns-in-Err-clause-due : goal.returns-in-Err-clause-due
returns-in-Err-clause-due g c =
    IfOk-weaker c.refusal.result (λ outcome. Refuses c.in-Err.fault outcome) _
    (λ outcome refuses. follow-refused (MarksGive c.args.target.field.now c.args.target.text.now) (g.D.Dir.files c.args.dir.now) (texts c.args.names.now) c.in-Err.fault outcome c.requires.made c.requires.names c.in-Err.ensures.told refuses)
    c.refusal.ensures.refused
