use Rattle.lu_folder.proofs.KeepsLemmas.{Keeps-answer}
use Rattle.lu_folder.proofs.change.commit.Goals as goal

pub returns-clause-safe : goal.returns-clause-safe
returns-clause-safe g c fresh =
    Keeps-answer c.args.change.now c.make.result (g.D.Dir.files c.args.dir.now) (g.D.Dir.files c.make.new.dir) c.hold_commit.ensures.generation c.hold_commit.ensures.commit fresh
    c.make.ensures.behind c.make.ensures.stopped
