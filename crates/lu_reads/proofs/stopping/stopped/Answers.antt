use Rattle.lu_dir.proofs.Causes.{IsCaused-earlier}
use Rattle.lu_reads.proofs.stopping.stopped.Goals as goal

pub returns-in-Said-clause-folder : goal.returns-in-Said-clause-folder
returns-in-Said-clause-folder g c before cause = IsCaused-earlier before (g.D.Dir.faults c.args.dir.now) (g.D.Dir.faults c.finish.new.dir) cause.later c.finish.ensures.folder

pub returns-in-Said-clause-answers : goal.returns-in-Said-clause-answers
returns-in-Said-clause-answers g c = rw c.in-Said.is c.finish.ensures.answers
