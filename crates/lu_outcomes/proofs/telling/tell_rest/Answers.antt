use Rattle.std.proofs.Common.{Err, ap}
use Rattle.lu_dir.specs.declared.fail.DirFail.{DirFail}
use Rattle.lu_outcomes.proofs.CauseLemmas.{IsCaused-when}
use Rattle.lu_outcomes.proofs.PieceLemmas.{told-whole, told-cut}
use Rattle.lu_outcomes.proofs.TellingLemmas.{cut-no_fault, cut-failed}
use Rattle.lu_outcomes.proofs.telling.tell_rest.Goals as goal

pub returns-in-Ok-clause-tells : goal.returns-in-Ok-clause-tells
returns-in-Ok-clause-tells g c start text has = told-whole start text (g.K.Sink.taken c.finish.new.out) (g.K.Sink.faults c.finish.new.out) _ (c.in-Ok.ensures.told start text has)

pub returns-in-Err-clause-tells : goal.returns-in-Err-clause-tells
returns-in-Err-clause-tells g c start text has = told-cut start text (g.K.Sink.taken c.finish.new.out) (g.K.Sink.faults c.finish.new.out) c.in-Err.fail c.cut_short.result c.cut_short.ensures (c.in-Err.ensures.told start text has)

pub returns-in-Err-clause-folder : goal.returns-in-Err-clause-folder
returns-in-Err-clause-folder g c = cut-no_fault c.cut_short.result c.in-Err.fail c.cut_short.ensures

pub returns-in-Err-clause-cause : goal.returns-in-Err-clause-cause
returns-in-Err-clause-cause g c start text has =
    let told = c.in-Err.ensures.later start text has in
    IsCaused-when start.faults (g.K.Sink.faults c.finish.new.out) told (λ sink. ap (λ (fail : DirFail). Err fail) (cut-failed c.cut_short.result c.in-Err.fail c.cut_short.ensures sink))
