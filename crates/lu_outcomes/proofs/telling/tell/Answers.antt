use Rattle.lu_outcomes.proofs.TellingLemmas.{Tells-cut, cut-no_fault}
use Rattle.lu_outcomes.proofs.telling.tell.Goals as goal

pub returns-in-Err-clause-tells : goal.returns-in-Err-clause-tells
returns-in-Err-clause-tells g c =
    let part = c.in-Err.ensures.partly in
    Tells-cut c.args.status c.cut_short.result c.args.text.now (g.K.Sink.taken c.args.out.now) (g.K.Sink.taken c.write_all.new.out) c.in-Err.fail c.cut_short.ensures part.0 part.1 part.2

pub returns-in-Err-clause-folder : goal.returns-in-Err-clause-folder
returns-in-Err-clause-folder g c _ = cut-no_fault c.cut_short.result c.in-Err.fail c.cut_short.ensures
