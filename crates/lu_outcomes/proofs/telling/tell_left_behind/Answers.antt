use Rattle.std.proofs.Common.{ℕ, List, arith, length-append, subst}
use Rattle.lu_outcomes.specs.declared.status.Status.TheVariants.{LeftBehind}
use Rattle.lu_outcomes.specs.Telling.{Tells}
use Rattle.lu_outcomes.specs.Texts.{left_behind_text}
use Rattle.lu_outcomes.proofs.TellingLemmas.{Tells-cut, Tells-later, Took-part}
use Rattle.lu_outcomes.proofs.telling.tell_left_behind.Goals as goal

pub returns-in-Ok-clause-tells : goal.returns-in-Ok-clause-tells
returns-in-Ok-clause-tells g c =
    Tells-later LeftBehind c.args.text.now left_behind_text (g.K.Sink.taken c.args.out.now) (g.K.Sink.taken c.write_all.new.out) (g.K.Sink.taken c.tell.new.out) c.tell.result c.in-Ok.ensures.taken
    (subst (λ (text : List ℕ). Tells LeftBehind text (g.K.Sink.taken c.write_all.new.out) (g.K.Sink.taken c.tell.new.out) c.tell.result) c.as_bytes.ensures.value c.tell.ensures.tells)

pub returns-in-Err-clause-tells : goal.returns-in-Err-clause-tells
returns-in-Err-clause-tells g c =
    let part = c.in-Err.ensures.partly in
    Tells-cut LeftBehind c.cut_short.result _ (g.K.Sink.taken c.args.out.now) (g.K.Sink.taken c.write_all.new.out) c.in-Err.fail c.cut_short.ensures part.0 (omega (arith, part.1, length-append c.args.text.now left_behind_text))
    (Took-part c.args.text.now left_behind_text (g.K.Sink.taken c.args.out.now) (g.K.Sink.taken c.write_all.new.out) part.0 part.1 part.2)
