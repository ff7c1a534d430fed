use Rattle.std.proofs.Common.{List, [], refl, subst}
use Rattle.lu_types.specs.Occurrences.{Occurrence}
use Rattle.freq_skips.specs.Terms.{TermData}
use Rattle.freq_skips.specs.Points.{IsPoint}
use Rattle.positions.specs.Cursors.{CursorState, StandsInBoth, IsAmong}
use Rattle.positions.proofs.AmongLemmas.{among-begun}
use Rattle.positions.proofs.occurrences.Occurrences.jump.Goals as goal

pub returns : goal.returns
returns c =
    let i = c.self.inside in
    let r = c.reading_at-self-inside.result in
    let new : CursorState = record { term = i.term; prx = i.prx.now; here = r.cur; force = r.force; position = r.position; left = 0 } in
    subst (λ (s : CursorState). (value : TermData) (occurrences : List (List Occurrence)) → StandsInBoth s.term value s.prx occurrences → IsPoint s.term value c.args.point.now → IsAmong s.term value occurrences c.args.point.now.passed [] new) c.self.view_is
    (λ value occurrences good is. among-begun i.term value occurrences c.args.point.now new c.self.invariant.bytes good is refl refl c.reading_at-self-inside.ensures.place c.reading_at-self-inside.ensures.force)
