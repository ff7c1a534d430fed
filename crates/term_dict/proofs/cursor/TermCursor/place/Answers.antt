use Rattle.std.proofs.Common.{◌∙◌, ap}
use Rattle.std.specs.Prelude.{vec_capacity}
use Rattle.term_dict.specs.Last.{term_of_last}
use Rattle.term_dict.specs.Walk.{next_place}
use Rattle.term_dict.proofs.WalkLemmas.{place_is}
use Rattle.term_dict.proofs.cursor.TermCursor.place.Goals as goal

pub returns : goal.returns
returns c =
    let i = c.self.inside in
    place_is i.tis.now i.numbers (vec_capacity i.last.text) i.passed i.place (term_of_last i.last) c.self.invariant.0.fits c.self.invariant.0 c.self.invariant.1 ∙ ap next_place c.self.view_is
