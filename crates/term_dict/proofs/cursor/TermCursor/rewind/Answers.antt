use Rattle.std.proofs.Common.{refl}
use Rattle.std.specs.Prelude.{vec_capacity}
use Rattle.term_dict.specs.Last.{term_of_last}
use Rattle.term_dict.proofs.LoopLemmas.{IsSoundTerm-none}
use Rattle.term_dict.proofs.WalkLemmas.{start_at, IsRead-roomier}
use Rattle.term_dict.proofs.cursor.TermCursor.rewind.Goals as goal

pub invariant_of-self : goal.invariant_of-self
invariant_of-self c =
    let i = c.self.inside in
    let h = c.self.invariant.0 in (
      IsRead-roomier i.tis.now i.numbers (vec_capacity i.last.text) (vec_capacity c.reset.new.self.text) h c.reset.ensures.room,
      start_at i.tis.now i.numbers (vec_capacity i.last.text) (term_of_last c.reset.new.self) h.fits h c.reset.ensures.term (IsSoundTerm-none _ c.reset.ensures.term),
    )
