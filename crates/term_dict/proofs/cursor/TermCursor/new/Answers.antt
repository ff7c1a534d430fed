use Rattle.std.proofs.Common.{refl}
use Rattle.std.specs.Prelude.{vec_capacity}
use Rattle.term_dict.specs.Last.{term_of_last}
use Rattle.term_dict.proofs.LoopLemmas.{IsSoundTerm-none}
use Rattle.term_dict.proofs.WalkLemmas.{start_at, IsRead-roomier}
use Rattle.term_dict.proofs.cursor.TermCursor.new.Goals as goal

pub invariant_of-result : goal.invariant_of-result
invariant_of-result c =
    let last = c.in_ok-with_room.field-0 in
    let h = c.requires in (
      IsRead-roomier c.args.tis.now c.args.numbers c.args.longest (vec_capacity last.text) h c.in_ok-with_room.ensures.room,
      start_at c.args.tis.now c.args.numbers c.args.longest (term_of_last last) h.fits h c.in_ok-with_room.ensures.term (IsSoundTerm-none _ c.in_ok-with_room.ensures.term),
    )
