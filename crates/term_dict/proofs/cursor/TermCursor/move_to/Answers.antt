use Rattle.std.proofs.Common.{◌≡◌, ℕ, ◌<◌, List, length, refl, sym, ap, subst, ◌∙◌}
use Rattle.std.specs.Prelude.{vec_capacity}
use Rattle.lu_types.specs.declared.term.TermInfo.{TermInfo}
use Rattle.term_dict.specs.Terms.{DictionaryTerm}
use Rattle.term_dict.specs.Last.{term_of_last}
use Rattle.term_dict.specs.Walk.{TermWalk, walk_to, term_passed, next_place}
use Rattle.term_dict.proofs.JumpLemmas.{IsAt-there, passed-fits}
use Rattle.term_dict.proofs.WalkLemmas.{IsRead-roomier}
use Rattle.term_dict.proofs.cursor.TermCursor.move_to.Goals as goal

abbrev term_with : List ℕ → TermInfo → DictionaryTerm
term_with text info = record { text = text; info = info }

pub set-requires : goal.set-requires
set-requires c =
    let i = c.self.inside in
    let number = c.args.number in
    let lt = subst (λ (w : TermWalk). number < length w.dictionary.terms) (sym c.self.view_is) c.requires.number in
    let is = c.requires.term ∙ ap (λ (w : TermWalk). term_passed (walk_to w.dictionary number)) (sym c.self.view_is) in
    let fits = passed-fits i.tis.now i.numbers (vec_capacity i.last.text) number (record { text = c.args.text.now; info = c.args.info.now }) c.self.invariant.0 lt is in
    rw c.as_bytes.ensures.value fits

pub invariant_of-self : goal.invariant_of-self
invariant_of-self c =
    let i = c.self.inside in
    let h = c.self.invariant.0 in
    let number = c.args.number in
    let lt = subst (λ (w : TermWalk). number < length w.dictionary.terms) (sym c.self.view_is) c.requires.number in
    let at = c.requires.place ∙ ap (λ (w : TermWalk). next_place (walk_to w.dictionary number)) (sym c.self.view_is) in
    let text : term_of_last c.set.new.self ≡ record { text = c.args.text.now; info = c.args.info.now } = c.set.ensures.term ∙ ap (λ (t : List ℕ). term_with t c.args.info.now) c.as_bytes.ensures.value in
    let is = text ∙ c.requires.term ∙ ap (λ (w : TermWalk). term_passed (walk_to w.dictionary number)) (sym c.self.view_is) in (
      IsRead-roomier i.tis.now i.numbers (vec_capacity i.last.text) (vec_capacity c.set.new.self.text) h c.set.ensures.room,
      IsAt-there i.tis.now i.numbers (vec_capacity i.last.text) number c.args.place (term_of_last c.set.new.self) h lt at is,
    )
