use Rattle.std.proofs.Common.{◌∙◌, ap, sym}
use Rattle.std.specs.Prelude.{vec_capacity}
use Rattle.term_dict.specs.Terms.{DictionaryTerm}
use Rattle.term_dict.specs.Last.{term_of_last}
use Rattle.term_dict.specs.Walk.{TermWalk, term_passed}
use Rattle.term_dict.proofs.WalkLemmas.{passed-terms}
use Rattle.term_dict.proofs.cursor.TermCursor.text.Goals as goal

pub returns : goal.returns
returns c =
    let i = c.self.inside in
    c.from_utf8_unchecked.ensures ∙ c.as_slice.ensures.value
    ∙ ap (λ (t : DictionaryTerm). t.text) (sym (passed-terms i.tis.now i.numbers (vec_capacity i.last.text) i.passed i.place (term_of_last i.last) c.self.invariant.0.fits c.self.invariant.0 c.self.invariant.1))
    ∙ ap (λ (w : TermWalk). (term_passed w).text) c.self.view_is
