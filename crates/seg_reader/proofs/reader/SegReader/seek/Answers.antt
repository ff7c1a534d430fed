use Rattle.std.proofs.Common.{sym, ap, subst, ◌∙◌, Option}
use Rattle.std.specs.Prelude.{option_map}
use Rattle.std.specs.List.{find}
use Rattle.lu_types.specs.declared.term.TermInfo.{TermInfo}
use Rattle.term_dict.specs.Terms.{DictionaryTerm}
use Rattle.term_index.specs.Seeking.{Searched, is_sought}
use Rattle.check_index.specs.Segments.{SegmentValue}
use Rattle.seg_reader.proofs.SaidTerms.{IsFound, term-found}
use Rattle.seg_reader.proofs.reader.SegReader.seek.Goals as goal

pub returns-clause-term : goal.returns-clause-term
returns-clause-term g c =
    let s = c.self.inside.standing in
    let field = c.args.field.now in
    let text = c.args.text.now in
    let is = c.seek.ensures.term
    ∙ ap (λ (x : Searched). option_map (λ (t : DictionaryTerm). t.info) (find (is_sought x.names field text) x.dictionary.terms)) c.self.invariant.sought in
    let here = subst (λ (found : Option TermInfo). IsFound s field text found) (sym is) (term-found s c.terms-terms.ensures.indexed c.terms-terms.ensures.known field text) in
    subst (λ (x : SegmentValue). IsFound x field text c.seek.result) c.self.view_is here
