use Rattle.std.proofs.Common.{◌≡◌, ℕ, List, drop, sym, ap, ◌∙◌}
use Rattle.std.specs.Ordering.{ordering_then, is_lt}
use Rattle.std.specs.declared.cmp.Ordering.{Ordering}
use Rattle.lu_prims.specs.Order.{text_cmp, bytes_cmp}
use Rattle.term_dict.specs.Entries.{term_record_of}
use Rattle.term_dict.specs.Terms.{field_of}
use Rattle.term_dict.specs.Last.{term_of_last}
use Rattle.term_dict.proofs.ConditionLemmas.{is_above-tail}
use Rattle.term_dict.proofs.last.LastTerm.is_below.Goals as goal

pub returns : goal.returns
returns c = λ before is none text.
    let tail : c.split_at.result.1.now ≡ drop c.args.entry.now.prefix c.args.self.now.text.items = c.split_at.ensures.back ∙ ap (drop c.args.entry.now.prefix) c.as_slice.ensures.value in
    c.is_lt.ensures ∙ ap is_lt (c.then.ensures ∙ ap (λ (o : Ordering). ordering_then o c.tail_cmp.result) c.names_cmp.ensures
    ∙ ap (λ (o : Ordering). ordering_then (text_cmp (field_of c.args.fields.now c.args.self.now.info.field).name (field_of c.args.fields.now c.args.entry.now.field).name) o) (c.tail_cmp.ensures ∙ ap (λ (t : List ℕ). bytes_cmp t c.args.entry.now.suffix.now) tail))
    ∙ is_above-tail c.args.fields.now before (term_record_of c.args.entry.now) (term_of_last c.args.self.now) is (sym c.if-first.false ∙ none) c.requires.text text
