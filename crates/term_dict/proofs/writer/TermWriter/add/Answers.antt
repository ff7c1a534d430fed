use Rattle.std.proofs.Common.{◌≡◌, ◌<◌, ◌+◌, ℕ, List, [], ◌++◌, length, sym, ap, subst, ◌∙◌, arith}
use Rattle.lu_types.specs.declared.term.TermInfo.{TermInfo}
use Rattle.term_dict.specs.Terms.{DictionaryTerm, last_term}
use Rattle.term_dict.specs.Canonical.{entry_between, term_record_bytes}
use Rattle.term_dict.specs.Last.{term_of_last}
use Rattle.term_dict.specs.Writing.{TermsWritten, with_written, FollowsTerm, IsSpellable, IsWritten, terms_written_in, terms_in, last_point}
use Rattle.term_dict.proofs.WriterLemmas.{written, written-more, passed-from, counted-few, IsMore}
use Rattle.term_dict.proofs.writer.TermWriter.add.Goals as goal

abbrev term_with : List ℕ → TermInfo → DictionaryTerm
term_with text info = record { text = text; info = info }

pub overflow_add-self : goal.overflow_add-self
overflow_add-self c =
    let i = c.self.inside in
    let few = counted-few i.index_interval i.skip_interval i.max_levels i.count i.tis.items (term_of_last i.last) i.index.bytes.items (last_point i.index) c.self.invariant in
    omega (arith, few, c.len-place.ensures, c.len-place.type_inv)

-- what was added
added : (c : goal.After-self-1) → IsMore c.self.inside.index_interval c.self.inside.skip_interval c.self.inside.max_levels c.self.inside.count (terms_in c.self.inside.skip_interval c.self.inside.count c.self.inside.tis.items) c.append_term.new.out.items (term_with c.args.text.now c.args.info.now) c.pass-passed.new.self.bytes.items (last_point c.pass-passed.new.self)
added c =
    let i = c.self.inside in
    let last = term_of_last i.last in
    let t = term_with c.args.text.now c.args.info.now in
    let to = c.in_ok-append_term.ensures.ok ∙ ap (λ (text : List ℕ). i.tis.items ++ term_record_bytes i.skip_interval (entry_between last (term_with text c.args.info.now)) []) c.as_bytes.ensures.value in
    let passed = passed-from i.index_interval i.skip_interval i.count (length i.tis.items) c.len-place.result last (term_of_last c.make_room.new.self) i.index c.pass-passed.new.self c.in_default.ensures.ok c.make_room.ensures.term (omega (arith, c.len-place.ensures)) in
    let here : IsSpellable i.skip_interval t = record {
      text = c.utf8.text;
      bytes = λ k. (c.type_inv.text k).fits;
      small = c.requires.small;
      field = c.requires.field;
      freq = c.in_ok-append_term.ensures.places.0;
      prox = c.in_ok-append_term.ensures.places.1;
      no_skip = subst (λ (w : TermsWritten). t.info.doc_freq < w.skip_interval → t.info.skip ≡ 0) (sym c.self.view_is) c.requires.no_skip;
    } in
    let is : last_term c.args.self.now.terms ≡ last = sym (ap (λ (w : TermsWritten). last_term w.terms) c.self.view_is) ∙ sym c.self.invariant.is_last in
    let follows : FollowsTerm last.info t.info = subst (λ (x : DictionaryTerm). FollowsTerm x.info t.info) is c.requires.follows in
    written-more i.index_interval i.skip_interval i.max_levels i.count i.tis.items c.append_term.new.out.items last t i.index.bytes.items c.pass-passed.new.self.bytes.items (last_point i.index) (last_point c.pass-passed.new.self) c.self.invariant to passed here follows

pub invariant_of-self-2 : goal.invariant_of-self-2
invariant_of-self-2 c =
    let i = c.self.inside in
    subst (λ (t : DictionaryTerm). IsWritten (terms_written_in i.index_interval i.skip_interval i.max_levels (i.count + 1) c.append_term.new.out.items) c.append_term.new.out.items t c.pass-passed.new.self.bytes.items (last_point c.pass-passed.new.self) (i.count + 1))
    (sym (c.set.ensures.term ∙ ap (λ (text : List ℕ). term_with text c.args.info.now) c.as_bytes-2.ensures.value)) (added c).written

pub returns-clause-ok : goal.returns-clause-ok
returns-clause-ok c =
    let i = c.self.inside in
    ap (written i.index_interval i.skip_interval i.max_levels) (added c).terms ∙ ap (λ (w : TermsWritten). with_written w (term_with c.args.text.now c.args.info.now)) c.self.view_is
