use Rattle.std.proofs.Common.{ℕ, ◌+◌, Option, Some, refl, sym, ap, subst, ◌∙◌}
use Rattle.std.specs.Prelude.{slice_get, vec_capacity}
use Rattle.std.specs.Option.{option_map}
use Rattle.lu_types.specs.declared.term.TermInfo.{TermInfo}
use Rattle.term_dict.specs.Entries.{term_record_of}
use Rattle.term_dict.specs.Terms.{DictionaryTerm, term_after}
use Rattle.term_dict.specs.Last.{term_of_last}
use Rattle.term_dict.specs.declared.cursor.NextTerm.{NextTerm}
use Rattle.term_dict.specs.Canonical.{shared}
use Rattle.term_dict.specs.Shared.{next_after}
use Rattle.term_dict.specs.Walk.{TermWalk, IsAt, walk_in}
use Rattle.term_dict.proofs.WalkLemmas.{next_of, next_there, none_left, IsRead-roomier, passed-terms}
use Rattle.term_dict.proofs.cursor.TermCursor.next_shared.Goals as goal

abbrev next_at : TermWalk → Option NextTerm
next_at w = option_map (next_after w) (slice_get w.dictionary.terms w.passed)

abbrev next_with : TermInfo → ℕ → NextTerm
next_with info n = record { info = info; shared = n }

pub returns-then-self-clause-term : goal.returns-then-self-clause-term
returns-then-self-clause-term c =
    let i = c.self.inside in
    let h = c.self.invariant.0 in
    let none = none_left i.tis.now i.numbers (vec_capacity i.last.text) i.passed h.fits h c.if-self.true in
    sym (ap (option_map (next_after (walk_in i.tis.now i.passed))) none) ∙ ap next_at c.self.view_is

pub unreachable-requires : goal.unreachable-requires
unreachable-requires c =
    let i = c.self.inside in
    next_there i.tis.now i.numbers (vec_capacity i.last.text) i.passed i.place (term_of_last i.last) c.at-cur.result c.in_default.field-0 c.self.invariant.0 c.self.invariant.1 c.if-self.false c.at-cur.ensures c.in_default.ensures.takes

pub advance-requires-clause-fits : goal.advance-requires-clause-fits
advance-requires-clause-fits c =
    let i = c.self.inside in
    (next_of i.tis.now i.numbers (vec_capacity i.last.text) i.passed i.place (term_of_last i.last) c.at-cur.result (term_record_of c.in-Ok.entry) c.entry_at.new.cur c.self.invariant.0 c.self.invariant.1 c.if-self.false c.at-cur.ensures c.in-Ok.ensures.takes).fits

pub advance-requires-clause-room : goal.advance-requires-clause-room
advance-requires-clause-room c =
    let i = c.self.inside in
    (next_of i.tis.now i.numbers (vec_capacity i.last.text) i.passed i.place (term_of_last i.last) c.at-cur.result (term_record_of c.in-Ok.entry) c.entry_at.new.cur c.self.invariant.0 c.self.invariant.1 c.if-self.false c.at-cur.ensures c.in-Ok.ensures.takes).room

pub invariant_of-self : goal.invariant_of-self
invariant_of-self c =
    let i = c.self.inside in
    let h = c.self.invariant.0 in
    let next = next_of i.tis.now i.numbers (vec_capacity i.last.text) i.passed i.place (term_of_last i.last) c.at-cur.result (term_record_of c.in-Ok.entry) c.entry_at.new.cur h c.self.invariant.1 c.if-self.false c.at-cur.ensures c.in-Ok.ensures.takes in
    let last = subst (λ (t : DictionaryTerm). IsAt i.tis.now i.numbers (i.passed + 1) c.entry_at.new.cur.place t) (sym c.advance.ensures.term) next.after in (
      IsRead-roomier i.tis.now i.numbers (vec_capacity i.last.text) (vec_capacity c.advance.new.self.text) h c.advance.ensures.room,
      subst (λ (p : ℕ). IsAt i.tis.now i.numbers (i.passed + 1) p (term_of_last c.advance.new.self)) (sym c.place-self-inside.ensures) last,
    )

pub returns-clause-term : goal.returns-clause-term
returns-clause-term c =
    let i = c.self.inside in
    let next = next_of i.tis.now i.numbers (vec_capacity i.last.text) i.passed i.place (term_of_last i.last) c.at-cur.result (term_record_of c.in-Ok.entry) c.entry_at.new.cur c.self.invariant.0 c.self.invariant.1 c.if-self.false c.at-cur.ensures c.in-Ok.ensures.takes in
    let t = term_after (term_of_last i.last) (term_record_of c.in-Ok.entry) in
    let old = passed-terms i.tis.now i.numbers (vec_capacity i.last.text) i.passed i.place (term_of_last i.last) c.self.invariant.0.fits c.self.invariant.0 c.self.invariant.1 in
    ap (λ (u : DictionaryTerm). Some (next_with u.info c.shared_with-shared.result)) c.advance.ensures.term
    ∙ ap (λ (n : ℕ). Some (next_with t.info n)) (c.shared_with-shared.ensures ∙ ap (λ (u : DictionaryTerm). shared u.text t.text) (sym old))
    ∙ sym (ap (option_map (next_after (walk_in i.tis.now i.passed))) next.is_term) ∙ ap next_at c.self.view_is

pub shared_with-shared-requires : goal.shared_with-shared-requires
shared_with-shared-requires c =
    let i = c.self.inside in
    (next_of i.tis.now i.numbers (vec_capacity i.last.text) i.passed i.place (term_of_last i.last) c.at-cur.result (term_record_of c.in-Ok.entry) c.entry_at.new.cur c.self.invariant.0 c.self.invariant.1 c.if-self.false c.at-cur.ensures c.in-Ok.ensures.takes).fits.prefix
