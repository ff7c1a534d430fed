use Rattle.std.proofs.Common.{◌≡◌, ℕ, ◌-◌, false, List, Some, refl, sym, ap, subst, ◌∙◌, arith}
use Rattle.std.specs.Prelude.{slice_get}
use Rattle.std.specs.Option.{option_map}
use Rattle.std.specs.Ordering.{ordering_then, is_lt}
use Rattle.std.specs.Str.{IsUtf8}
use Rattle.std.specs.declared.cmp.Ordering.{Ordering}
use Rattle.std.specs.declared.cmp.Ordering.TheVariants.{Less, Equal, Greater}
use Rattle.lu_prims.specs.Order.{text_cmp}
use Rattle.lu_types.specs.declared.term.TermInfo.{TermInfo}
use Rattle.term_dict.specs.Terms.{DictionaryTerm}
use Rattle.term_dict.specs.Walk.{TermWalk, term_passed, passed_on}
use Rattle.term_index.specs.Seeking.{Searched, searched, field_name_of}
use Rattle.term_index.proofs.SearchLemmas.{IsSearching, IsRead, IsFirst, passed_term, first_is, IsSearching-more, all_passed, found-first, none-above, none-left, steps-end}
use Rattle.term_index.proofs.search.find_from.Goals as goal

abbrev term_with : List ℕ → TermInfo → DictionaryTerm
term_with text info = record { text = text; info = info }

module _ (s : Searched) (field text : List ℕ) (first start : ℕ) (w new : TermWalk) (count : ℕ) (info : TermInfo) (h : IsSearching s field text first start w count) (found : Some info ≡ option_map (λ t. t.info) (slice_get w.dictionary.terms w.passed))
    (to : new ≡ passed_on w) (name there : List ℕ) (o p : Ordering) (is : o ≡ ordering_then (text_cmp name field) (text_cmp there text)) (named : name ≡ field_name_of s.names info.field) (at : there ≡ (term_passed new).text) (so : o ≡ p) where
  -- what was compared is the term that was read
  read_is : IsRead s field text w (term_with (term_passed new).text info) p
  read_is =
      let last = (term_passed new).text in
      record {
        here = passed_term s field text first start w new count info h found to;
        stands =
            ap (λ (n : List ℕ). ordering_then (text_cmp n field) (text_cmp last text)) (sym named) ∙ ap (λ (t : List ℕ). ordering_then (text_cmp name field) (text_cmp t text)) (sym at) ∙ sym is ∙ so;
      }

  -- and where it is not below, it is the first that is not
  first_read : is_lt p ≡ false → IsFirst s field text first start w (term_with (term_passed new).text info) p count
  first_read above = first_is s field text first start w count (term_with (term_passed new).text info) p h read_is above

pub loop-info-preserved : goal.loop-info-preserved
loop-info-preserved g c =
    let s = searched c.args.cursor.now.dictionary c.args.names.now in
    let field = c.args.sought.now.field.now in
    let text = c.args.sought.now.text.now in
    let w = c.loop-info.cursor in
    let new = c.next.new.self in
    let t = term_with (term_passed new).text c.in-Some.info in
    let r = read_is s field text c.args.steps.now c.args.cursor.now.passed c.loop-info.cursor c.next.new.self c.loop-info.steps c.in-Some.info c.loop-info.invariant c.in-Some.ensures.term c.in-Some.ensures.passed c.name.result.now c.text.result.now c.compare.result Less c.compare.ensures c.name.ensures c.text.ensures c.in-Less.is in
    subst (IsSearching s field text c.args.steps.now c.args.cursor.now.passed new) (sym c.tick.ensures)
    (IsSearching-more s field text c.args.steps.now c.args.cursor.now.passed w new c.loop-info.steps t Less c.requires.terms c.loop-info.invariant r refl c.in-Some.ensures.passed)

pub loop-info-smaller : goal.loop-info-smaller
loop-info-smaller g c =
    let s = searched c.args.cursor.now.dictionary c.args.names.now in
    let at = passed_term s c.args.sought.now.field.now c.args.sought.now.text.now c.args.steps.now c.args.cursor.now.passed c.loop-info.cursor c.next.new.self c.loop-info.steps c.in-Some.info c.loop-info.invariant c.in-Some.ensures.term c.in-Some.ensures.passed in
    omega (arith, at.inside, ap (λ (w : TermWalk). w.passed) c.in-Some.ensures.passed)

pub returns-in-Equal-clause-term : goal.returns-in-Equal-clause-term
returns-in-Equal-clause-term g c =
    let s = searched c.args.cursor.now.dictionary c.args.names.now in
    let field = c.args.sought.now.field.now in
    let text = c.args.sought.now.text.now in
    let t = term_with (term_passed c.next.new.self).text c.in-Some.info in
    let f = first_read s field text c.args.steps.now c.args.cursor.now.passed c.loop-info.cursor c.next.new.self c.loop-info.steps c.in-Some.info c.loop-info.invariant c.in-Some.ensures.term c.in-Some.ensures.passed c.name.result.now c.text.result.now c.compare.result Equal c.compare.ensures c.name.ensures c.text.ensures c.in-Equal.is refl in
    let named = subst IsUtf8 c.name.ensures c.name.utf8 in
    ap (option_map (λ (x : DictionaryTerm). x.info)) (sym (found-first s field text c.args.steps.now c.args.cursor.now.passed c.loop-info.cursor c.loop-info.steps t c.requires.terms f named c.requires.texts.0 c.requires.texts.1))

pub returns-in-Equal-clause-steps : goal.returns-in-Equal-clause-steps
returns-in-Equal-clause-steps g c =
    let s = searched c.args.cursor.now.dictionary c.args.names.now in
    let field = c.args.sought.now.field.now in
    let text = c.args.sought.now.text.now in
    c.tick.ensures ∙ (first_read s field text c.args.steps.now c.args.cursor.now.passed c.loop-info.cursor c.next.new.self c.loop-info.steps c.in-Some.info c.loop-info.invariant c.in-Some.ensures.term c.in-Some.ensures.passed c.name.result.now c.text.result.now c.compare.result Equal c.compare.ensures c.name.ensures c.text.ensures c.in-Equal.is refl).steps

pub returns-in-Greater-clause-term : goal.returns-in-Greater-clause-term
returns-in-Greater-clause-term g c =
    let s = searched c.args.cursor.now.dictionary c.args.names.now in
    let field = c.args.sought.now.field.now in
    let text = c.args.sought.now.text.now in
    let t = term_with (term_passed c.next.new.self).text c.in-Some.info in
    let f = first_read s field text c.args.steps.now c.args.cursor.now.passed c.loop-info.cursor c.next.new.self c.loop-info.steps c.in-Some.info c.loop-info.invariant c.in-Some.ensures.term c.in-Some.ensures.passed c.name.result.now c.text.result.now c.compare.result Greater c.compare.ensures c.name.ensures c.text.ensures c.in-Greater.is refl in
    ap (option_map (λ (x : DictionaryTerm). x.info)) (sym (none-above s field text c.args.steps.now c.args.cursor.now.passed c.loop-info.cursor c.loop-info.steps t c.requires.terms f))

pub returns-in-Greater-clause-steps : goal.returns-in-Greater-clause-steps
returns-in-Greater-clause-steps g c =
    let s = searched c.args.cursor.now.dictionary c.args.names.now in
    let field = c.args.sought.now.field.now in
    let text = c.args.sought.now.text.now in
    c.tick.ensures ∙ (first_read s field text c.args.steps.now c.args.cursor.now.passed c.loop-info.cursor c.next.new.self c.loop-info.steps c.in-Some.info c.loop-info.invariant c.in-Some.ensures.term c.in-Some.ensures.passed c.name.result.now c.text.result.now c.compare.result Greater c.compare.ensures c.name.ensures c.text.ensures c.in-Greater.is refl).steps

pub returns-clause-term : goal.returns-clause-term
returns-clause-term g c =
    let s = searched c.args.cursor.now.dictionary c.args.names.now in
    let field = c.args.sought.now.field.now in
    let text = c.args.sought.now.text.now in
    let h = c.loop-info.invariant in
    let all = all_passed s field text c.args.steps.now c.args.cursor.now.passed c.loop-info.cursor c.loop-info.steps h c.in_default.ensures.term in
    ap (option_map (λ (x : DictionaryTerm). x.info)) (sym (none-left s field text c.args.steps.now c.args.cursor.now.passed c.loop-info.cursor c.loop-info.steps c.requires.terms h all))

pub returns-clause-steps : goal.returns-clause-steps
returns-clause-steps g c =
    let s = searched c.args.cursor.now.dictionary c.args.names.now in
    let field = c.args.sought.now.field.now in
    let text = c.args.sought.now.text.now in
    let h = c.loop-info.invariant in
    let all = all_passed s field text c.args.steps.now c.args.cursor.now.passed c.loop-info.cursor c.loop-info.steps h c.in_default.ensures.term in
    steps-end s field text c.args.steps.now c.args.cursor.now.passed c.loop-info.cursor c.loop-info.steps h all
