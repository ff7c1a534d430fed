use Rattle.std.proofs.Common.{◌≡◌, ◌-◌, ℕ, List, map, sym, ap, subst, ◌∙◌}
use Rattle.lu_types.specs.declared.term.TermNumbers.{TermNumbers}
use Rattle.term_dict.specs.Checks.{AreBounded}
use Rattle.term_dict.specs.Dictionary.{Dictionary}
use Rattle.term_dict.specs.Index.{entry_count}
use Rattle.term_dict.specs.Walk.{TermWalk}
use Rattle.term_index.specs.Seeking.{searched}
use Rattle.term_index.specs.InnerSearch.{IsSearchable, index_mark_of, marks_to}
use Rattle.term_index.proofs.LoadLemmas.{searchable}
use Rattle.term_index.proofs.index.TermIndex.load.Goals as goal

pub marks_of-requires-clause-terms : goal.marks_of-requires-clause-terms
marks_of-requires-clause-terms c =
    let d = c.args.terms.now in
    let n = c.numbers-numbers in
    subst (λ (ns : List (List ℕ)). IsSearchable (searched d ns)) (sym c.in_ok-names.ensures) (searchable c.args.tii.now d c.args.fields.now c.requires (subst AreBounded n.ensures.numbers n.ensures.bounded) n.ensures.places)

pub invariant_of-result : goal.invariant_of-result
invariant_of-result c =
    let d = c.args.terms.now in
    let n = c.numbers-numbers in
    let names = c.in_ok-names.names in
    let dictionary : d ≡ c.in_ok-cursor.cursor.dictionary = sym (ap (λ (w : TermWalk). w.dictionary) c.in_ok-cursor.ensures) in
    let good = subst (λ (ns : List (List ℕ)). IsSearchable (searched d ns)) (sym c.in_ok-names.ensures) (searchable c.args.tii.now d c.args.fields.now c.requires (subst AreBounded n.ensures.numbers n.ensures.bounded) n.ensures.places) in (
      subst (λ (e : Dictionary). IsSearchable (searched e names)) dictionary good,
      ap (λ (m : TermNumbers). m.index_interval) n.ensures.numbers ∙ ap (λ (e : Dictionary). e.numbers.index_interval) dictionary,
      subst (λ (e : Dictionary). map index_mark_of c.in_ok-marks.marks.items ≡ marks_to (searched e names) (entry_count e.numbers - 1)) dictionary c.in_ok-marks.ensures,
    )
