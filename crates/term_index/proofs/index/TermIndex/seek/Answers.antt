use Rattle.std.proofs.Common.{◌≡◌, ◌≤◌, ℕ, ◌+◌, ◌-◌, ◌*◌, List, length, map, sym, ap, subst, ◌∙◌, arith}
use Rattle.term_dict.specs.Dictionary.{Dictionary}
use Rattle.term_dict.specs.Index.{entry_count}
use Rattle.term_dict.specs.Walk.{TermWalk}
use Rattle.term_index.specs.declared.mark.Mark.{Mark}
use Rattle.term_index.specs.declared.search.Sought.{Sought}
use Rattle.lu_prims.specs.Steps.{ticked}
use Rattle.term_index.specs.Seeking.{Searched, searched, rank, interval_of, digits, read_up_to, seek_steps, most_seek_steps}
use Rattle.term_index.specs.InnerSearch.{IsSearchable, AreBelow, index_mark_of, marks_to}
use Rattle.term_index.proofs.MarkLemmas.{below-marks, interval-before, steps-few, steps-all}
use Rattle.term_index.proofs.index.TermIndex.seek.Goals as goal

-- the entries that are below, as a slice
below-slice : (s : Searched) (sought : Sought) (marks slice : List Mark) → slice ≡ marks → IsSearchable s → map index_mark_of marks ≡ marks_to s (entry_count s.dictionary.numbers - 1)
    → AreBelow sought slice (interval_of s.dictionary (rank s sought.field.now sought.text.now))
below-slice s sought marks slice is h kept = subst (λ (ms : List Mark). AreBelow sought ms (interval_of s.dictionary (rank s sought.field.now sought.text.now))) (sym is) (below-marks s sought marks h kept)

-- how many entries were counted
counted : (s : Searched) (sought : Sought) (marks slice : List Mark) (number : ℕ) → slice ≡ marks → IsSearchable s → map index_mark_of marks ≡ marks_to s (entry_count s.dictionary.numbers - 1)
    → ((below : ℕ) → AreBelow sought slice below → number ≡ below) → (number ≡ interval_of s.dictionary (rank s sought.field.now sought.text.now)) × (number ≤ length slice)
counted s sought marks slice number is h kept count =
    let below = below-slice s sought marks slice is h kept in
    let there = count _ below in (there, omega (arith, there, below.few))

pub enter_interval-requires-clause-number : goal.enter_interval-requires-clause-number
enter_interval-requires-clause-number g c =
    let i = c.self.inside in
    omega (arith, (counted (searched i.cursor.dictionary i.names) (record { field = c.args.field; text = c.args.text }) i.marks.items c.as_slice.result.now c.count_below-number.result c.as_slice.ensures.value c.self.invariant.0 c.self.invariant.2 c.count_below-number.ensures.count).1, ap length c.as_slice.ensures.value, ap length c.as_slice-2.ensures.value)

pub find_from-requires-clause-before : goal.find_from-requires-clause-before
find_from-requires-clause-before g c =
    let i = c.self.inside in
    let d = i.cursor.dictionary in
    let k = rank (searched d i.names) c.args.field.now c.args.text.now in
    let number = (counted (searched i.cursor.dictionary i.names) (record { field = c.args.field; text = c.args.text }) i.marks.items c.as_slice.result.now c.count_below-number.result c.as_slice.ensures.value c.self.invariant.0 c.self.invariant.2 c.count_below-number.ensures.count).0 in
    let before = interval-before d k (omega (arith, c.self.invariant.0.bounded.index_interval.0)) in
    let at : c.count_below-number.result * i.index_interval ≡ interval_of d k * d.numbers.index_interval = ap (λ (n : ℕ). n * i.index_interval) number ∙ ap (λ (n : ℕ). interval_of d k * n) c.self.invariant.1 in
    let le : c.count_below-number.result * i.index_interval ≤ k = omega (arith, at, before) in
    subst (λ (w : TermWalk). w.passed ≤ rank (searched w.dictionary i.names) c.args.field.now c.args.text.now) (sym c.enter_interval.ensures) le

-- the steps of both parts
steps : (d : Dictionary) (names : List (List ℕ)) (field text : List ℕ) (marks slice : List Mark) (first between last number interval : ℕ) (w : TermWalk) → map index_mark_of marks ≡ marks_to (searched d names) (entry_count d.numbers - 1) → slice ≡ marks
    → number ≡ interval_of d (rank (searched d names) field text) → interval ≡ d.numbers.index_interval → w ≡ record { dictionary = d; passed = number * interval } → between ≡ ticked (digits (length slice)) first
    → last ≡ ticked (read_up_to w.dictionary (rank (searched w.dictionary names) field text) - w.passed) between → last ≡ ticked (seek_steps (searched d names) field text) first
steps d names field text marks slice first between last number interval w kept is there same at begun_at ended_at =
    steps-all (searched d names) field text marks first between last number (number * interval) kept there (ap (λ (k : ℕ). number * k) same) (begun_at ∙ ap (λ (ms : List Mark). ticked (digits (length ms)) first) is)
    (subst (λ (x : TermWalk). last ≡ ticked (read_up_to x.dictionary (rank (searched x.dictionary names) field text) - x.passed) between) at ended_at)

pub returns-clause-steps : goal.returns-clause-steps
returns-clause-steps g c =
    let i = c.self.inside in
    steps i.cursor.dictionary i.names c.args.field.now c.args.text.now i.marks.items c.as_slice.result.now c.args.steps.now c.count_below-number.new.steps c.find_from.new.steps c.count_below-number.result i.index_interval c.enter_interval.new.cursor c.self.invariant.2
    c.as_slice.ensures.value (counted (searched i.cursor.dictionary i.names) (record { field = c.args.field; text = c.args.text }) i.marks.items c.as_slice.result.now c.count_below-number.result c.as_slice.ensures.value c.self.invariant.0 c.self.invariant.2 c.count_below-number.ensures.count).0 c.self.invariant.1 c.enter_interval.ensures c.count_below-number.ensures.steps c.find_from.ensures.steps
    ∙ ap (λ (x : Searched). ticked (seek_steps x c.args.field.now c.args.text.now) c.args.steps.now) c.self.view_is

pub returns-clause-bound : goal.returns-clause-bound
returns-clause-bound g c =
    let i = c.self.inside in
    let all =
    steps i.cursor.dictionary i.names c.args.field.now c.args.text.now i.marks.items c.as_slice.result.now c.args.steps.now c.count_below-number.new.steps c.find_from.new.steps c.count_below-number.result i.index_interval c.enter_interval.new.cursor c.self.invariant.2
    c.as_slice.ensures.value (counted (searched i.cursor.dictionary i.names) (record { field = c.args.field; text = c.args.text }) i.marks.items c.as_slice.result.now c.count_below-number.result c.as_slice.ensures.value c.self.invariant.0 c.self.invariant.2 c.count_below-number.ensures.count).0 c.self.invariant.1 c.enter_interval.ensures c.count_below-number.ensures.steps c.find_from.ensures.steps in
    subst (λ (x : Searched). c.find_from.new.steps ≤ c.args.steps.now + most_seek_steps x.dictionary) c.self.view_is
    (steps-few (searched i.cursor.dictionary i.names) c.args.field.now c.args.text.now c.args.steps.now c.find_from.new.steps c.self.invariant.0 all)
