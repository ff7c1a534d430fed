-- What the loop over the entries of the index keeps.
use Rattle.std.proofs.Common.{◌≡◌, ℕ, suc, ◌+◌, ◌-◌, ◌*◌, ◌<◌, ◌≤◌, List, length, Option, Some, None, Result, Ok, Err, sym, ap, subst, ◌∙◌, arith}
use Rattle.std.specs.Prelude.{slice_index}
use Rattle.std.proofs.lemmas.List.{get_or_default}
use Rattle.std.proofs.Math.Nat.{le-div_iff_mul-le, suc-mul}
use Rattle.lu_grammar.specs.declared.bad.Bad.{Bad}
use Rattle.lu_grammar.specs.Bytes.{Cursor}
use Rattle.lu_grammar.specs.Records.{Condition, first_broken, rule_of, read_shape}
use Rattle.lu_grammar.specs.Plans.{Plan, done, Broken, read_plan, one, times}
use Rattle.lu_grammar.specs.Reading.{◌>>=◌}
use Rattle.lu_grammar.proofs.Plans.{read_due, read_due_broken}
use Rattle.lu_grammar.proofs.Loops.{read_plan-and_then, each-none, times-more, times-fault}
use Rattle.term_dict.specs.declared.heading.Heading.{Heading}
use Rattle.lu_types.specs.declared.term.TermNumbers.{TermNumbers}
use Rattle.term_dict.specs.Headings.{Line, header, heading, entry, heading_shape, heading_of}
use Rattle.term_dict.specs.Terms.{DictionaryTerm, no_term}
use Rattle.term_dict.specs.Dictionary.{Dictionary}
use Rattle.term_dict.specs.Index.{IndexEntry, IndexProgress, index_kind, no_entries, entry_count, index_entry_term, indexed_place, index_heading_conditions, point_after, entries_plan, tii_plan}
use Rattle.term_dict.specs.Walk.{TermWalk, term_passed, next_place, walk_to}
use Rattle.term_dict.specs.Checks.{AreBounded}
use Rattle.term_dict.proofs.LineLemmas.{line_at-good, line_at-broken, line_at-unread}
use Rattle.term_index.specs.Points.{progress, IsNextPoint, IsIndexHeader}

-- ---- the header

abbrev rules : TermNumbers → Line IndexEntry → List Condition
rules numbers line = index_heading_conditions numbers (heading_of line)

pub header-read : (numbers : TermNumbers) (old new : Cursor) (h : Heading) (o : Option ℕ) → read_shape heading_shape old ≡ Ok (h, new) → o ≡ first_broken (index_heading_conditions numbers h) → IsIndexHeader numbers old new o
header-read numbers old new h None e is = (h, line_at-good heading_shape heading (rules numbers) old h new e (sym is))
header-read numbers old new h (Some rule) e is = line_at-broken heading_shape heading (rules numbers) old h new rule e (sym is)

pub header-unread : (numbers : TermNumbers) (old new : Cursor) (bad : Bad) (rule : ℕ) → read_shape heading_shape old ≡ Err bad → rule ≡ rule_of bad → IsIndexHeader numbers old new (Some rule)
header-unread numbers old new bad rule e is = line_at-unread heading_shape heading (rules numbers) old bad e ∙ ap (λ (n : ℕ). Err n) (sym is)

-- ---- the entries

-- so many entries are read between two places, and the walk has passed the terms before the interval of the last
pub record HasPoints (d : Dictionary) (start : Cursor) (n : ℕ) (here : Cursor) (last : DictionaryTerm) (place : ℕ) (w : TermWalk) : Type 0 where
  pub read : read_plan (times (index_kind d) n no_entries) start ≡ Ok (progress n last place, here)
  pub walk : w ≡ walk_to d ((n - 1) * d.numbers.index_interval)
  pub text : last.text ≡ (term_passed w).text

pub HasPoints-none : (start : Cursor) (last : DictionaryTerm) (place : ℕ) (w : TermWalk) → w.passed ≡ 0 → last ≡ no_term → place ≡ 0 → HasPoints w.dictionary start 0 start last place w
HasPoints-none start last place w at is none =
    let walk : w ≡ walk_to w.dictionary 0 = ap (walk_to w.dictionary) at in
    record {
      read = each-none (one (index_kind w.dictionary)) no_entries start ∙ ap (λ (t : DictionaryTerm). Ok (progress 0 t 0, start)) (sym is) ∙ ap (λ (p : ℕ). Ok (progress 0 last p, start)) (sym none);
      walk = walk ∙ ap (walk_to w.dictionary) (let e : 0 ≡ (0 - 1) * w.dictionary.numbers.index_interval = omega arith in e);
      text = ap (λ (t : DictionaryTerm). t.text) is ∙ ap (λ (x : TermWalk). (term_passed x).text) (sym walk);
    }

pub HasPoints-more : (d : Dictionary) (start : Cursor) (n : ℕ) (here : Cursor) (last : DictionaryTerm) (place : ℕ) (w : TermWalk) (new : Cursor) (next : DictionaryTerm) (next_at : ℕ) (after : TermWalk) → HasPoints d start n here last place w
    → IsNextPoint d (progress n last place) here new None → next ≡ index_entry_term d n → next_at ≡ indexed_place d n → after ≡ walk_to d (n * d.numbers.index_interval) → next.text ≡ (term_passed after).text
    → HasPoints d start (n + 1) new next next_at after
HasPoints-more d start n here last place w new next next_at after h (e, good, to) is at walk text = record {
  read =
      times-more (index_kind d) n no_entries start (progress n last place) here (entry e) new h.read good
      ∙ ap (λ (s : IndexProgress). Ok (s, new)) to
      ∙ ap (λ (t : DictionaryTerm). Ok (progress (n + 1) t (indexed_place d n), new)) (sym is) ∙ ap (λ (p : ℕ). Ok (progress (n + 1) next p, new)) (sym at);
  walk = walk ∙ ap (λ (k : ℕ). walk_to d (k * d.numbers.index_interval)) (let e : n ≡ n + 1 - 1 = omega arith in e);
  text = text;
}

pub HasPoints-fault : (d : Dictionary) (start : Cursor) (n m : ℕ) (here : Cursor) (last : DictionaryTerm) (place : ℕ) (w : TermWalk) (new : Cursor) (rule : ℕ) → HasPoints d start n here last place w → n < m
    → IsNextPoint d (progress n last place) here new (Some rule) → read_plan (times (index_kind d) m no_entries) start ≡ Err (record { offset = here.place; rule = rule })
HasPoints-fault d start n m here last place w new rule h lt broken = times-fault (index_kind d) n m no_entries start (progress n last place) here rule lt h.read broken

-- an interval that has an entry begins with a term
pub interval_begins : (numbers : TermNumbers) (n : ℕ) → AreBounded numbers → n < entry_count numbers → n * numbers.index_interval < numbers.count
interval_begins numbers n bounded lt =
    let k = numbers.index_interval in
    let some : 0 < k = omega (arith, bounded.index_interval.0) in
    let whole : suc n * k ≤ numbers.count + (k - 1) = (le-div_iff_mul-le some).0 (omega (arith, lt)) in
    omega (arith, whole, suc-mul n k, some)

-- where a term starts is the place of the walk
pub place_of_walk : (d : Dictionary) (n : ℕ) (w : TermWalk) → w ≡ walk_to d n → n < length d.starts → next_place w ≡ slice_index d.starts n
place_of_walk d n w is lt = ap next_place is ∙ get_or_default d.starts n d.size 0 lt

-- what one turn of the loop shows of the walk
pub record IsTurn (d : Dictionary) (n : ℕ) (w : TermWalk) (wanted : DictionaryTerm) : Type 0 where
  pub walk : w ≡ walk_to d (n * d.numbers.index_interval)
  pub wanted_is : wanted ≡ index_entry_term d n
  pub place_is : next_place w ≡ indexed_place d n

pub turn : (d : Dictionary) (numbers : TermNumbers) (n k : ℕ) (w after : TermWalk) (wanted : DictionaryTerm) → numbers ≡ d.numbers → AreBounded numbers → length d.starts ≡ numbers.count → n < entry_count numbers → w ≡ walk_to d k
    → after ≡ walk_to w.dictionary (n * numbers.index_interval) → wanted ≡ point_after w.dictionary.terms (n * numbers.index_interval) → IsTurn d n after wanted
turn d numbers n k w after wanted same bounded starts lt walk to is =
    let interval : n * numbers.index_interval ≡ n * d.numbers.index_interval = ap (λ (m : TermNumbers). n * m.index_interval) same in
    let here : after ≡ walk_to d (n * d.numbers.index_interval) = to ∙ ap (λ (x : TermWalk). walk_to x.dictionary (n * numbers.index_interval)) walk ∙ ap (walk_to d) interval in
    record {
      walk = here;
      wanted_is = is ∙ ap (λ (x : TermWalk). point_after x.dictionary.terms (n * numbers.index_interval)) walk ∙ ap (point_after d.terms) interval;
      place_is = place_of_walk d (n * d.numbers.index_interval) after here (omega (arith, interval, starts, interval_begins numbers n bounded lt));
    }

-- ---- the whole file

-- nothing more after the entries
abbrev pub finish : IndexProgress → Plan (Unit {0}) (Line IndexEntry)
finish s = done tt

pub index-header-good : (d : Dictionary) (numbers : TermNumbers) (c after : Cursor) → numbers ≡ d.numbers → IsIndexHeader numbers c after None → read_plan (tii_plan d) c ≡ read_plan (entries_plan d) after
index-header-good d numbers c after same h =
    let there = subst (λ (m : TermNumbers). IsIndexHeader m c after None) same h in
    read_due header (λ place line. index_heading_conditions d.numbers (heading_of line)) (λ place line. entries_plan d) c (heading there.0) after there.1

pub index-header-broken : (d : Dictionary) (numbers : TermNumbers) (c after : Cursor) (rule : ℕ) → numbers ≡ d.numbers → IsIndexHeader numbers c after (Some rule) → read_plan (tii_plan d) c ≡ Err (record { offset = c.place; rule = rule })
index-header-broken d numbers c after rule same h =
    read_due_broken header (λ place line. index_heading_conditions d.numbers (heading_of line)) (λ place line. entries_plan d) c rule (subst (λ (m : TermNumbers). IsIndexHeader m c after (Some rule)) same h)

pub entries-read : (d : Dictionary) (c after : Cursor) (s : IndexProgress) → read_plan (times (index_kind d) (entry_count d.numbers) no_entries) c ≡ Ok (s, after) → read_plan (entries_plan d) c ≡ Ok (tt, after)
unfolding read_plan
entries-read d c after s read =
    read_plan-and_then (times (index_kind d) (entry_count d.numbers) no_entries) finish c ∙ ap (λ (r : Result (IndexProgress × Cursor) Broken). r >>= λ x. read_plan (finish x.0) x.1) read

pub entries-broken : (d : Dictionary) (c : Cursor) (b : Broken) → read_plan (times (index_kind d) (entry_count d.numbers) no_entries) c ≡ Err b → read_plan (entries_plan d) c ≡ Err b
entries-broken d c b broken =
    read_plan-and_then (times (index_kind d) (entry_count d.numbers) no_entries) finish c ∙ ap (λ (r : Result (IndexProgress × Cursor) Broken). r >>= λ x. read_plan (finish x.0) x.1) broken
