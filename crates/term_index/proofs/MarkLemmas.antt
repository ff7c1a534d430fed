-- The entries that the search keeps: where what is sought stands among them, and what they lead to.
use Rattle.std.proofs.Common.{◌≡◌, ℕ, zero, suc, ◌+◌, ◌-◌, ◌*◌, ◌/◌, ◌<◌, ◌≤◌, ◌^◌, min, Bool, true, false, ltb, List, [], ◌∷◌, ◌++◌, length, map, take, get_or, Option, Some, None, refl, sym, ap, subst, ◌∙◌, arith, inl, inr}
use Rattle.std.specs.Prelude.{slice_get, slice_index, slice_index_or}
use Rattle.std.specs.Option.{option_map}
use Rattle.std.specs.Ordering.{is_lt}
use Rattle.std.proofs.lemmas.Bool.{cases_lt, cases_eq, lt-ltb, le-ltb}
use Rattle.std.proofs.lemmas.List.{length-append, length-map, get_or_append_left, get_or_push}
use Rattle.std.proofs.lemmas.Option.{slice_get-map, get_or_from_slice_get, slice_get_within}
use Rattle.std.proofs.Math.Nat.{le-div_iff_mul-le, suc-mul}
use Rattle.term_dict.specs.Terms.{DictionaryTerm, no_term, last_term}
use Rattle.term_dict.specs.Dictionary.{Dictionary}
use Rattle.term_dict.specs.Index.{entry_count, index_entry_term, indexed_place, point_after}
use Rattle.term_dict.specs.Walk.{TermWalk, walk_to, term_passed, next_place}
use Rattle.term_dict.proofs.JumpLemmas.{last_term-take}
use Rattle.term_index.specs.declared.mark.Mark.{Mark}
use Rattle.term_index.specs.declared.search.Sought.{Sought}
use Rattle.lu_prims.specs.Steps.{ticked}
use Rattle.term_index.specs.Seeking.{Searched, sought_cmp, rank, digits, interval_of, read_up_to, terms_read, seek_steps, most_seek_steps}
use Rattle.term_index.specs.InnerSearch.{IsSearchable, IndexMark, AreBelow, index_mark_of, mark_at, marks_to, mark_cmp}
use Rattle.term_index.proofs.DigitLemmas.{digits-below}
use Rattle.lu_prims.proofs.StepLemmas.{ticked-ticked, ticked-le}
use Rattle.term_index.proofs.PointLoop.{interval_begins, place_of_walk}
use Rattle.term_index.proofs.RankLemmas.{below-is, rank-few}

-- ---- the entries by number

length-marks_to : (s : Searched) (n : ℕ) → length (marks_to s n) ≡ n
length-marks_to s zero = refl
length-marks_to s (suc n) = omega (arith, length-append (marks_to s n) (mark_at s (suc n) ∷ []), length-marks_to s n)

get_or-marks_to : (s : Searched) (n i : ℕ) (d : IndexMark) → i < n → get_or (marks_to s n) i d ≡ mark_at s (suc i)
get_or-marks_to s zero i d lt = absurd (omega (arith, lt))
get_or-marks_to s (suc n) i d lt = elim (cases_eq i n) [
  | inl e ↦ get_or_push (marks_to s n) (mark_at s (suc n)) d i (length-marks_to s n ∙ sym e) ∙ ap (λ (k : ℕ). mark_at s (suc k)) (sym e)
  | inr ne ↦ get_or_append_left (marks_to s n) (mark_at s (suc n) ∷ []) d i (omega (arith, length-marks_to s n, lt, ne)) ∙ get_or-marks_to s n i d (omega (arith, lt, ne))
]

pub marks-count : (s : Searched) (n : ℕ) (marks : List Mark) → map index_mark_of marks ≡ marks_to s n → length marks ≡ n
marks-count s n marks kept = sym (length-map marks index_mark_of) ∙ ap length kept ∙ length-marks_to s n

mark-is : (s : Searched) (n i : ℕ) (marks : List Mark) (m : Mark) → map index_mark_of marks ≡ marks_to s n → slice_get marks i ≡ Some m → index_mark_of m ≡ mark_at s (suc i)
mark-is s n i marks m kept at =
    let lt = slice_get_within marks i m at in
    let there : slice_get (marks_to s n) i ≡ Some (index_mark_of m) = ap (λ (ms : List IndexMark). slice_get ms i) (sym kept) ∙ slice_get-map index_mark_of marks i ∙ ap (option_map index_mark_of) at in
    sym (get_or_from_slice_get (marks_to s n) i (index_mark_of m) (index_mark_of m) there) ∙ get_or-marks_to s n i (index_mark_of m) (omega (arith, lt, marks-count s n marks kept))

-- ---- what an entry leads to

-- an interval that an entry above entry 0 leads to
pub record IsInterval (s : Searched) (number k : ℕ) : Type 0 where
  pub place : k ≡ number * s.dictionary.numbers.index_interval
  pub some : 0 < k
  pub inside : k < length s.dictionary.terms
  pub inside_starts : k < length s.dictionary.starts
  pub term : index_entry_term s.dictionary number ≡ slice_index_or s.dictionary.terms (k - 1) no_term

interval-is : (s : Searched) (number : ℕ) → IsSearchable s → 0 < number → number < entry_count s.dictionary.numbers → IsInterval s number (number * s.dictionary.numbers.index_interval)
interval-is s number h some lt =
    let d = s.dictionary in
    let i = d.numbers.index_interval in
    let k = number * i in
    let begins = interval_begins d.numbers number h.bounded lt in
    let one : number ≡ suc (number - 1) = omega (arith, some) in
    let more : k ≡ (number - 1) * i + i = ap (λ (n : ℕ). n * i) one ∙ suc-mul (number - 1) i in
    let positive : 0 < k = omega (arith, more, h.bounded.index_interval.0) in
    record {
      place = refl;
      some = positive;
      inside = omega (arith, begins, h.count);
      inside_starts = omega (arith, begins, h.starts);
      term = ap (point_after d.terms) (let e : k ≡ suc (k - 1) = omega (arith, positive) in e);
    }

-- the walk can stand before that interval
pub record LeadsTo (d : Dictionary) (k : ℕ) (m : Mark) : Type 0 where
  pub inside : k < length d.terms
  pub place : m.place ≡ next_place (walk_to d k)
  pub term : (index_mark_of m).term ≡ term_passed (walk_to d k)

pub leads : (d : Dictionary) (names : List (List ℕ)) (marks : List Mark) (number at k : ℕ) (m : Mark) → IsSearchable (record { dictionary = d; names = names }) → map index_mark_of marks ≡ marks_to (record { dictionary = d; names = names }) (entry_count d.numbers - 1)
    → 0 < number → number ≤ length marks → at ≡ number - 1 → slice_get marks at ≡ Some m → k ≡ number * d.numbers.index_interval → LeadsTo d k m
leads d names marks number at k m h kept some le here there is =
    let s : Searched = record { dictionary = d; names = names } in
    let few = marks-count s (entry_count d.numbers - 1) marks kept in
    let w = interval-is s number h some (omega (arith, few, le, some)) in
    let same = mark-is s (entry_count d.numbers - 1) at marks m kept there ∙ ap (mark_at s) (let e : suc at ≡ number = omega (arith, here, some) in e) in
    let j = number * d.numbers.index_interval in
    let last : last_term (take j d.terms) ≡ slice_index_or d.terms (j - 1) no_term =
    ap (λ (n : ℕ). last_term (take n d.terms)) (let e : j ≡ j - 1 + 1 = omega (arith, w.some) in e) ∙ last_term-take d.terms (j - 1) (omega (arith, w.inside, w.some)) in
    subst (λ (x : ℕ). LeadsTo d x m) (sym is) (record {
      inside = w.inside;
      place = ap (λ (x : IndexMark). x.place) same ∙ sym (place_of_walk d j (walk_to d j) refl w.inside_starts);
      term = ap (λ (x : IndexMark). x.term) same ∙ w.term ∙ sym last;
    })

-- ---- where what is sought stands among them

-- so many whole intervals begin with a term behind one that is below
split_at : (k i below interval : ℕ) → 0 < interval → k ≡ suc i * interval - 1 → ltb k below ≡ ltb i (below / interval)
split_at k i below interval some at = elim (cases_lt i (below / interval)) [
  | inl lt ↦
      let whole : suc i * interval ≤ below = (le-div_iff_mul-le some).0 (omega (arith, lt)) in
      lt-ltb k below (omega (arith, at, whole, suc-mul i interval, some)) ∙ sym (lt-ltb i (below / interval) lt)
  | inr ge ↦
      let not_whole : below < suc i * interval = elim (cases_lt below (suc i * interval)) [
        | inl lt ↦ lt
        | inr le ↦ let there : suc i ≤ below / interval = (le-div_iff_mul-le some).1 le in absurd (omega (arith, there, ge))
      ] in
      le-ltb k below (omega (arith, at, not_whole)) ∙ sym (le-ltb i (below / interval) ge)
]

within : (i a b : ℕ) → i < b → ltb i a ≡ ltb i (min a b)
within i a b lt = elim (cases_lt i a) [
  | inl less ↦ lt-ltb i a less ∙ sym (lt-ltb i (min a b) (omega (arith, less, lt)))
  | inr ge ↦ le-ltb i a ge ∙ sym (le-ltb i (min a b) (omega (arith, ge)))
]

pub below-marks : (s : Searched) (sought : Sought) (marks : List Mark) → IsSearchable s → map index_mark_of marks ≡ marks_to s (entry_count s.dictionary.numbers - 1)
    → AreBelow sought marks (interval_of s.dictionary (rank s sought.field.now sought.text.now))
below-marks s sought marks h kept = record {
  few = omega (arith, few);
  split = λ i m at.
      let lt = slice_get_within marks i m at in
      let w = interval-is s (suc i) h (omega arith) (omega (arith, lt, few)) in
      let same = mark-is s (entry_count d.numbers - 1) i marks m kept at in
      ap (λ (x : IndexMark). is_lt (mark_cmp sought x)) same
      ∙ ap (λ (t : DictionaryTerm). is_lt (sought_cmp s.names field text t)) w.term
      ∙ below-is s field text (suc i * d.numbers.index_interval - 1) h (omega (arith, w.inside, w.some))
      ∙ split_at (suc i * d.numbers.index_interval - 1) i (rank s field text) d.numbers.index_interval (omega (arith, h.bounded.index_interval.0)) refl
      ∙ within i (rank s field text / d.numbers.index_interval) (entry_count d.numbers - 1) (omega (arith, lt, few));
}
  where
    d : Dictionary
    d = s.dictionary

    field : List ℕ
    field = sought.field.now

    text : List ℕ
    text = sought.text.now

    few : length marks ≡ entry_count s.dictionary.numbers - 1
    few = marks-count s (entry_count s.dictionary.numbers - 1) marks kept

-- ---- the steps

-- no term before that interval is sought
pub interval-before : (d : Dictionary) (below : ℕ) → 0 < d.numbers.index_interval → interval_of d below * d.numbers.index_interval ≤ below
interval-before d below some = (le-div_iff_mul-le some).0 (let le : interval_of d below ≤ below / d.numbers.index_interval = omega arith in le)

-- at most one interval of terms is read
read-few : (s : Searched) (below : ℕ) → IsSearchable s → below ≤ length s.dictionary.terms → terms_read s.dictionary below ≤ s.dictionary.numbers.index_interval
read-few s below h le = elim (cases_lt (below / interval) n) [
  | inl lt ↦
      let one : interval_of d below ≡ below / interval = omega (arith, lt) in
      let past : below < suc (below / interval) * interval = not_more (below / interval) below (omega arith) in
      omega (arith, ap (λ (x : ℕ). x * interval) one, past, suc-mul (below / interval) interval)
  | inr ge ↦
      let one : interval_of d below ≡ n - 1 = omega (arith, ge) in
      let past : d.numbers.count + (interval - 1) < suc n * interval = not_more n (d.numbers.count + (interval - 1)) (omega arith) in
      elim (cases_lt 0 n) [
        | inl some ↦
            let whole : n * interval ≡ (n - 1) * interval + interval = ap (λ (x : ℕ). x * interval) (let e : n ≡ suc (n - 1) = omega (arith, some) in e) ∙ suc-mul (n - 1) interval in
            omega (arith, ap (λ (x : ℕ). x * interval) one, past, suc-mul n interval, whole, h.count)
        | inr none ↦
            let zero_n : n ≡ 0 = omega (arith, none) in
            let past_none : d.numbers.count + (interval - 1) < interval = omega (arith, past, suc-mul n interval, ap (λ (x : ℕ). x * interval) zero_n) in
            omega (arith, past_none, h.count, some_interval)
      ]
]
  where
    d : Dictionary
    d = s.dictionary

    interval : ℕ
    interval = s.dictionary.numbers.index_interval

    n : ℕ
    n = entry_count s.dictionary.numbers

    some_interval : 0 < interval
    some_interval = omega (arith, h.bounded.index_interval.0)

    not_more : (q x : ℕ) → x / interval ≤ q → x < suc q * interval
    not_more q x le = elim (cases_lt x (suc q * interval)) [
      | inl lt ↦ lt
      | inr more ↦ let there : suc q ≤ x / interval = (le-div_iff_mul-le some_interval).1 more in absurd (omega (arith, there, le))
    ]

pub steps-few : (s : Searched) (field text : List ℕ) (count new : ℕ) → IsSearchable s → new ≡ ticked (seek_steps s field text) count → new ≤ count + most_seek_steps s.dictionary
steps-few s field text count new h is =
    let few = read-few s (rank s field text) h (rank-few s field text) in
    let halved = digits-below (entry_count s.dictionary.numbers - 1) (entry_count s.dictionary.numbers) (omega arith) in
    omega (arith, is, ticked-le (seek_steps s field text) count, few, halved)

pub steps-all : (s : Searched) (field text : List ℕ) (marks : List Mark) (first between last number passed : ℕ) → map index_mark_of marks ≡ marks_to s (entry_count s.dictionary.numbers - 1) → number ≡ interval_of s.dictionary (rank s field text)
    → passed ≡ number * s.dictionary.numbers.index_interval → between ≡ ticked (digits (length marks)) first → last ≡ ticked (read_up_to s.dictionary (rank s field text) - passed) between → last ≡ ticked (seek_steps s field text) first
steps-all s field text marks first between last number passed kept is at begun_at ended_at =
    let d = s.dictionary in
    let few = marks-count s (entry_count d.numbers - 1) marks kept in
    let read : read_up_to d (rank s field text) - passed ≡ terms_read d (rank s field text) = ap (λ (k : ℕ). read_up_to d (rank s field text) - k) (at ∙ ap (λ (k : ℕ). k * d.numbers.index_interval) is) in
    ended_at ∙ ap (λ (k : ℕ). ticked k between) read ∙ ap (ticked (terms_read d (rank s field text))) (begun_at ∙ ap (λ (k : ℕ). ticked (digits k) first) few)
    ∙ ticked-ticked (terms_read d (rank s field text)) (digits (entry_count d.numbers - 1)) first

-- there are few entries
pub number-fits : (d : Dictionary) (names : List (List ℕ)) (marks : List Mark) (number : ℕ) → IsSearchable (record { dictionary = d; names = names }) → map index_mark_of marks ≡ marks_to (record { dictionary = d; names = names }) (entry_count d.numbers - 1) → number ≤ length marks
    → number < 2 ^ 32
number-fits d names marks number h kept le =
    let few = marks-count (record { dictionary = d; names = names }) (entry_count d.numbers - 1) marks kept in
    let some : 0 < d.numbers.index_interval = omega (arith, h.bounded.index_interval.0) in
    let whole : entry_count d.numbers * d.numbers.index_interval ≤ d.numbers.count + (d.numbers.index_interval - 1) = (le-div_iff_mul-le some).0 (omega arith) in
    let least : entry_count d.numbers ≤ entry_count d.numbers * d.numbers.index_interval = le-mul (entry_count d.numbers) d.numbers.index_interval some in
    omega (arith, few, le, whole, least, h.bounded.count, h.bounded.index_interval.1)
  where
    le-mul : (a b : ℕ) → 0 < b → a ≤ a * b
    le-mul zero b some = omega arith
    le-mul (suc a) b some = omega (arith, suc-mul a b, some, le-mul a b some)
