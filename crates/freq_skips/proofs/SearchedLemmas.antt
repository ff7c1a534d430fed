-- A level is searched from where the level above leads: how many data lead below the target, and how many were read.
use Rattle.std.proofs.Common.{◌≡◌, ℕ, zero, suc, ◌+◌, ◌-◌, ◌*◌, ◌/◌, ◌<◌, ◌≤◌, ◌⊎◌, inl, inr, Bool, true, false, true≢false, List, refl, sym, ap, subst, ◌∙◌, arith}
use Rattle.std.specs.Prelude.{slice_index_or, nat_lt, min, if◌then◌else◌}
use Rattle.std.proofs.lemmas.Bool.{cases_lt, cases_eq, eq-eqb, ne_eqb}
use Rattle.std.proofs.lemmas.List.Sums.{prefix_len_is}
use Rattle.std.proofs.Math.Nat.{le-div_iff_mul-le}
use Rattle.freq_skips.specs.declared.rules.RuledTerm.{RuledTerm}
use Rattle.freq_skips.specs.declared.datum.Point.{Point}
use Rattle.freq_skips.specs.Entries.{no_posting, postings_from}
use Rattle.freq_skips.specs.Levels.{no_point, level_count, stride, data_count}
use Rattle.freq_skips.specs.Terms.{TermData}
use Rattle.freq_skips.specs.Walks.{start_in, value_from, points_in}
use Rattle.lu_prims.specs.Steps.{ticked}
use Rattle.freq_skips.specs.Points.{is_highest, data_below, data_led, data_searched, data_read, find_steps, highest_count, most_steps}
use Rattle.freq_skips.specs.Finding.{CanSearch, StopsAt}
use Rattle.freq_skips.proofs.AboveLemmas.{data_count-above}
use Rattle.lu_prims.proofs.StepLemmas.{ticked-ticked}
use Rattle.freq_skips.proofs.PointLemmas.{leads-there}
use Rattle.freq_skips.proofs.EnterLemmas.{led-entry, led-within}
use Rattle.freq_skips.proofs.FindLemmas.{points-length, doc-rises, below-passes, below-stops, test-low, test-high, LevelSearched, led-data, searched-data, most-cases, most-within}

abbrev doc_at : RuledTerm → List ℕ → ℕ → ℕ → ℕ
doc_at t frq level m = (slice_index_or (points_in t frq level) m no_point).doc

-- a datum above and the one that it leads to have one document
doc-led : (t : RuledTerm) (frq : List ℕ) (level k m : ℕ) → CanSearch t frq → suc level < level_count t → k < data_count t (suc level) → m < data_count t level → suc m ≡ suc k * t.rules.skip_interval → doc_at t frq (suc level) k ≡ doc_at t frq level m
doc-led t frq level k m can lt below there is =
    let above = leads-there t frq (suc level) k can.bytes can.good lt below in
    let here = leads-there t frq level m can.bytes can.good (omega arith) there in
    let entry : suc k * stride t (suc level) - 1 ≡ suc m * stride t level - 1 = ap (λ (n : ℕ). n - 1) (sym (led-entry t level (suc k)) ∙ ap (λ (n : ℕ). n * stride t level) (sym is)) in
    above.doc ∙ ap (λ (n : ℕ). (slice_index_or (postings_from t (start_in t frq)) n no_posting).before) entry ∙ sym here.doc

-- the data that the level above leads past lead below the target
led-below : (t : RuledTerm) (frq : List ℕ) (target level above k : ℕ) → CanSearch t frq → above ≤ data_count t (suc level) → (above ≡ 0) ⊎ (suc level < level_count t) → above ≡ data_below (value_from t (start_in t frq)) target (suc level)
    → k < above * t.rules.skip_interval → doc_at t frq level k < target
led-below t frq target level zero k can within which is lt = absurd (omega arith)
led-below t frq target level (suc j) k can within which is lt = elim which [
  | inl none ↦ absurd (omega arith)
  | inr top ↦
      let v = value_from t (start_in t frq) in
      let most = led-within t level (suc j) can.good.interval within in
      let m = suc j * t.rules.skip_interval - 1 in
      let same = doc-led t frq level j m can top (omega arith) (omega arith) (omega arith) in
      let low = below-passes v target (suc level) j (omega (arith, is)) in
      let rise = doc-rises t frq level k m can (omega arith) (omega arith) (omega arith) in
      omega (arith, same, low, rise)
]

-- where all that were searched lead below the target, the next does not
led-stops : (t : RuledTerm) (frq : List ℕ) (target level above new : ℕ) → CanSearch t frq → suc level < level_count t → above ≡ data_below (value_from t (start_in t frq)) target (suc level) → new ≡ above * t.rules.skip_interval + (t.rules.skip_interval - 1)
    → new < data_count t level → target ≤ doc_at t frq level new
led-stops t frq target level above new can top is last lt =
    let s = t.rules.skip_interval in
    let two = can.good.interval in
    let next : suc new ≡ suc above * s = omega (arith, last, mul-suc above s) in
    let pos : 0 < s = omega arith in
    let le : suc above ≤ data_count t level / s = (le-div_iff_mul-le pos).1 (omega arith) in
    let some : suc above ≤ data_count t (suc level) = subst (λ (n : ℕ). suc above ≤ n) (data_count-above t level) le in
    let v = value_from t (start_in t frq) in
    let long = points-length t frq (suc level) can top in
    let high = below-stops v target (suc level) (omega (arith, is, long)) in
    let there : target ≤ doc_at t frq (suc level) above = subst (λ (n : ℕ). target ≤ doc_at t frq (suc level) n) (sym is) high in
    let same = doc-led t frq level above new can top (omega arith) lt next in
    omega (arith, same, there)
  where
    mul-suc : (a s : ℕ) → suc a * s ≡ a * s + s
    mul-suc a s = omega arith

pub level-searched : (t : RuledTerm) (frq : List ℕ) (target level above old new most : ℕ) → CanSearch t frq → level < level_count t → above ≤ data_count t (suc level) → (above ≡ 0) ⊎ (suc level < level_count t)
    → above ≡ data_below (value_from t (start_in t frq)) target (suc level) → old ≡ above * t.rules.skip_interval → most ≡ (if is_highest t level then data_count t level else min (data_count t level) (old + (t.rules.skip_interval - 1)))
    → StopsAt (points_in t frq level) target old new most → old ≤ data_count t level → LevelSearched t (value_from t (start_in t frq)) target level old new most
level-searched t frq target level above old new most can lt within which is start last stop le =
    let v = value_from t (start_in t frq) in
    let led : old ≡ data_led t v target level = start ∙ led-data t v target level above which is in
    let searched = searched-data t v target level old most led last in
    let ends = most-within t level old most le last in
    let long = points-length t frq level can lt in
    let new_in = stop.within in
    let below : data_below v target level ≡ new =
    prefix_len_is (λ (p : Point). nat_lt p.doc target) (points_in t frq level) new no_point (omega (arith, long, ends.1, new_in))
    (λ k k_lt. test-low _ target (elim (cases_lt k old) [
      | inl low ↦ led-below t frq target level above k can within which is (omega (arith, start, low))
      | inr ge ↦ stop.below k ge k_lt
    ]))
    (λ more. test-high _ target (elim stop.stops [
      | inr here ↦ here.1
      | inl all ↦ elim (most-cases t level old most (is_highest t level) refl last) [
        | inl every ↦ absurd (omega (arith, long, all, every, more))
        | inr some ↦ led-stops t frq target level above new can (not-highest some.1) is (omega (arith, all, some.0, start)) (omega (arith, long, more))
      ]
    ])) in
    record {
      below = sym below;
      read = ap (λ (n : ℕ). min (suc n) most - old) (sym below) ∙ ap (λ (n : ℕ). min (suc (data_below v target level)) n - old) searched
          ∙ ap (λ (n : ℕ). min (suc (data_below v target level)) (data_searched t v target level) - n) led;
    }
  where
    not-highest : is_highest t level ≡ false → suc level < level_count t
    not-highest e = elim (cases_eq (suc level) (level_count t)) [
      | inl same ↦ let top = eq-eqb (suc level) (level_count t) same in absurd (true≢false (sym top ∙ e))
      | inr other ↦ omega arith
    ]

-- the steps of the levels that are left
find_steps-suc : (t : RuledTerm) (v : TermData) (target n : ℕ) → find_steps t v target (suc n) ≡ data_read t v target n + find_steps t v target n
unfolding find_steps
find_steps-suc t v target n = refl

pub steps-left : (t : RuledTerm) (frq : List ℕ) (target number level old new most steps now : ℕ) → number ≡ suc level → LevelSearched t (value_from t (start_in t frq)) target level old new most → now ≡ ticked (min (suc new) most - old) steps
    → ticked (find_steps t (value_from t (start_in t frq)) target level) now ≡ ticked (find_steps t (value_from t (start_in t frq)) target number) steps
steps-left t frq target number level old new most steps now is h at =
    let v = value_from t (start_in t frq) in
    let n = find_steps t v target level in
    ap (λ (k : ℕ). ticked n k) (at ∙ ap (λ (k : ℕ). ticked k steps) h.read) ∙ ticked-ticked n (data_read t v target level) steps
    ∙ ap (λ (k : ℕ). ticked k steps) (sym (find_steps-suc t v target level) ∙ ap (λ (k : ℕ). find_steps t v target k) (sym is))

-- ---- the most steps

read-few : (t : RuledTerm) (v : TermData) (target level : ℕ) (h : Bool) → is_highest t level ≡ h → data_read t v target level ≤ (if h then data_count t level else t.rules.skip_interval)
read-few t v target level true top = few (rw top refl)
  where
    few : data_searched t v target level ≡ data_count t level → data_read t v target level ≤ data_count t level
    few e = omega (arith, e)
read-few t v target level false top = few (rw top refl)
  where
    few : data_searched t v target level ≡ min (data_count t level) (data_led t v target level + (t.rules.skip_interval - 1)) → data_read t v target level ≤ t.rules.skip_interval
    few e = omega (arith, e)

steps-below : (t : RuledTerm) (v : TermData) (target n : ℕ) → n < level_count t → find_steps t v target n ≤ t.rules.skip_interval * n
unfolding find_steps
steps-below t v target zero lt = omega arith
steps-below t v target (suc n) lt =
    let rest = steps-below t v target n (omega arith) in
    let one = read-few t v target n false (ne_eqb (suc n) (level_count t) (λ e. absurd (omega arith))) in
    let more : t.rules.skip_interval * suc n ≡ t.rules.skip_interval * n + t.rules.skip_interval = omega arith in
    omega (arith, rest, one, more)

find_steps-none : (t : RuledTerm) (v : TermData) (target : ℕ) → find_steps t v target 0 ≡ 0
unfolding find_steps
find_steps-none t v target = refl

pub steps-few : (t : RuledTerm) (v : TermData) (target : ℕ) → find_steps t v target (level_count t) ≤ most_steps t
steps-few t v target = go (level_count t) refl
  where
    go : (n : ℕ) → level_count t ≡ n → find_steps t v target (level_count t) ≤ most_steps t
    go zero is = let e : find_steps t v target (level_count t) ≡ 0 = ap (λ (k : ℕ). find_steps t v target k) is ∙ find_steps-none t v target in omega (arith, e)
    go (suc n) is =
        let rest = steps-below t v target n (omega arith) in
        let one = read-few t v target n true (eq-eqb (suc n) (level_count t) (sym is)) in
        let all : find_steps t v target (level_count t) ≡ data_read t v target n + find_steps t v target n = ap (λ (k : ℕ). find_steps t v target k) is ∙ find_steps-suc t v target n in
        let top : highest_count t ≡ data_count t n = rw (ne_eqb (level_count t) 0 (λ e. absurd (omega arith))) (ap (λ (k : ℕ). data_count t k) (let z : level_count t - 1 ≡ n = omega arith in z)) in
        let more : t.rules.skip_interval * level_count t ≡ t.rules.skip_interval * n + t.rules.skip_interval = ap (λ (k : ℕ). t.rules.skip_interval * k) is ∙ (omega arith) in
        omega (arith, rest, one, all, top, more)
