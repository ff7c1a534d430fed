-- The places of a term that its skip data lead to.
use Rattle.std.proofs.Common.{◌≡◌, ℕ, zero, suc, add-one, add-zero, ◌+◌, ◌-◌, ◌*◌, ◌/◌, ◌%◌, ◌<◌, ◌≤◌, Bool, true, false, not, ◌||◌, ◌&&◌, ◌==◌, List, [], ◌∷◌, length, Ok, ◌⊎◌, inl, inr, refl, sym, ap, subst, ◌∙◌, arith}
use Rattle.std.proofs.lemmas.Bool.{cases_lt, cases_eq}
use Rattle.std.proofs.lemmas.Bool.Decides.{nat_tests}
use Rattle.std.proofs.Math.Nat.{mul-mod_left, mul-div_cancel, le-div_iff_mul-le, mul-pos}
use Rattle.lu_grammar.specs.Bytes.{IsBytes, Cursor, place_in}
use Rattle.lu_grammar.specs.Records.{Condition}
use Rattle.lu_grammar.specs.Plans.{read_plan}
use Rattle.lu_grammar.specs.Meaning.{ReadsTo}
use Rattle.lu_grammar.proofs.Parts.{IsBytes-drop}
use Rattle.lu_grammar.proofs.Codecs.{all_unbroken, same-of, record_at-kept, read_plan-ReadsTo, place_in-after}
use Rattle.lu_types.specs.Occurrences.{Occurrence}
use Rattle.freq_skips.specs.declared.rules.RuledTerm.{RuledTerm}
use Rattle.freq_skips.specs.declared.skip_point.SkipPoint.{SkipPoint}
use Rattle.freq_skips.specs.Levels.{level_count, stride, data_count}
use Rattle.freq_skips.specs.Terms.{TermData}
use Rattle.freq_skips.specs.Points.{IsPoint, skip_point_behind}
use Rattle.freq_skips.specs.Walks.{point_at}
use Rattle.freq_skips.proofs.Powers.{power-pos}
use Rattle.positions.specs.Records.{OccurrenceRecord, occurrence_shape}
use Rattle.positions.specs.Occurrences.{PostedTerm, any_below, has_datum, datum_at, tells_other_sum, due_with, occurrence_conditions, count_at, entries_plan}
use Rattle.positions.specs.Terms.{term_plan}
use Rattle.positions.specs.Standing.{count_before, StandsIn}
use Rattle.positions.specs.Cursors.{StandsInBoth, posted_term}
use Rattle.positions.proofs.FrequencyLemmas.{term-count, term-frequent, count_at-some}
use Rattle.positions.proofs.StandLemmas.{occurrence_at, Stands-none, Stands-start}
use Rattle.positions.proofs.AgainLemmas.{StandsFirst, Stands-again, Stands-upto}
use Rattle.positions.proofs.PassLemmas.{plan-rises}

or-false : (a b : Bool) → a || b ≡ false → (a ≡ false) × (b ≡ false)
or-false true b e = absurd (cc)
or-false false b e = (refl, e)

any_below-false : (test : ℕ → Bool) (n l : ℕ) → any_below test n ≡ false → l < n → test l ≡ false
any_below-false test zero l e lt = absurd (omega arith)
any_below-false test (suc n) l e lt =
    let both = or-false (any_below test n) (test n) e in
    elim (cases_lt l n) [
      | inl low ↦ any_below-false test n l both.0 low
      | inr high ↦ let same : n ≡ l = omega arith in ap test (sym same) ∙ both.1
    ]

-- the entry that a datum belongs to
pub datum-entry : (m s d : ℕ) → 0 < s → m < d / s → (suc m * s - 1 < d) × (suc m * s - 1 + 1 ≡ suc m * s)
datum-entry m s d pos lt =
    let le : suc m * s ≤ d = (le-div_iff_mul-le pos).0 (let h : suc m ≤ d / s = omega arith in h) in
    let one : 0 < suc m = omega arith in
    let some : 0 < suc m * s = mul-pos one pos in
    (omega arith, omega arith)

-- where an entry stands whose datum is told, so many bytes are told
pub sum-is : (p : PostedTerm) (start : Cursor) (v : List (List Occurrence)) (end : Cursor) (level m force : ℕ) (here : Cursor) → 2 ≤ p.term.rules.skip_interval → read_plan (term_plan p) start ≡ Ok (v, end)
    → level < level_count p.term → m < data_count p.term level → 0 < count_at p (suc m * stride p.term level - 1) → StandsIn p start (suc m * stride p.term level - 1) 0 force 0 here
    → (point_at p.value level m).prox ≡ here.place - p.term.info.prox
sum-is p start v end level m force here two all level_below below due h =
    let s = stride p.term level in
    let k = suc m * s - 1 in
    let pos : 0 < s = power-pos p.term.rules.skip_interval (suc level) two in
    let at = datum-entry m s p.term.info.doc_freq pos below in
    let again = Stands-again p start v end k 0 force 0 here all h at.0 due in
    let conditions : OccurrenceRecord → List Condition = λ r. occurrence_conditions p (due_with (0 == 0) k force 0 here.place) r.delta in
    let kept = all_unbroken (conditions again.0) (record_at-kept (occurrence_shape p.term.rules.payloads force) conditions here again.0 again.1 again.2) in
    let sum = any_below-false (tells_other_sum p (k + 1) (here.place - p.term.info.prox)) (level_count p.term) level kept.1.1.0 level_below in
    let has : has_datum p.term (k + 1) level ≡ true = let e : (k + 1) % s ≡ 0 = ap (λ (n : ℕ). n % s) at.1 ∙ mul-mod_left (suc m) s in grind (arith, nat_tests) in
    let same = same-of (datum_at p (k + 1) level).prox (here.place - p.term.info.prox) (and-true has sum) in
    let number : (k + 1) / s - 1 ≡ m = ap (λ (n : ℕ). n / s - 1) at.1 ∙ ap (λ (n : ℕ). n - 1) (mul-div_cancel (suc m) pos) ∙ omega arith in
    ap (λ (n : ℕ). (point_at p.value level n).prox) (sym number) ∙ same
  where
    and-true : {a b : Bool} → a ≡ true → a && b ≡ false → b ≡ false
    and-true {a} {b} is e = ap (λ (x : Bool). x && b) (sym is) ∙ e

-- an entry of a good term in a field with positions has an occurrence
pub entry-some : (t : RuledTerm) (value : TermData) (prx : List ℕ) (occurrences : List (List Occurrence)) (k : ℕ) → StandsInBoth t value prx occurrences → t.rules.omit_tf ≡ false → k < t.info.doc_freq → 0 < count_at (posted_term t value) k
entry-some t value prx occurrences k good omit lt =
    let count = term-count t (place_in good.frq t.info.freq) value good.behind good.entries in
    count_at-some (posted_term t value) k omit ((term-frequent t (place_in good.frq t.info.freq) value good.behind good.entries).some k (omega arith))

-- the point is the start of the term
record IsStart (t : RuledTerm) (point : SkipPoint) : Type 0 where
  pub passed : point.passed ≡ 0
  pub prox : point.prox ≡ t.info.prox

-- a datum of the lowest level leads to the point
record IsLedTo (t : RuledTerm) (value : TermData) (point : SkipPoint) : Type 0 where
  pub number : ℕ
  pub some : 0 < level_count t
  pub number_below : number < data_count t 0
  pub passed : point.passed ≡ suc number * stride t 0 - 1
  pub prox : point.prox ≡ t.info.prox + (point_at value 0 number).prox

-- it is one or the other
point-kind : (t : RuledTerm) (value : TermData) (point : SkipPoint) → IsPoint t value point → IsStart t point ⊎ IsLedTo t value point
point-kind t value point h = go h.number h.exists h.point
  where
    go : (n : ℕ) → (n ≡ 0) ⊎ ((0 < level_count t) × (n ≤ data_count t 0)) → point ≡ skip_point_behind t value n → IsStart t point ⊎ IsLedTo t value point
    go zero exists is = inl (record { passed = ap (λ (x : SkipPoint). x.passed) is; prox = ap (λ (x : SkipPoint). x.prox) is })
    go (suc m) (inl none) is = absurd (omega arith)
    go (suc m) (inr (some, le)) is = inr (record { number = m; some = some; number_below = omega arith; passed = ap (λ (x : SkipPoint). x.passed) is; prox = ap (λ (x : SkipPoint). x.prox) is })

-- a point is not behind the entries
pub point-within : (t : RuledTerm) (value : TermData) (prx : List ℕ) (occurrences : List (List Occurrence)) (point : SkipPoint) → StandsInBoth t value prx occurrences → IsPoint t value point → point.passed ≤ t.info.doc_freq
point-within t value prx occurrences point good is = elim (point-kind t value point is) [
  | inl start ↦ omega (arith, start.passed)
  | inr led ↦ let at = datum-entry led.number (stride t 0) t.info.doc_freq (power-pos t.rules.skip_interval (suc 0) good.interval) led.number_below in omega (arith, at.0, led.passed)
]

-- the entry that a point leads to stands at its place
pub record LeadsTo (p : PostedTerm) (prx : List ℕ) (passed prox : ℕ) : Type 0 where
  pub first : StandsFirst p (place_in prx p.term.info.prox) passed
  pub here : first.here ≡ place_in prx prox
  pub within : prox ≤ length prx
  pub below : passed ≤ p.term.info.doc_freq

led-start : (t : RuledTerm) (value : TermData) (prx : List ℕ) (occurrences : List (List Occurrence)) (point : SkipPoint) → StandsInBoth t value prx occurrences → t.rules.omit_tf ≡ false → IsStart t point → LeadsTo (posted_term t value) prx point.passed point.prox
led-start t value prx occurrences point good omit is =
    let p = posted_term t value in
    let start = place_in prx t.info.prox in
    let first : StandsFirst p start 0 = record { force = 0; here = start; stands = Stands-none p start } in
    subst (λ (n : ℕ). LeadsTo p prx n point.prox) (sym is.passed) (record {
      first = first;
      here = ap (λ (n : ℕ). place_in prx n) (sym is.prox);
      within = omega (arith, is.prox, good.within omit);
      below = omega arith;
    })

led-by : (t : RuledTerm) (value : TermData) (prx : List ℕ) (occurrences : List (List Occurrence)) (point : SkipPoint) → IsBytes prx → StandsInBoth t value prx occurrences → t.rules.omit_tf ≡ false → IsLedTo t value point → LeadsTo (posted_term t value) prx point.passed point.prox
led-by t value prx occurrences point fits good omit is =
    let p = posted_term t value in
    let start = place_in prx t.info.prox in
    let all = read_plan-ReadsTo (term_plan p) start occurrences good.end good.reads in
    let pos : 0 < stride t 0 = power-pos t.rules.skip_interval (suc 0) good.interval in
    let at = datum-entry is.number (stride t 0) t.info.doc_freq pos is.number_below in
    let k = suc is.number * stride t 0 - 1 in
    let first = Stands-upto p start occurrences good.end all k (omega (arith, at.0)) in
    let sum = sum-is p start occurrences good.end 0 is.number first.force first.here good.interval all is.some is.number_below (entry-some t value prx occurrences k good omit at.0) first.stands in
    let behind = place_in-after (entries_plan p k) prx t.info.prox first.stands.mid first.stands.behind fits (good.within omit) first.stands.entries_read in
    let here = Stands-start p start k first.force 0 first.here first.stands in
    let rises = plan-rises (entries_plan p k) start first.stands.mid first.stands.behind (IsBytes-drop t.info.prox prx fits) first.stands.entries_read in
    let place : first.here.place ≡ point.prox = omega (arith, is.prox, sum, rises, ap (λ (c : Cursor). c.place) here.1) in
    subst (λ (n : ℕ). LeadsTo p prx n point.prox) (sym is.passed) (record {
      first = first;
      here = sym here.1 ∙ behind.0 ∙ ap (λ (c : Cursor). place_in prx c.place) here.1 ∙ ap (λ (n : ℕ). place_in prx n) place;
      within = omega (arith, behind.1, ap (λ (c : Cursor). c.place) here.1, place);
      below = omega (arith, at.0);
    })

pub point-leads : (t : RuledTerm) (value : TermData) (prx : List ℕ) (occurrences : List (List Occurrence)) (point : SkipPoint) → IsBytes prx → StandsInBoth t value prx occurrences → t.rules.omit_tf ≡ false → IsPoint t value point
    → LeadsTo (posted_term t value) prx point.passed point.prox
point-leads t value prx occurrences point fits good omit is = elim (point-kind t value point is) [
  | inl start ↦ led-start t value prx occurrences point good omit start
  | inr led ↦ led-by t value prx occurrences point fits good omit led
]
