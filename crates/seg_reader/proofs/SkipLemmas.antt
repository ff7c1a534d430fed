-- What the point that a search of the skip data found says of the entries around it.
use Rattle.std.proofs.Common.{◌≡◌, ℕ, zero, suc, ◌+◌, ◌-◌, ◌*◌, ◌%◌, ◌^◌, ◌<◌, ◌≤◌, ◌⊎◌, inl, inr, Bool, refl, sym, ap, subst, ◌∙◌, suc-mul, arith}
use Rattle.std.specs.Prelude.{if◌then◌else◌}
use Rattle.std.proofs.lemmas.Bool.{cases_lt, le-leb, lt-leb}
use Rattle.std.proofs.Math.Nat.{mul-mod_left}
use Rattle.freq_skips.specs.declared.rules.RuledTerm.{RuledTerm}
use Rattle.freq_skips.specs.declared.skip_point.SkipPoint.{SkipPoint}
use Rattle.freq_skips.specs.Levels.{greatest_power, level_count, stride, data_count}
use Rattle.freq_skips.specs.Terms.{TermData}
use Rattle.freq_skips.specs.Walks.{HasDatum}
use Rattle.freq_skips.specs.Points.{IsPoint, IsLastBelow, skip_point_behind}
use Rattle.freq_skips.proofs.FoundLemmas.{stride-one}
use Rattle.freq_skips.proofs.PointLemmas.{entry-within}
use Rattle.seg_reader.specs.InnerScan.{posting_in, AreInOrder}

-- a datum of the lowest level leads to the point
pub record IsDatumPoint (t : RuledTerm) (value : TermData) (point : SkipPoint) : Type 0 where
  pub number : ℕ
  pub next : point.passed + 1 ≡ suc number * stride t 0
  pub within : point.passed < t.info.doc_freq
  pub some : 0 < level_count t
  pub doc : point.doc ≡ (posting_in value point.passed).before

-- it is the start of the term, or such a point
pub point-kind : (t : RuledTerm) (value : TermData) (point : SkipPoint) → 2 ≤ t.rules.skip_interval → IsPoint t value point → (point.passed ≡ 0) ⊎ IsDatumPoint t value point
point-kind t value point two h = go h.number h.exists h.point
  where
    go : (n : ℕ) → (n ≡ 0) ⊎ ((0 < level_count t) × (n ≤ data_count t 0)) → point ≡ skip_point_behind t value n → (point.passed ≡ 0) ⊎ IsDatumPoint t value point
    go zero exists is = inl (ap (λ (x : SkipPoint). x.passed) is)
    go (suc m) (inl none) is = absurd (omega arith)
    go (suc m) (inr (some, le)) is =
        let w = entry-within t 0 m two (omega arith) in
        let passed : point.passed ≡ suc m * stride t 0 - 1 = ap (λ (x : SkipPoint). x.passed) is in
        inr (record {
          number = m;
          next = omega (arith, passed, w.1);
          within = omega (arith, passed, w.0, w.1);
          some = some;
          doc = ap (λ (x : SkipPoint). x.doc) is ∙ ap (λ (n : ℕ). (posting_in value n).before) (sym passed);
        })

pub point-inside : (t : RuledTerm) (value : TermData) (point : SkipPoint) → 2 ≤ t.rules.skip_interval → IsPoint t value point → point.passed ≤ t.info.doc_freq
point-inside t value point two h = elim (point-kind t value point two h) [
  | inl start ↦ omega (arith, start)
  | inr datum ↦ let lt = datum.within in omega (arith, lt)
]

-- ---- a term without levels has fewer entries than the interval

power-low : (base n k : ℕ) → base ^ suc k ≤ n → greatest_power base n (suc k) ≡ suc k
unfolding greatest_power
power-low base n k le = ap (λ (b : Bool). if b then suc k else greatest_power base n k) (le-leb (base ^ suc k) n le)

power-high : (base n k : ℕ) → n < base ^ suc k → greatest_power base n (suc k) ≡ greatest_power base n k
unfolding greatest_power
power-high base n k lt = ap (λ (b : Bool). if b then suc k else greatest_power base n k) (lt-leb (base ^ suc k) n lt)

no-power : (base n k : ℕ) → greatest_power base n (suc k) ≡ 0 → n < base ^ 1
no-power base n zero e = elim (cases_lt n (base ^ 1)) [
  | inl low ↦ low
  | inr high ↦ let is = power-low base n 0 high in absurd (omega (arith, is, e))
]
no-power base n (suc k) e = elim (cases_lt n (base ^ suc (suc k))) [
  | inl low ↦ no-power base n k (sym (power-high base n (suc k) low) ∙ e)
  | inr high ↦ let is = power-low base n (suc k) high in absurd (omega (arith, is, e))
]

few-entries : (t : RuledTerm) → 1 ≤ t.rules.max_levels → level_count t ≡ 0 → t.info.doc_freq < t.rules.skip_interval
few-entries t some none = go t.rules.max_levels some none
  where
    go : (most : ℕ) → 1 ≤ most → greatest_power t.rules.skip_interval t.info.doc_freq most ≡ 0 → t.info.doc_freq < t.rules.skip_interval
    go zero le e = absurd (omega arith)
    go (suc k) le e = subst (λ (n : ℕ). t.info.doc_freq < n) (stride-one t) (no-power t.rules.skip_interval t.info.doc_freq k e)

-- ---- the entries around the point

module _ (t : RuledTerm) (value : TermData) (target : ℕ) (point : SkipPoint) (two : 2 ≤ t.rules.skip_interval) (order : AreInOrder t value) (last : IsLastBelow (record { term = t; value = value }) target point) where
  -- those before the point are below the target
  pub before-point : (i : ℕ) → i < point.passed → (posting_in value i).doc < target
  before-point i lt = elim (point-kind t value point two last.point) [
    | inl start ↦ absurd (omega (arith, start, lt))
    | inr datum ↦ go point.passed refl datum
  ]
    where
      go : (n : ℕ) → point.passed ≡ n → IsDatumPoint t value point → (posting_in value i).doc < target
      go zero is datum = absurd (omega (arith, is, lt))
      go (suc j) is datum =
          let inside = datum.within in
          let doc : point.doc ≡ (posting_in value j).doc = datum.doc ∙ ap (λ (n : ℕ). (posting_in value n).before) is ∙ order.before j (omega (arith, inside, is)) in
          let low = last.below (omega (arith, is)) in
          elim (cases_lt i j) [
            | inl less ↦ let up = order.rise i j less (omega (arith, inside, is)) in omega (arith, up, doc, low)
            | inr most ↦ let same : i ≡ j = omega (arith, is, lt, most) in omega (arith, ap (λ (n : ℕ). (posting_in value n).doc) same, doc, low)
          ]

  -- the entry before one that has a datum, behind the point, is not below the target
  not-below : (j : ℕ) → suc j < t.info.doc_freq → HasDatum t 0 (suc (suc j)) → (posting_in value j).doc < target → suc j ≤ point.passed
  not-below j lt has low = last.greatest (suc j) lt has (let is = order.before j lt in omega (arith, is, low))

  -- nor are those behind it by more than the interval
  pub behind-point : 1 ≤ t.rules.max_levels → (i : ℕ) → point.passed + t.rules.skip_interval ≤ i → i < t.info.doc_freq → target ≤ (posting_in value i).doc
  behind-point levels i far lt = elim (cases_lt (posting_in value i).doc target) [
    | inl low ↦ elim (point-kind t value point two last.point) [
      | inl start ↦ elim (cases_lt 0 (level_count t)) [
        | inl some ↦ from-start low start some
        | inr none ↦ let few = few-entries t levels (omega (arith, none)) in absurd (omega (arith, few, far, lt))
      ]
      | inr datum ↦ from-datum low datum
    ]
    | inr high ↦ high
  ]
    where
      S : ℕ
      S = t.rules.skip_interval

      one : stride t 0 ≡ S
      one = stride-one t

      lower : (j : ℕ) → j < i → (posting_in value i).doc < target → (posting_in value j).doc < target
      lower j less low = let up = order.rise j i less lt in omega (arith, up, low)

      from-start : (posting_in value i).doc < target → point.passed ≡ 0 → 0 < level_count t → target ≤ (posting_in value i).doc
      from-start low start some =
          let j = S - 2 in
          let next : suc (suc j) ≡ 1 * stride t 0 = omega (arith, two, one) in
          let has : HasDatum t 0 (suc (suc j)) = (some, omega arith, ap (λ (n : ℕ). n % stride t 0) next ∙ mul-mod_left 1 (stride t 0)) in
          let le = not-below j (omega (arith, two, far, lt)) has (lower j (omega (arith, two, far)) low) in
          absurd (omega (arith, le, start))

      from-datum : (posting_in value i).doc < target → IsDatumPoint t value point → target ≤ (posting_in value i).doc
      from-datum low datum =
          let j = point.passed + (S - 1) in
          let next : suc (suc j) ≡ suc (suc datum.number) * stride t 0 = omega (arith, two, one, datum.next, suc-mul (suc datum.number) (stride t 0)) in
          let has : HasDatum t 0 (suc (suc j)) = (datum.some, omega arith, ap (λ (n : ℕ). n % stride t 0) next ∙ mul-mod_left (suc (suc datum.number)) (stride t 0)) in
          let le = not-below j (omega (arith, two, far, lt)) has (lower j (omega (arith, two, far)) low) in
          absurd (omega (arith, le, two))
