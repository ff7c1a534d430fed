-- The point that a search finds is the last one below the target.
use Rattle.std.proofs.Common.{◌≡◌, ℕ, zero, suc, ◌+◌, ◌-◌, ◌*◌, ◌/◌, ◌^◌, ◌<◌, ◌≤◌, ◌⊎◌, inl, inr, false, List, refl, sym, ap, subst, ◌∙◌, arith}
use Rattle.std.specs.Prelude.{slice_index_or, ◌==◌, if◌then◌else◌}
use Rattle.std.proofs.lemmas.Bool.{cases_lt, ne_eqb}
use Rattle.std.proofs.lemmas.Nat.{div-add-mod'}
use Rattle.std.proofs.Math.Nat.{pow-suc, pow-zero, le-div_iff_mul-le, mul-le-mul_right}
use Rattle.freq_skips.specs.declared.rules.RuledTerm.{RuledTerm}
use Rattle.freq_skips.specs.declared.datum.Point.{Point}
use Rattle.freq_skips.specs.declared.skip_point.SkipPoint.{SkipPoint}
use Rattle.freq_skips.specs.Entries.{Posting, no_posting, postings_from}
use Rattle.freq_skips.specs.Levels.{level_count, stride, data_count}
use Rattle.freq_skips.specs.Terms.{TermData}
use Rattle.freq_skips.specs.Walks.{start_in, value_from, point_at, HasDatum}
use Rattle.freq_skips.specs.ProxPlaces.{HasProxPlaces}
use Rattle.freq_skips.specs.Points.{KnownTerm, entry_behind, skip_point_behind, IsLastBelow, data_below}
use Rattle.freq_skips.specs.Finding.{CanSearch, HasPassedData}
use Rattle.freq_skips.proofs.Powers.{power-pos}
use Rattle.freq_skips.proofs.TermLemmas.{TermParts-ReadsTo}
use Rattle.freq_skips.proofs.WalkLemmas.{value_from-is}
use Rattle.freq_skips.proofs.PostingLemmas.{posting-place}
use Rattle.freq_skips.proofs.PointLemmas.{entries-good, leads-there}
use Rattle.freq_skips.proofs.FindLemmas.{points-length, doc-rises, below-passes, below-stops}

-- the postings that the bytes stand for
pub postings-same : (t : RuledTerm) (frq : List ℕ) → CanSearch t frq → (value_from t (start_in t frq)).postings ≡ postings_from t (start_in t frq)
postings-same t frq can =
    let good = can.good in
    let parts = TermParts-ReadsTo t (start_in t frq) good.value good.end good.reads in
    ap (λ (v : TermData). v.postings) (value_from-is t (start_in t frq) good.value good.end good.reads) ∙ parts.postings

pub stride-one : (t : RuledTerm) → stride t 0 ≡ t.rules.skip_interval
stride-one t = let s = t.rules.skip_interval in pow-suc s 0 ∙ ap (λ (n : ℕ). n * s) (let one : s ^ 0 ≡ 1 = pow-zero s in one) ∙ (omega arith)

-- which datum of the lowest level an entry has
pub datum-of-entry : (t : RuledTerm) (index : ℕ) → 2 ≤ t.rules.skip_interval → index < t.info.doc_freq → HasDatum t 0 (suc index) → (m : ℕ) × (m < data_count t 0) × (suc m * stride t 0 ≡ suc index)
datum-of-entry t index two lt has =
    let S = stride t 0 in
    let pos : 0 < S = power-pos t.rules.skip_interval 1 two in
    let whole = div-add-mod' (suc index) S in
    go (suc index / S) refl (omega (arith, whole, has.2))
  where
    S : ℕ
    S = stride t 0

    go : (q : ℕ) → suc index / S ≡ q → suc index / S * S ≡ suc index → (m : ℕ) × (m < data_count t 0) × (suc m * S ≡ suc index)
    go zero is all = let z : suc index / S * S ≡ zero * S = ap (λ (n : ℕ). n * S) is in absurd (omega arith)
    go (suc m) is all =
        let z : suc index / S * S ≡ suc m * S = ap (λ (n : ℕ). n * S) is in
        let pos : 0 < S = power-pos t.rules.skip_interval 1 two in
        let le : suc m ≤ t.info.doc_freq / S = (le-div_iff_mul-le pos).1 (omega arith) in
        (m, omega arith, omega arith)

-- the point behind so many data
abbrev pub reached : RuledTerm → ℕ → Point → SkipPoint
reached t zero last = record { passed = 0; doc = 0; freq = t.info.freq; prox = t.info.prox }
reached t (suc m) last = record { passed = suc m * t.rules.skip_interval - 1; doc = last.doc; freq = t.info.freq + last.freq; prox = t.info.prox + last.prox }

pub reached-if : (t : RuledTerm) (count : ℕ) (last : Point) → (if count == 0 then (record { passed = 0; doc = 0; freq = t.info.freq; prox = t.info.prox })
    else (record { passed = count * t.rules.skip_interval - 1; doc = last.doc; freq = t.info.freq + last.freq; prox = t.info.prox + last.prox })) ≡ reached t count last
reached-if t zero last = refl
reached-if t (suc m) last = let e : (suc m == 0) ≡ false = ne_eqb (suc m) 0 (λ e. absurd (omega arith)) in rw e refl

abbrev point_of_parts : ℕ → ℕ → ℕ → ℕ → SkipPoint
point_of_parts passed doc freq prox = record { passed = passed; doc = doc; freq = freq; prox = prox }

same-point : (a b c d e f g h : ℕ) → a ≡ e → b ≡ f → c ≡ g → d ≡ h → point_of_parts a b c d ≡ point_of_parts e f g h
same-point a b c d e f g h p q r s =
    ap (λ (x : ℕ). point_of_parts x b c d) p ∙ ap (λ (x : ℕ). point_of_parts e x c d) q ∙ ap (λ (x : ℕ). point_of_parts e f x d) r ∙ ap (λ (x : ℕ). point_of_parts e f g x) s

pub reached-is : (t : RuledTerm) (frq : List ℕ) (count : ℕ) (last : Point) → CanSearch t frq → HasPassedData t frq 0 count last → reached t count last ≡ skip_point_behind t (value_from t (start_in t frq)) count
reached-is t frq zero last can h = refl
reached-is t frq (suc m) last can h = elim h.level_within [
  | inl none ↦ absurd (omega arith)
  | inr lt ↦
      let within = h.within in
      let v = value_from t (start_in t frq) in
      let k = entry_behind t m in
      let there = leads-there t frq 0 m can.bytes can.good lt (omega arith) in
      let good = entries-good t frq can.good in
      let place = posting-place t frq t.info.freq good.0 k can.bytes can.good.within good.1 there.within in
      let same = postings-same t frq can in
      let index : suc m * t.rules.skip_interval - 1 ≡ k = ap (λ (n : ℕ). suc m * n - 1) (sym (stride-one t)) in
      let before = h.like.doc ∙ there.doc ∙ ap (λ (l : List Posting). (slice_index_or l k no_posting).before) (sym same) in
      let start : t.info.freq + last.freq ≡ (slice_index_or (postings_from t (start_in t frq)) k no_posting).place = omega (arith, h.like.freq, there.freq, place.0) in
      same-point (suc m * t.rules.skip_interval - 1) last.doc (t.info.freq + last.freq) (t.info.prox + last.prox) k (slice_index_or v.postings k no_posting).before (slice_index_or v.postings k no_posting).place (t.info.prox + (point_at v 0 m).prox)
      index before (start ∙ ap (λ (l : List Posting). (slice_index_or l k no_posting).place) (sym same)) (ap (λ (n : ℕ). t.info.prox + n) h.like.prox)
]

-- an entry with a datum whose document before is below the target has one that is counted
counted : (t : RuledTerm) (frq : List ℕ) (target index : ℕ) → CanSearch t frq → index < t.info.doc_freq → HasDatum t 0 (suc index) → (slice_index_or (postings_from t (start_in t frq)) index no_posting).before < target
    → (m : ℕ) × (m < data_below (value_from t (start_in t frq)) target 0) × (suc m * stride t 0 ≡ suc index)
counted t frq target index can lt has low = go (datum-of-entry t index can.good.interval lt has)
  where
    go : ((m : ℕ) × (m < data_count t 0) × (suc m * stride t 0 ≡ suc index)) → (m : ℕ) × (m < data_below (value_from t (start_in t frq)) target 0) × (suc m * stride t 0 ≡ suc index)
    go (m, below, is) =
        let v = value_from t (start_in t frq) in
        let there = leads-there t frq 0 m can.bytes can.good has.0 below in
        let same : suc m * stride t 0 - 1 ≡ index = omega (arith, is) in
        let doc = there.doc ∙ ap (λ (n : ℕ). (slice_index_or (postings_from t (start_in t frq)) n no_posting).before) same in (
          m,
          elim (cases_lt m (data_below v target 0)) [
            | inl yes_lt ↦ yes_lt
            | inr ge ↦
                let long = points-length t frq 0 can has.0 in
                let high = below-stops v target 0 (omega (arith, long)) in
                let rise = doc-rises t frq 0 (data_below v target 0) m can has.0 ge below in
                absurd (omega (arith, high, rise, doc, low))
          ],
          is,
        )

abbrev known : RuledTerm → List ℕ → KnownTerm
known t frq = record { term = t; value = value_from t (start_in t frq) }

pub found-last : (t : RuledTerm) (frq : List ℕ) (target count : ℕ) (last : Point) → CanSearch t frq → HasPassedData t frq 0 count last → count ≡ data_below (value_from t (start_in t frq)) target 0 → IsLastBelow (known t frq) target (reached t count last)
found-last t frq target count last can h is = record {
  point = record { number = count; exists = exists h.level_within; point = reached-is t frq count last can h };
  below = low count h is;
  greatest = λ index lt has small. great index lt (counted t frq target index can lt has (subst (λ (l : List Posting). (slice_index_or l index no_posting).before < target) (postings-same t frq can) small));
}
  where
    exists : (count ≡ 0) ⊎ (0 < level_count t) → (count ≡ 0) ⊎ ((0 < level_count t) × (count ≤ data_count t 0))
    exists (inl none) = inl none
    exists (inr lt) = inr (lt, h.within)

    low : (n : ℕ) → HasPassedData t frq 0 n last → n ≡ data_below (value_from t (start_in t frq)) target 0 → 0 < (reached t n last).passed → (reached t n last).doc < target
    low zero p e pos = absurd (omega arith)
    low (suc m) p e pos = let passes = below-passes (value_from t (start_in t frq)) target 0 m (omega (arith, e)) in let same = p.like.doc in subst (λ (n : ℕ). n < target) (sym same) passes

    above : (m n index : ℕ) → suc m ≤ n → suc m * stride t 0 ≡ suc index → index ≤ (reached t n last).passed
    above m zero index le e = absurd (omega arith)
    above m (suc k) index le e =
        let up : suc m * stride t 0 ≤ suc k * stride t 0 = mul-le-mul_right (stride t 0) le in
        let one : suc k * stride t 0 ≡ suc k * t.rules.skip_interval = ap (λ (n : ℕ). suc k * n) (stride-one t) in
        omega (arith, up, one, e)

    great : (index : ℕ) → index < t.info.doc_freq → ((m : ℕ) × (m < data_below (value_from t (start_in t frq)) target 0) × (suc m * stride t 0 ≡ suc index)) → index ≤ (reached t count last).passed
    great index lt (m, below, e) = above m count index (omega (arith, is, below)) e

-- its place of positions is the one that belongs to its entry
pub found-prox : (t : RuledTerm) (frq : List ℕ) (count : ℕ) (last : Point) (prox : ℕ → ℕ) → CanSearch t frq → HasPassedData t frq 0 count last → HasProxPlaces t (value_from t (start_in t frq)) prox → 0 < (reached t count last).passed
    → (reached t count last).prox ≡ t.info.prox + prox (reached t count last).passed
found-prox t frq zero last prox can h places pos = absurd (omega arith)
found-prox t frq (suc m) last prox can h places pos = elim h.level_within [
  | inl none ↦ absurd (omega arith)
  | inr lt ↦
      let within = h.within in
      ap (λ (n : ℕ). t.info.prox + n) (h.like.prox ∙ places.sums 0 m lt (omega arith) ∙ ap prox (ap (λ (n : ℕ). suc m * n - 1) (stride-one t)))
]

-- the entries that are passed are numbers of 32 bits
pub entries-small : (t : RuledTerm) (count : ℕ) → t.info.doc_freq < 2 ^ 32 → 0 < t.rules.skip_interval → count ≤ data_count t 0 → count * t.rules.skip_interval < 2 ^ 32
entries-small t count small two le =
    let pos : 0 < stride t 0 = subst (λ (n : ℕ). 0 < n) (sym (stride-one t)) two in
    let most : count * stride t 0 ≤ t.info.doc_freq = (le-div_iff_mul-le pos).0 le in
    let same : count * stride t 0 ≡ count * t.rules.skip_interval = ap (λ (n : ℕ). count * n) (stride-one t) in
    omega arith
