-- A point of a good term is a place among its entries.
use Rattle.std.proofs.Common.{◌≡◌, ℕ, zero, suc, ◌*◌, ◌<◌, ◌≤◌, ◌⊎◌, inl, inr, List, length, sym, ap, subst, ◌∙◌, arith}
use Rattle.std.specs.Prelude.{slice_index_or}
use Rattle.lu_grammar.specs.Bytes.{IsBytes, Cursor, place_in}
use Rattle.lu_grammar.specs.Plans.{times}
use Rattle.lu_grammar.proofs.Codecs.{place_in-after}
use Rattle.freq_skips.specs.declared.rules.RuledTerm.{RuledTerm}
use Rattle.freq_skips.specs.declared.skip_point.SkipPoint.{SkipPoint}
use Rattle.freq_skips.specs.Entries.{Posting, no_posting, no_entry, entry_kind, postings_from, AreGoodFrom, IsBehindEntries}
use Rattle.freq_skips.specs.Levels.{level_count, stride, data_count}
use Rattle.freq_skips.specs.Terms.{TermData}
use Rattle.freq_skips.specs.Walks.{start_in}
use Rattle.freq_skips.specs.Points.{entry_behind, skip_point_behind, IsPoint}
use Rattle.freq_skips.proofs.EntryLemmas.{IsBehindEntries-none, IsBehindEntries-upto}
use Rattle.freq_skips.proofs.WantedLemmas.{posting-at}
use Rattle.freq_skips.proofs.PointLemmas.{entry-within}

-- so many entries are passed at the point, and the next starts there
pub record StandsAt (t : RuledTerm) (frq : List ℕ) (p : SkipPoint) : Type 0 where
  pub stands : IsBehindEntries t (start_in t frq) p.passed p.doc (place_in frq p.freq)
  pub place_within : p.freq ≤ length frq
  pub within : p.passed ≤ t.info.doc_freq

after-stands : (t : RuledTerm) (frq : List ℕ) (v : TermData) (n : ℕ) → IsBytes frq → 2 ≤ t.rules.skip_interval → t.info.freq ≤ length frq → AreGoodFrom t (start_in t frq) → v.postings ≡ postings_from t (start_in t frq)
    → (n ≡ 0) ⊎ ((0 < level_count t) × (n ≤ data_count t 0)) → StandsAt t frq (skip_point_behind t v n)
after-stands t frq v zero fits two le good same exists = record { stands = IsBehindEntries-none t (start_in t frq); place_within = le; within = omega arith }
after-stands t frq v (suc m) fits two le good same exists = elim exists [
  | inl none ↦ absurd (omega arith)
  | inr some ↦ go (entry-within t 0 m two (omega (arith, some.1)))
]
  where
    go : (suc m * stride t 0 ≤ t.info.doc_freq) × (0 < suc m * stride t 0) → StandsAt t frq (skip_point_behind t v (suc m))
    go (below, pos) = at (IsBehindEntries-upto t (start_in t frq) good.0 (entry_behind t m) good.1 (omega arith))
      where
        at : ((d : ℕ) × (here : Cursor) × IsBehindEntries t (start_in t frq) (entry_behind t m) d here) → StandsAt t frq (skip_point_behind t v (suc m))
        at (d, here, h) =
            let k = entry_behind t m in
            let is = posting-at t (start_in t frq) good.0 k d here good.1 h (omega arith) in
            let before : (slice_index_or v.postings k no_posting).before ≡ d = ap (λ (l : List Posting). (slice_index_or l k no_posting).before) same ∙ is.0 in
            let place : (slice_index_or v.postings k no_posting).place ≡ here.place = ap (λ (l : List Posting). (slice_index_or l k no_posting).place) same ∙ is.1 in
            let after = place_in-after (times (entry_kind t) k no_entry) frq t.info.freq h.passed here fits le h.reads in
            record {
              stands = subst (λ (x : ℕ). IsBehindEntries t (start_in t frq) k x (place_in frq (slice_index_or v.postings k no_posting).place)) (sym before)
                  (subst (λ (c : Cursor). IsBehindEntries t (start_in t frq) k d c) (after.0 ∙ ap (λ (x : ℕ). place_in frq x) (sym place)) h);
              place_within = let w = after.1 in omega (arith, place, w);
              within = omega arith;
            }

pub point-stands : (t : RuledTerm) (frq : List ℕ) (v : TermData) (p : SkipPoint) → IsBytes frq → 2 ≤ t.rules.skip_interval → t.info.freq ≤ length frq → AreGoodFrom t (start_in t frq) → v.postings ≡ postings_from t (start_in t frq)
    → IsPoint t v p → StandsAt t frq p
point-stands t frq v p fits two le good same h = subst (λ (q : SkipPoint). StandsAt t frq q) (sym h.point) (after-stands t frq v h.number fits two le good same h.exists)
