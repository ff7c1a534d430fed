-- How many documents of segments are live, one segment more.
use Rattle.std.proofs.Common.{◌≡◌, ap, sym, ◌∙◌, subst, ℕ, ◌+◌, ◌*◌, ◌<◌, ◌≤◌, ◌^◌, ◌++◌, List, [], ◌∷◌, length, map, take, get_or, arith}
use Rattle.std.specs.Prelude.{flat_map}
use Rattle.std.proofs.lemmas.List.{length-append, map-append, take_all, take_more}
use Rattle.std.proofs.lemmas.List.Folds.{flat_map-map}
use Rattle.check_index.specs.Segments.{SegmentValue}
use Rattle.lu_model.specs.Contents.{live, merge_of}
use Rattle.lu_model.specs.Index.{Index}
use Rattle.lu_model.specs.Valid.{IsValid}
use Rattle.lu_model.proofs.Words.{Each}
use Rattle.seg_merger.specs.Merged.{indexes_of}
use Rattle.seg_merger.proofs.LiveLemmas.{length-live}
use Rattle.seg_merger.proofs.SourceLemmas.{size-merged}
use Rattle.seg_merger.proofs.StoredLemmas.{sources-more}

each-push : {X : Type 0} (P : X → Type 0) (xs : List X) (x : X) → Each P xs → P x → Each P (xs ++ x ∷ [])
each-push P [] x h p = (p, tt)
each-push P (y ∷ xs) x h p = (h.0, each-push P xs x h.1 p)

abbrev live_of : SegmentValue → List ℕ
live_of s = live s.index

-- the live documents of the first segments were counted
pub record AreCounted (sources : List SegmentValue) (i count : ℕ) : Type 0 where
  pub many : count ≡ length (flat_map live_of (take i sources))
  pub low : count ≤ i * 2 ^ 31
  pub valid : Each IsValid (indexes_of (take i sources))

pub counted-next : (sources : List SegmentValue) (i count more : ℕ) (s : SegmentValue) → i < length sources → s ≡ get_or sources i s → IsValid s.index → more + length s.index.deleted ≡ s.index.size → AreCounted sources i count → AreCounted sources (i + 1) (count + more)
counted-next sources i count more s lt is ok here h =
    let own = length-live s.index ok in
    let small = ok.small in
    let many = h.many in
    let low = h.low in
    let size = ap length (sources-more live_of sources i s lt is) in
    let both = length-append (flat_map live_of (take i sources)) (live s.index) in
    let front : take (i + 1) sources ≡ take i sources ++ s ∷ [] = take_more sources i s lt ∙ ap (λ r. take i sources ++ r ∷ []) (sym is) in record {
      many = omega (arith, own, here, many, size, both);
      low = omega (arith, low, small, here);
      valid = subst (Each IsValid) (sym (ap indexes_of front ∙ map-append (λ (s : SegmentValue). s.index) (take i sources) (s ∷ []))) (each-push IsValid (indexes_of (take i sources)) s.index h.valid ok);
    }

pub counted-all : (sources : List SegmentValue) (i count : ℕ) → length sources ≤ i → AreCounted sources i count → count ≡ (merge_of (indexes_of sources)).size
counted-all sources i count le h =
    h.many ∙ ap (λ (ss : List SegmentValue). length (flat_map live_of ss)) (take_all i sources le) ∙ ap length (sym (flat_map-map live (λ (s : SegmentValue). s.index) sources)) ∙ sym (size-merged (indexes_of sources))

pub counted-valid : (sources : List SegmentValue) (i count : ℕ) → length sources ≤ i → AreCounted sources i count → Each IsValid (indexes_of sources)
counted-valid sources i count le h = subst (λ (ss : List SegmentValue). Each IsValid (indexes_of ss)) (take_all i sources le) h.valid
