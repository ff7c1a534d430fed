-- How many documents of indexes are live.
use Rattle.std.proofs.Common.{◌≡◌, ℕ, suc, ◌+◌, ◌<◌, ◌≤◌, ◌||◌, Bool, not, List, [], ◌∷◌, ◌++◌, length, map, refl, sym, ap, subst, ◌∙◌, arith}
use Rattle.std.specs.Prelude.{All, flat_map}
use Rattle.std.specs.Cmp.{nat_eq_equiv}
use Rattle.std.specs.List.{AllByRecursion, range_with_len}
use Rattle.std.specs.List.Sorted.{IsStrictlySortedBy}
use Rattle.std.specs.Ordering.{nat_cmp}
use Rattle.std.specs.declared.cmp.Ordering.TheVariants.{Less}
use Rattle.std.proofs.lemmas.Bool.Decides.{nat_tests}
use Rattle.std.proofs.lemmas.List.{length-append}
use Rattle.std.proofs.lemmas.List.Filters.{length-filter_both}
use Rattle.std.proofs.lemmas.List.FromFn.{length-range_with_len}
use Rattle.std.proofs.lemmas.Grind.{flat_map-append}
use Rattle.lu_model.specs.Contents.{index_of, is_deleted, live, merge_of}
use Rattle.lu_model.specs.Index.{Index}
use Rattle.lu_model.specs.Valid.{IsValid}
use Rattle.lu_model.proofs.BySource.{size-merge}
use Rattle.lu_model.proofs.Each.{each-from_all}
use Rattle.lu_model.proofs.Words.{Each}
use Rattle.doc_marks.specs.Marking.{is_in, AreRising}
use Rattle.check_index.specs.Segments.{SegmentValue}
use Rattle.seg_merger.specs.Merged.{indexes_of}
use Rattle.lu_changes.proofs.DeletedStandLemmas.{rising-kept}

-- ---- of one index

less : (m n : ℕ) → nat_cmp m n ≡ Less → m < n
less m n is = grind (arith, nat_tests)

above : (m : ℕ) (ds : List ℕ) → AllByRecursion (λ d. nat_cmp m d ≡ Less) ds → Each (λ d. suc m ≤ d) ds
above m [] rise = tt
above m (d ∷ ds) rise = (less m d rise.0, above m ds rise.1)

sorted-rising : (first size : ℕ) (ds : List ℕ) → IsStrictlySortedBy nat_cmp ds → Each (λ d. first ≤ d) ds → Each (λ d. d < size) ds → AreRising first size ds
unfolding IsStrictlySortedBy
sorted-rising first size [] rise low below = tt
sorted-rising first size (d ∷ ds) rise low below = (low.0, below.0, sorted-rising (suc d) size ds rise.1 (above d ds rise.0) below.1)

is_in-deleted : (d : ℕ) (deleted : List ℕ) → is_in d deleted ≡ is_deleted deleted d
unfolding is_in
is_in-deleted d [] = refl
is_in-deleted d (x ∷ xs) = λ i. nat_eq_equiv.symm x d i || is_in-deleted d xs i

low-each : (ds : List ℕ) → Each (λ d. 0 ≤ d) ds
low-each [] = tt
low-each (d ∷ ds) = (omega arith, low-each ds)

-- a document is live or deleted
pub live-count : (index : Index) → IsValid index → length index.deleted + length (live index) ≡ index.size
live-count index valid =
    let kept : index.deleted ≡ _ = rising-kept index.size index.deleted (sorted-rising 0 index.size index.deleted valid.deleted (low-each index.deleted) (each-from_all (λ d. d < index.size) index.deleted valid.deleted_below)) in
    ap (λ (ds : List ℕ). length ds + length (live index)) kept
    ∙ length-filter_both (λ d. is_in d index.deleted) (λ d. not (is_deleted index.deleted d)) (λ d. ap not (sym (is_in-deleted d index.deleted))) (range_with_len 0 index.size)
    ∙ length-range_with_len 0 index.size

-- ---- of several

-- a merge has as many documents as are live
pub live-merge : (indexes : List Index) → length (flat_map live indexes) ≡ (merge_of indexes).size
unfolding index_of
live-merge indexes = sym (size-merge indexes)

-- one segment more
pub live-more : (xs : List SegmentValue) (x : SegmentValue) → length (flat_map live (indexes_of (xs ++ x ∷ []))) ≡ length (flat_map live (indexes_of xs)) + length (live x.index)
live-more [] x = omega (arith, length-append (live x.index) [])
live-more (y ∷ ys) x = omega (arith, length-append (live y.index) (flat_map live (indexes_of (ys ++ x ∷ []))), length-append (live y.index) (flat_map live (indexes_of ys)), live-more ys x)
