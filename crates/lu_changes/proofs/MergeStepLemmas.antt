-- What comes of each step of `merge` by that of the next one.
use Rattle.std.proofs.Common.{◌≡◌, ℕ, zero, suc, ◌+◌, ◌<◌, List, [], ◌∷◌, ◌++◌, length, drop, refl, sym, ap, subst, ◌∙◌, append_assoc, arith}
use Rattle.lu_model.specs.Contents.{merge_of}
use Rattle.lu_model.specs.Index.{Index}
use Rattle.check_index.specs.Segments.{SegmentValue}
use Rattle.lu_folder.specs.Drawing.{next_segment}
use Rattle.seg_merger.specs.Merged.{indexes_of}
use Rattle.lu_outcomes.specs.declared.outcome.Outcome.{Outcome}
use Rattle.lu_changes.specs.Building.{BasisValue, no_segment_outcome}
use Rattle.lu_changes.specs.Merging.{on_emptied, NumberMerges, SizeMerges, ValuesMerge}

size-none : (basis : BasisValue) (index : Index) (count : ℕ) → count ≡ 0 → SizeMerges basis index count (no_segment_outcome (on_emptied basis))
size-none basis index zero none = refl
size-none basis index (suc count) none = absurd (omega (arith, none))

size-some : (basis : BasisValue) (index : Index) (outcome : Outcome) (count : ℕ) → 0 < count → NumberMerges basis index (next_segment basis.names basis.before) outcome → SizeMerges basis index count outcome
size-some basis index outcome zero some gives = absurd (omega (arith, some))
size-some basis index outcome (suc count) some gives = gives

-- segments of which no document is live
pub values-none : (basis : BasisValue) (xs : List SegmentValue) → (merge_of (indexes_of xs)).size ≡ 0 → ValuesMerge basis xs (no_segment_outcome (on_emptied basis))
values-none basis xs none = size-none basis (merge_of (indexes_of xs)) (merge_of (indexes_of xs)).size none

-- segments of which one is
pub values-some : (basis : BasisValue) (xs : List SegmentValue) (outcome : Outcome) → 0 < (merge_of (indexes_of xs)).size → NumberMerges basis (merge_of (indexes_of xs)) (next_segment basis.names basis.before) outcome → ValuesMerge basis xs outcome
values-some basis xs outcome some gives = size-some basis (merge_of (indexes_of xs)) outcome (merge_of (indexes_of xs)).size some gives

-- one segment more is to be merged, and one fewer is left
pub joined-more : (all left rest sources after : List SegmentValue) (x y : SegmentValue) → left ≡ x ∷ rest → y ≡ x → after ≡ sources ++ y ∷ [] → sources ++ left ≡ all → after ++ rest ≡ all
joined-more all left rest sources after x y split same pushed so_far =
    ap (λ (ys : List SegmentValue). ys ++ rest) pushed
    ∙ append_assoc sources (y ∷ []) rest
    ∙ ap (λ (z : SegmentValue). sources ++ z ∷ rest) same
    ∙ ap (λ (ys : List SegmentValue). sources ++ ys) (sym split)
    ∙ so_far
