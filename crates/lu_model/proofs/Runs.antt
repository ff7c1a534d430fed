-- The runs of a list.
use Rattle.std.proofs.Common.{◌≡◌, ℕ, zero, suc, ◌+◌, ◌-◌, ◌*◌, ◌/◌, ◌%◌, ◌<◌, ◌≤◌, List, [], ◌++◌, length, map, min, take, drop, sym, ap, ◌∙◌, subst, arith, length-drop}
use Rattle.std.specs.Prelude.{flat_map, slice_index_or}
use Rattle.std.specs.List.{range_with_len}
use Rattle.std.proofs.Math.Nat.{le-div_iff_mul-le, mod-add-div'}
use Rattle.std.proofs.Math.Seq.{take-add, take-length}
use Rattle.std.proofs.lemmas.List.{drop-drop, length-take, take_min}
use Rattle.std.proofs.lemmas.List.FromFn.{get_or-map-range_with_len, length-map-range_with_len}
use Rattle.std.proofs.lemmas.Nat.{mod_below}
use Rattle.lu_model.specs.Contents.{runs}

module _ {X : Type 0} (every : ℕ) (items : List X) where
  -- a run by its number, and how many there are
  abbrev run : ℕ → List X
  run n = take every (drop (n * every) items)

  abbrev count : ℕ
  count = (length items + (every - 1)) / every

  -- runs from one on are together the items from its first on
  runs-from : (k n : ℕ) → flat_map (λ run. run) (map run (range_with_len n k)) ≡ take (k * every) (drop (n * every) items)
  runs-from zero n = let none : 0 ≡ 0 * every = omega arith in ap (λ m. take m (drop (n * every) items)) none
  runs-from (suc k) n =
      let next : (n + 1) * every ≡ n * every + every = omega arith in
      let more : every + k * every ≡ suc k * every = omega arith in
      ap (λ w. run n ++ w) (runs-from k (n + 1))
      ∙ ap (λ w. run n ++ take (k * every) w) (ap (λ m. drop m items) next ∙ sym (drop-drop every (n * every) items))
      ∙ sym (take-add every (k * every) (drop (n * every) items))
      ∙ ap (λ m. take m (drop (n * every) items)) more

  module _ (some : 0 < every) where
    reach : length items ≤ count * every
    reach =
        let whole = mod-add-div' (length items + (every - 1)) every in
        let low : (length items + (every - 1)) % every < every = mod_below (length items + (every - 1)) every some in
        omega (arith, whole, low, some)

    -- the runs are together the list
    pub together : flat_map (λ run. run) (runs every items) ≡ items
    together =
        let none : 0 * every ≡ 0 = omega arith in
        let all : min (count * every) (length items) ≡ length items = let r = reach in omega (arith, r) in
        runs-from count 0
        ∙ ap (λ m. take (count * every) (drop m items)) none
        ∙ sym (take_min (count * every) items) ∙ ap (λ m. take m items) all ∙ take-length items

    -- a run begins within the list
    begins : (n : ℕ) → n < count → n * every < length items
    begins n h =
        let up : (n + 1) * every ≤ length items + (every - 1) = (le-div_iff_mul-le some).0 (omega arith) in
        let next : (n + 1) * every ≡ n * every + every = omega arith in
        omega (arith, up, next, some)

    length-run : (n : ℕ) → length (run n) ≡ min every (length items - n * every)
    length-run n = length-take every (drop (n * every) items) ∙ ap (min every) (length-drop (n * every) items)

    run-at : (n : ℕ) (d : List X) → n < length (runs every items) → slice_index_or (runs every items) n d ≡ run n
    run-at n d h = let all = length-map-range_with_len run 0 count in get_or-map-range_with_len run 0 count n n d (omega (arith, all, h)) (omega arith)

    -- no run is empty or too long
    pub run_bounds : (n : ℕ) (d : List X) → n < length (runs every items) → (0 < length (slice_index_or (runs every items) n d)) × (length (slice_index_or (runs every items) n d) ≤ every)
    run_bounds n d h =
        let all = length-map-range_with_len run 0 count in
        let low = begins n (omega (arith, all, h)) in
        let size = length-run n in
        subst (λ r. (0 < length r) × (length r ≤ every)) (sym (run-at n d h)) (omega (arith, low, size, some), omega (arith, size))

    -- each run but the last has the full length
    pub run_full : (n : ℕ) → n + 1 < length (runs every items) → length (slice_index_or (runs every items) n []) ≡ every
    run_full n h =
        let all = length-map-range_with_len run 0 count in
        let low = begins (n + 1) (omega (arith, all, h)) in
        let next : (n + 1) * every ≡ n * every + every = omega arith in
        let size = length-run n in
        ap length (run-at n [] (omega (arith, h))) ∙ omega (arith, low, next, size)
