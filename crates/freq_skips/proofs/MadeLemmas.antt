-- The levels that a writer makes out of marks and child pointers are the levels of its entries.
use Rattle.std.proofs.Common.{◌≡◌, ℕ, zero, suc, add-one, ◌+◌, ◌-◌, ◌*◌, ◌/◌, ◌%◌, ◌^◌, ◌<◌, ◌≤◌, eqb, Bool, true, false, List, [], ◌∷◌, ◌++◌, length, get_or, Option, Some, inl, inr, refl, sym, ap, subst, ◌∙◌, arith}
use Rattle.std.specs.Prelude.{slice_index}
use Rattle.std.proofs.lemmas.Bool.{cases_eq, cases_lt, eq-eqb, ne_eqb}
use Rattle.std.proofs.Math.ListN.{get_or-append}
use Rattle.std.proofs.Math.Seq.{get_or-append_seam}
use Rattle.std.proofs.Math.Nat.{div-div-eq-div-mul, div-mul-le_self, mul-le-mul_right, mul_assoc, mul_comm, mul-mod_left, div-eq_of_lt-le, pow-suc, pow-zero}
use Rattle.freq_skips.specs.declared.datum.Skip.{Skip}
use Rattle.freq_skips.specs.declared.writer.Mark.{Mark}
use Rattle.freq_skips.specs.Written.{Handed, mark_of, skip_between, bytes_to_child, datum_bytes, SkipLevel, skip_level, mark_after, child_after, child_pointer, written_skip, data_bytes, data_number, level_above, with_level_length, skip_bytes, place_with}
use Rattle.freq_skips.specs.InnerLevels.{LevelMarks, HasMarks, marked_after, pointed_after, marked_skip, marked_bytes, places_after, marked_count, marked_above, marked_levels, lowest_marks}
use Rattle.freq_skips.proofs.Powers.{quotient-below}
use Rattle.freq_skips.proofs.WriterLemmas.{places_after-length, marked_bytes-none, marked_bytes-more, marked_levels-none, marked_levels-next}
use Rattle.freq_skips.proofs.WrittenLevels.{data_bytes-none, data_bytes-more}
use Rattle.freq_skips.proofs.WrittenTerms.{skip_bytes-none, skip_bytes-next}
use Rattle.freq_skips.proofs.LeadLemmas.{above-number}

-- the place just after the ProxSkip of a datum that a child pointer leads to
abbrev place_here : LevelMarks → ℕ → ℕ
place_here r m = length (marked_bytes r m) + length (bytes_to_child (marked_skip r m))

pub places_after-at : (r : LevelMarks) (count m : ℕ) → 0 < r.interval → m < count → (m + 1) % r.interval ≡ 0 → slice_index (places_after r count) (m / r.interval) ≡ place_here r m
unfolding places_after
places_after-at r zero m pos lt e = absurd (omega arith)
places_after-at r (suc c) m pos lt e = elim (cases_lt m c) [
  | inl low ↦
      let before = places_after-at r c m pos low e in
      let size = places_after-length r c pos in
      let within : m / r.interval < length (places_after r c) = omega (arith, size, quotient-below m r.interval c pos e low) in
      elim (cases_eq ((c + 1) % r.interval) 0) [
        | inl here ↦
            let test : eqb (suc c % r.interval) 0 ≡ true = eq-eqb _ _ (ap (λ (n : ℕ). n % r.interval) (sym (add-one c)) ∙ here) in
            rw test (get_or-append (places_after r c) ((length (marked_bytes r c) + length (bytes_to_child (marked_skip r c))) ∷ []) 0 (m / r.interval) within ∙ before)
        | inr ne ↦
            let test : eqb (suc c % r.interval) 0 ≡ false = ne_eqb _ _ (λ z. ne (ap (λ (n : ℕ). n % r.interval) (add-one c) ∙ z)) in
            rw test before
      ]
  | inr ge ↦
      let is : m ≡ c = omega arith in
      let here : (c + 1) % r.interval ≡ 0 = ap (λ (n : ℕ). (n + 1) % r.interval) (sym is) ∙ e in
      let test : eqb (suc c % r.interval) 0 ≡ true = eq-eqb _ _ (ap (λ (n : ℕ). n % r.interval) (sym (add-one c)) ∙ here) in
      let index : m / r.interval ≡ length (places_after r c) = ap (λ (n : ℕ). n / r.interval) is ∙ sym (places_after-length r c pos) in
      rw test (ap (λ (n : ℕ). get_or (places_after r c ++ (length (marked_bytes r c) + length (bytes_to_child (marked_skip r c))) ∷ []) n 0) index
      ∙ get_or-append_seam (places_after r c) (length (marked_bytes r c) + length (bytes_to_child (marked_skip r c))) [] 0 ∙ ap (place_here r) (sym is))
]

-- what a writer makes of a level is that level of its entries
pub record IsMade (l : SkipLevel) (r : LevelMarks) : Type 0 where
  pub payloads : r.payloads ≡ l.payloads
  pub interval : r.interval ≡ l.interval
  pub number : r.number ≡ l.number
  pub step : r.step * l.interval ≡ l.interval ^ suc l.number
  pub step_pos : 0 < r.step
  pub has : HasMarks l.omit l.interval l.entries r.marks
  pub children : (m : ℕ) → m < data_number l → pointed_after r m ≡ child_after l m

mark-index : (m step marks : ℕ) → 0 < step → m < marks / step → suc m * step - 1 < marks
mark-index m step marks pos lt =
    let up : suc m * step ≤ marks / step * step = mul-le-mul_right step lt in
    let low = div-mul-le_self marks step in
    let some : 1 * step ≤ suc m * step = mul-le-mul_right step (let one : 1 ≤ suc m = omega arith in one) in
    omega arith

entry-index : (m step s stride : ℕ) → 0 < step → step * s ≡ stride → suc (suc m * step - 1) * s - 1 ≡ suc m * stride - 1
entry-index m step s stride pos is =
    let some : 1 * step ≤ suc m * step = mul-le-mul_right step (let one : 1 ≤ suc m = omega arith in one) in
    let whole : suc (suc m * step - 1) ≡ suc m * step = omega arith in
    ap (λ (n : ℕ). n * s - 1) whole ∙ ap (λ (n : ℕ). n - 1) (mul_assoc (suc m) step s ∙ ap (λ (n : ℕ). suc m * n) is)

made-count : (l : SkipLevel) (r : LevelMarks) → IsMade l r → marked_count r ≡ data_number l
made-count l r h =
    ap (λ (n : ℕ). n / r.step) h.has.count ∙ div-div-eq-div-mul (length l.entries) l.interval r.step ∙ ap (λ (n : ℕ). length l.entries / n) (mul_comm l.interval r.step ∙ h.step)

made-mark : (l : SkipLevel) (r : LevelMarks) (m : ℕ) → IsMade l r → m ≤ data_number l → marked_after r m ≡ mark_after l m
made-mark l r zero h le = refl
made-mark l r (suc m) h le =
    let never : eqb (suc m) 0 ≡ false = ne_eqb _ _ (λ z. absurd (omega arith)) in
    let lt : m < marked_count r = subst (λ (n : ℕ). m < n) (sym (made-count l r h)) (omega arith) in
    rw never (h.has.are (suc m * r.step - 1) (mark-index m r.step (length r.marks) h.step_pos lt)
    ∙ ap (λ (n : ℕ). mark_of l.omit l.entries n) (entry-index m r.step l.interval (l.interval ^ suc l.number) h.step_pos h.step))

made-skip : (l : SkipLevel) (r : LevelMarks) (m : ℕ) → IsMade l r → m < data_number l → marked_skip r m ≡ written_skip l m
made-skip l r m h lt =
    ap (λ (p : Bool). skip_between p (marked_after r m) (marked_after r (suc m)) (pointed_after r m)) h.payloads
    ∙ ap (λ (a : Mark). skip_between l.payloads a (marked_after r (suc m)) (pointed_after r m)) (made-mark l r m h (omega arith))
    ∙ ap (λ (b : Mark). skip_between l.payloads (mark_after l m) b (pointed_after r m)) (made-mark l r (suc m) h (omega arith))
    ∙ ap (λ (c : Option ℕ). skip_between l.payloads (mark_after l m) (mark_after l (suc m)) c) (h.children m lt)

made-bytes : (l : SkipLevel) (r : LevelMarks) (m : ℕ) → IsMade l r → m ≤ data_number l → marked_bytes r m ≡ data_bytes l m
made-bytes l r zero h le = marked_bytes-none r ∙ sym (data_bytes-none l)
made-bytes l r (suc m) h le =
    marked_bytes-more r m ∙ ap (λ (b : List ℕ). b ++ datum_bytes (marked_skip r m)) (made-bytes l r m h (omega arith))
    ∙ ap (λ (d : Skip). data_bytes l m ++ datum_bytes d) (made-skip l r m h (omega arith)) ∙ sym (data_bytes-more l m)

-- the places that are handed to the level above are its child pointers
made-child : (l : SkipLevel) (r : LevelMarks) (m : ℕ) → 2 ≤ l.interval → IsMade l r → m < data_number (level_above l) → pointed_after (marked_above r) m ≡ child_after (level_above l) m
unfolding child_pointer
made-child l r m two h lt =
    let s = l.interval in
    let k = suc m * s - 1 in
    let below : m < data_number l / s = subst (λ (n : ℕ). m < n) (above-number l) lt in
    let within : k < data_number l = mark-index m s (data_number l) (omega arith) below in
    let some : 1 * s ≤ suc m * s = mul-le-mul_right s (let one : 1 ≤ suc m = omega arith in one) in
    let next : k + 1 ≡ suc m * s = omega arith in
    let whole : (k + 1) % r.interval ≡ 0 = ap (λ (n : ℕ). (k + 1) % n) h.interval ∙ ap (λ (n : ℕ). n % s) next ∙ mul-mod_left (suc m) s in
    let quotient : k / r.interval ≡ m = ap (λ (n : ℕ). k / n) h.interval ∙ last-quotient m s (omega arith) in
    let count = made-count l r h in
    let here = places_after-at r (marked_count r) k (let i = h.interval in omega arith) (subst (λ (n : ℕ). k < n) (sym count) within) whole in
    let never : eqb (suc r.number) 0 ≡ false = ne_eqb _ _ (λ z. absurd (omega arith)) in
    let place : slice_index (places_after r (marked_count r)) m ≡ place_with l (child_after l) k =
    ap (λ (n : ℕ). slice_index (places_after r (marked_count r)) n) (sym quotient) ∙ here
    ∙ ap (λ (b : List ℕ). length b + length (bytes_to_child (marked_skip r k))) (made-bytes l r k h (omega arith))
    ∙ ap (λ (d : Skip). length (data_bytes l k) + length (bytes_to_child d)) (made-skip l r k h within) in
    rw never (ap (λ (n : ℕ). Some n) place)
  where
    last-quotient : (m s : ℕ) → 0 < s → (suc m * s - 1) / s ≡ m
    last-quotient m s pos =
        let e : suc m * s ≡ m * s + s = omega arith in
        div-eq_of_lt-le s (omega arith) (omega arith)

made-above : (l : SkipLevel) (r : LevelMarks) → 2 ≤ l.interval → IsMade l r → IsMade (level_above l) (marked_above r)
made-above l r two h = record {
  payloads = h.payloads;
  interval = h.interval;
  number = ap (λ (n : ℕ). suc n) h.number;
  step = ap (λ (n : ℕ). r.step * n * l.interval) h.interval ∙ ap (λ (n : ℕ). n * l.interval) h.step ∙ sym (pow-suc l.interval (suc l.number));
  step_pos = let up : 1 * r.interval ≤ r.step * r.interval = mul-le-mul_right r.interval h.step_pos in let i = h.interval in omega arith;
  has = h.has;
  children = λ m lt. made-child l r m two h lt;
}

made-levels : (k : ℕ) (l : SkipLevel) (r : LevelMarks) → 2 ≤ l.interval → IsMade l r → marked_levels k r ≡ skip_bytes k l
made-levels zero l r two h = marked_levels-none r 0 refl ∙ sym (skip_bytes-none l 0 refl)
made-levels (suc k) l r two h =
    marked_levels-next r k (suc k) refl
    ∙ ap (λ (b : List ℕ). b ++ with_level_length r.number (marked_bytes r (marked_count r))) (made-levels k (level_above l) (marked_above r) two (made-above l r two h))
    ∙ ap (λ (n : ℕ). skip_bytes k (level_above l) ++ with_level_length n (marked_bytes r (marked_count r))) h.number
    ∙ ap (λ (n : ℕ). skip_bytes k (level_above l) ++ with_level_length l.number (marked_bytes r n)) (made-count l r h)
    ∙ ap (λ (b : List ℕ). skip_bytes k (level_above l) ++ with_level_length l.number b) (made-bytes l r (data_number l) h (omega arith))
    ∙ sym (skip_bytes-next l k (suc k) refl)

pub levels-made : (k : ℕ) (omit payloads : Bool) (interval : ℕ) (entries : List Handed) (marks : List Mark) → 2 ≤ interval → HasMarks omit interval entries marks → marked_levels k (lowest_marks payloads marks interval) ≡ skip_bytes k (skip_level omit payloads interval entries 0)
unfolding child_pointer
levels-made k omit payloads interval entries marks two has = made-levels k (skip_level omit payloads interval entries 0) (lowest_marks payloads marks interval) two (record {
  payloads = refl;
  interval = refl;
  number = refl;
  step = ap (λ (x : ℕ). x * interval) (sym (pow-zero interval)) ∙ sym (pow-suc interval 0);
  step_pos = omega arith;
  has = has;
  children = λ m lt. refl;
})
