-- One datum more of a level that is written.
use Rattle.std.proofs.Common.{◌≡◌, ◌≢◌, ℕ, zero, suc, add-one, ◌+◌, ◌-◌, ◌*◌, ◌%◌, ◌^◌, ◌<◌, ◌≤◌, eqb, true, false, List, [], ◌∷◌, ◌++◌, length, Option, inl, inr, ◌/◌, refl, sym, ap, subst, ◌∙◌, append_assoc, arith}
use Rattle.std.specs.Prelude.{◌⊎◌, OnOk, Result, Ok, Err, slice_index_or}
use Rattle.std.proofs.lemmas.Bool.{cases_eq, cases_lt, eq-eqb, ne_eqb}
use Rattle.std.proofs.Math.ListN.{get_or-append}
use Rattle.std.proofs.Math.Seq.{get_or-append_seam}
use Rattle.std.proofs.Math.Nat.{zero-div, mul-le-mul_left, mul-le-mul_right, mul_assoc, mul_comm, pow-suc, pow-le-pow_right, div-div-eq-div-mul}
use Rattle.freq_skips.proofs.Powers.{power-pos, quotient-next, quotient-same}
use Rattle.std.proofs.lemmas.List.{length-append}
use Rattle.lu_grammar.specs.Parts.{vlong}
use Rattle.freq_skips.specs.declared.datum.Skip.{Skip}
use Rattle.freq_skips.specs.declared.writer.Mark.{Mark}
use Rattle.freq_skips.specs.Written.{no_mark, optional_bytes, skip_between, bytes_to_child, datum_bytes, with_level_length}
use Rattle.freq_skips.specs.InnerLevels.{LevelMarks, marked_after, pointed_after, marked_skip, marked_bytes, places_after, AreSmallPlaces, marked_above, marked_count, marked_levels}

pub marked_bytes-none : (r : LevelMarks) → marked_bytes r 0 ≡ []
unfolding marked_bytes
marked_bytes-none r = refl

pub places_after-none : (r : LevelMarks) → places_after r 0 ≡ []
unfolding places_after
places_after-none r = refl

pub marked_bytes-next : (r : LevelMarks) (m : ℕ) (before after : List ℕ) (d : Skip) → before ≡ marked_bytes r m → d ≡ marked_skip r m → after ≡ before ++ bytes_to_child d ++ optional_bytes vlong d.child → after ≡ marked_bytes r (m + 1)
unfolding marked_bytes
marked_bytes-next r m before after d is same e =
    e ∙ append_assoc before (bytes_to_child d) (optional_bytes vlong d.child) ∙ ap (λ (s : Skip). before ++ datum_bytes s) same ∙ ap (λ (b : List ℕ). b ++ datum_bytes (marked_skip r m)) is ∙ ap (marked_bytes r) (sym (add-one m))

pub places_after-next : (r : LevelMarks) (m : ℕ) (bytes before after : List ℕ) (d : Skip) (place : ℕ) → bytes ≡ marked_bytes r m → before ≡ places_after r m → d ≡ marked_skip r m → (m + 1) % r.interval ≡ 0
    → place ≡ length (bytes ++ bytes_to_child d) → after ≡ before ++ place ∷ [] → after ≡ places_after r (m + 1)
unfolding places_after
places_after-next r m bytes before after d place is pointed same e at f =
    let test : eqb (suc m % r.interval) 0 ≡ true = eq-eqb _ _ (ap (λ (n : ℕ). n % r.interval) (sym (add-one m)) ∙ e) in
    let here : place ≡ length (marked_bytes r m) + length (bytes_to_child (marked_skip r m)) =
    at ∙ length-append bytes (bytes_to_child d) ∙ ap (λ (b : List ℕ). length b + length (bytes_to_child d)) is ∙ ap (λ (s : Skip). length (marked_bytes r m) + length (bytes_to_child s)) same in
    let step : after ≡ places_after r (suc m) = rw test (f ∙ ap (λ (b : List ℕ). b ++ place ∷ []) pointed ∙ ap (λ (n : ℕ). places_after r m ++ n ∷ []) here) in
    step ∙ ap (places_after r) (sym (add-one m))

pub places_after-same : (r : LevelMarks) (m : ℕ) (before : List ℕ) → before ≡ places_after r m → (m + 1) % r.interval ≢ 0 → before ≡ places_after r (m + 1)
unfolding places_after
places_after-same r m before pointed ne =
    let test : eqb (suc m % r.interval) 0 ≡ false = ne_eqb _ _ (λ e. ne (ap (λ (n : ℕ). n % r.interval) (add-one m) ∙ e)) in
    let step : before ≡ places_after r (suc m) = rw test pointed in
    step ∙ ap (places_after r) (sym (add-one m))

-- the datum that follows so many, by its parts
pub marked_skip-is : (r : LevelMarks) (m : ℕ) (d : Skip) (from to : Mark) (child : Option ℕ) → d ≡ skip_between r.payloads from to child → from ≡ marked_after r m → to ≡ marked_after r (m + 1) → child ≡ pointed_after r m → d ≡ marked_skip r m
marked_skip-is r m d from to child is a b c =
    is ∙ ap (λ (x : Mark). skip_between r.payloads x to child) a ∙ ap (λ (x : Mark). skip_between r.payloads (marked_after r m) x child) (b ∙ ap (marked_after r) (add-one m))
    ∙ ap (λ (x : Option ℕ). skip_between r.payloads (marked_after r m) (marked_after r (suc m)) x) c

-- one place more is small
pub AreSmallPlaces-none : AreSmallPlaces []
AreSmallPlaces-none k = omega arith

pub AreSmallPlaces-more : (places : List ℕ) (place : ℕ) → AreSmallPlaces places → place < 2 ^ 63 → AreSmallPlaces (places ++ place ∷ [])
AreSmallPlaces-more [] place h lt zero = lt
AreSmallPlaces-more [] place h lt (suc k) = omega arith
AreSmallPlaces-more (p ∷ ps) place h lt zero = h 0
AreSmallPlaces-more (p ∷ ps) place h lt (suc k) = AreSmallPlaces-more ps place (λ i. h (suc i)) lt k

-- one place for every so many data
pub places_after-length : (r : LevelMarks) (m : ℕ) → 0 < r.interval → length (places_after r m) ≡ m / r.interval
unfolding places_after
places_after-length r zero pos = sym (zero-div r.interval)
places_after-length r (suc m) pos = elim (cases_eq ((m + 1) % r.interval) 0) [
  | inl e ↦
      let test : eqb (suc m % r.interval) 0 ≡ true = eq-eqb _ _ (ap (λ (n : ℕ). n % r.interval) (sym (add-one m)) ∙ e) in
      let place = length (marked_bytes r m) + length (bytes_to_child (marked_skip r m)) in
      rw test (omega (arith, length-append (places_after r m) (place ∷ []), places_after-length r m pos, quotient-next m r.interval pos e))
  | inr ne ↦
      let test : eqb (suc m % r.interval) 0 ≡ false = ne_eqb _ _ (λ e. ne (ap (λ (n : ℕ). n % r.interval) (add-one m) ∙ e)) in
      rw test (places_after-length r m pos ∙ sym (quotient-same m r.interval pos ne))
]

-- the levels from this one on
pub marked_levels-none : (r : LevelMarks) (k : ℕ) → k ≡ 0 → marked_levels k r ≡ []
unfolding marked_levels
marked_levels-none r zero e = refl
marked_levels-none r (suc k) e = cc

pub marked_levels-next : (r : LevelMarks) (k n : ℕ) → n ≡ suc k → marked_levels n r ≡ marked_levels k (marked_above r) ++ with_level_length r.number (marked_bytes r (marked_count r))
unfolding marked_levels
marked_levels-next r k n e = ap (λ (m : ℕ). marked_levels m r) e

-- what follows where a call succeeded
pub OnOk-then : {A E : Type 0} {P Q : Type 0} (r : Result A E) → OnOk r P → (P → Q) → OnOk r Q
OnOk-then (Ok x) p f = f p
OnOk-then (Err e) p f = tt

-- the steps of the levels fit
pub step-fits : (step interval k : ℕ) → 2 ≤ interval → interval < 2 ^ 32 → step * interval ^ k ≤ 2 ^ 32 → step * interval < 2 ^ 64
step-fits step interval k two small le =
    let one = power-pos interval k two in
    let up : step * 1 ≤ step * interval ^ k = mul-le-mul_left step one in
    let low : step ≤ 2 ^ 32 = omega arith in
    let product : step * interval ≤ 2 ^ 32 * interval = mul-le-mul_right interval low in
    omega arith

pub step-next : (step interval left : ℕ) → 0 < left → step * interval ^ (left - 1) ≤ 2 ^ 32 → (left - 1 ≡ 0) ⊎ (step * interval * interval ^ (left - 1 - 1) ≤ 2 ^ 32)
step-next step interval left pos le = elim (cases_eq (left - 1) 0) [
  | inl e ↦ inl e
  | inr ne ↦
      let k = left - 1 - 1 in
      let is : left - 1 ≡ suc k = omega arith in
      let same : step * interval * interval ^ k ≡ step * interval ^ (left - 1) =
      mul_assoc step interval (interval ^ k) ∙ ap (λ (x : ℕ). step * x) (mul_comm interval (interval ^ k) ∙ sym (pow-suc interval k) ∙ ap (λ (m : ℕ). interval ^ m) (sym is)) in
      inr (subst (λ (x : ℕ). x ≤ 2 ^ 32) (sym same) le)
]

pub step-pos : (step interval : ℕ) → 0 < step → 2 ≤ interval → 0 < step * interval
step-pos step interval pos two = let up : step * 1 ≤ step * interval = mul-le-mul_left step (let one : 1 ≤ interval = omega arith in one) in omega arith

-- there is a place for each datum of the level above
pub places-enough : (r : LevelMarks) (places : List ℕ) → 2 ≤ r.interval → places ≡ places_after r (marked_count r) → length r.marks / (r.step * r.interval) ≤ length places
places-enough r places two is =
    let count = ap length is ∙ places_after-length r (marked_count r) (omega arith) in
    omega (arith, count, div-div-eq-div-mul (length r.marks) r.step r.interval)

-- the steps of all levels of a term
pub steps-start : (interval left power number : ℕ) → 2 ≤ interval → power ≡ interval ^ left → (left ≡ 0) ⊎ (power ≤ number) → number < 2 ^ 32 → (left ≡ 0) ⊎ (1 * interval ^ (left - 1) ≤ 2 ^ 32)
steps-start interval left power number two is (inl e) small = inl e
steps-start interval left power number two is (inr le) small =
    let less : interval ^ (left - 1) ≤ interval ^ left = pow-le-pow_right (omega arith) (omega arith) in
    inr (omega arith)

-- one mark more, where one is due
pub marks-due : (count interval marks more : ℕ) → 2 ≤ interval → marks ≡ count / interval → (count + 1) % interval ≡ 0 → more ≡ marks + 1 → more ≡ (count + 1) / interval
marks-due count interval marks more two is e next = omega (arith, quotient-next count interval (omega arith) e, ap (λ (n : ℕ). n / interval) (add-one count))

pub marks-same : (count interval marks : ℕ) → 2 ≤ interval → marks ≡ count / interval → (count + 1) % interval ≢ 0 → marks ≡ (count + 1) / interval
marks-same count interval marks two is ne = is ∙ sym (quotient-same count interval (omega arith) ne) ∙ ap (λ (n : ℕ). n / interval) (sym (add-one count))

-- the marks lead to documents and places within
abbrev pub AreWithin : List Mark → ℕ → Type 0
AreWithin marks size = (k : ℕ) → k < length marks → ((slice_index_or marks k no_mark).doc < 2 ^ 31) × ((slice_index_or marks k no_mark).freq ≤ size)

pub AreWithin-more : (marks : List Mark) (size more : ℕ) (m : Mark) → AreWithin marks size → size ≤ more → m.doc < 2 ^ 31 → m.freq ≤ more → AreWithin (marks ++ m ∷ []) more
AreWithin-more marks size more m h le doc freq k lt = elim (cases_lt k (length marks)) [
  | inl low ↦ let old = h k low in rw (get_or-append marks (m ∷ []) no_mark k low) (old.0, omega (arith, old.1))
  | inr ge ↦
      let is : k ≡ length marks = omega (arith, length-append marks (m ∷ [])) in
      rw (is, get_or-append_seam marks m [] no_mark) (doc, freq)
]

pub AreWithin-same : (marks : List Mark) (size more : ℕ) → AreWithin marks size → size ≤ more → AreWithin marks more
AreWithin-same marks size more h le k lt = let old = h k lt in (old.0, omega (arith, old.1))

-- as many entries as documents up to the last, at most
pub order-more : (count doc n d next : ℕ) → (count ≡ 0) ⊎ (doc < next) → n ≡ count → d ≡ doc → n ≤ d + 1 → n + 1 ≤ next + 1
order-more count doc n d next (inl e) a b le = omega arith
order-more count doc n d next (inr lt) a b le = omega arith

pub marked_bytes-more : (r : LevelMarks) (m : ℕ) → marked_bytes r (suc m) ≡ marked_bytes r m ++ datum_bytes (marked_skip r m)
unfolding marked_bytes
marked_bytes-more r m = refl
