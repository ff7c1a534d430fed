-- Skip data that were written are good.
use Rattle.std.proofs.Common.{◌≡◌, ℕ, zero, suc, add-one, ◌+◌, ◌-◌, ◌*◌, ◌^◌, ◌<◌, ◌≤◌, true≢false, Bool, true, false, not, List, [], ◌∷◌, ◌++◌, length, Option, Some, None, refl, sym, ap, subst, ◌∙◌, append_assoc, arith}
use Rattle.std.specs.Prelude.{◌==◌, ◌&&◌, if◌then◌else◌, nat_lt}
use Rattle.std.proofs.lemmas.Bool.{eqb-true}
use Rattle.std.proofs.lemmas.List.{length-append, append-nil}
use Rattle.lu_grammar.specs.Parts.{Part, Value, vint, num, vlong, spelling}
use Rattle.lu_grammar.specs.Records.{whole, part, optional, Spells, first_broken}
use Rattle.lu_grammar.specs.Plans.{one, times}
use Rattle.lu_grammar.proofs.Writers.{Writes, Writes-none, Writes-record}
use Rattle.freq_skips.specs.declared.rules.RuledTerm.{RuledTerm}
use Rattle.freq_skips.specs.declared.datum.Point.{Point}
use Rattle.freq_skips.specs.declared.datum.Skip.{Skip}
use Rattle.freq_skips.specs.declared.writer.Mark.{Mark}
use Rattle.freq_skips.specs.Records.{datum, alone, states_payload, datum_shape, length_to_child, datum_length, optional_length}
use Rattle.freq_skips.specs.Entries.{Posting}
use Rattle.freq_skips.specs.Levels.{Along, no_datum, no_point, Level, level_of, level_start, wanted, child_above, length_at, is_first_datum, differs, skipped, number_or, datum_conditions, point_of, with_point, datum_kind, posting_at}
use Rattle.freq_skips.specs.Written.{optional_bytes, bytes_to_child, datum_bytes, SkipLevel, mark_after, child_after, written_skip, data_bytes, data_with, data_number}
use Rattle.freq_skips.proofs.LevelLemmas.{level_start-push}
use Rattle.freq_skips.proofs.WrittenEntries.{Stated, Spells-optional, not-same, and-false, even, half-even}

-- no datum, and one datum more
pub data_bytes-none : (r : SkipLevel) → data_bytes r 0 ≡ []
unfolding data_with
data_bytes-none r = refl

pub data_bytes-more : (r : SkipLevel) (m : ℕ) → data_bytes r (suc m) ≡ data_bytes r m ++ datum_bytes (written_skip r m)
unfolding data_with
data_bytes-more r m = refl

-- how many bytes a datum takes
pub bytes_to_child-length : (d : Skip) → length (bytes_to_child d) ≡ length_to_child d
bytes_to_child-length d =
    omega (
      arith,
      length-append (spelling vint d.doc ++ optional_bytes num d.payload ++ spelling num d.freq) (spelling num d.prox),
      length-append (spelling vint d.doc ++ optional_bytes num d.payload) (spelling num d.freq),
      length-append (spelling vint d.doc) (optional_bytes num d.payload),
      optional-length num d.payload,
    )
  where
    optional-length : (p : Part) (o : Option (Value p)) → length (optional_bytes p o) ≡ optional_length p o
    optional-length p None = refl
    optional-length p (Some v) = refl

pub datum_bytes-length : (d : Skip) → length (datum_bytes d) ≡ datum_length d
datum_bytes-length d = omega (arith, length-append (bytes_to_child d) (optional_bytes vlong d.child), bytes_to_child-length d, optional-length d.child)
  where
    optional-length : (o : Option ℕ) → length (optional_bytes vlong o) ≡ optional_length vlong o
    optional-length None = refl
    optional-length (Some v) = refl

-- the numbers of a datum can be told
pub record IsTold (t : RuledTerm) (level : ℕ) (d : Skip) : Type 0 where
  pub doc : d.doc < 2 ^ 32
  pub payload : Stated num (states_payload t d.doc) d.payload
  pub freq : d.freq < 2 ^ 31
  pub prox : d.prox < 2 ^ 31
  pub child : Stated vlong (nat_lt 0 level) d.child

abbrev made : ℕ → Option ℕ → ℕ → ℕ → Option ℕ → Skip
made doc payload freq prox child = record { doc = doc; payload = payload; freq = freq; prox = prox; child = child }

pub Spells-datum : (t : RuledTerm) (level : ℕ) (d : Skip) → IsTold t level d → Spells (datum_shape t level) (datum d) (datum_bytes d)
Spells-datum t level d told =
    let last = optional_bytes vlong d.child ++ [] in
    let nested : spelling vint d.doc ++ (optional_bytes num d.payload ++ (spelling num d.freq ++ (spelling num d.prox ++ last))) ≡ datum_bytes d = simp (append_assoc, append-nil) in
    subst (λ (b : List ℕ). Spells (datum_shape t level) (datum d) b) nested (
      d.doc,
      optional_bytes num d.payload ++ (spelling num d.freq ++ (spelling num d.prox ++ last)),
      told.doc,
      refl,
      Spells-optional num (states_payload t d.doc) d.payload (λ payload. part num (λ freq. part num (λ prox. optional (nat_lt 0 level) (alone vlong) (λ child. whole (datum (made d.doc payload freq prox child)))))) (datum d) _ told.payload (
        d.freq,
        spelling num d.prox ++ last,
        told.freq,
        refl,
        (
          d.prox,
          last,
          told.prox,
          refl,
          Spells-optional vlong (nat_lt 0 level) d.child (λ child. whole (datum (made d.doc d.payload d.freq d.prox child))) (datum d) [] told.child (refl, refl),
        ),
      ),
    )

-- ---- the data of a level

-- one mark is not before another
abbrev pub IsUpTo : Mark → Mark → Type 0
IsUpTo a b = (a.doc ≤ b.doc) × (a.freq ≤ b.freq) × (a.prox ≤ b.prox)

-- a level that is written leads to the entries, and the level above leads to it
pub record Rises (t : RuledTerm) (ps : List Posting) (r : SkipLevel) (above : List (List Point)) (stated : Option ℕ) (base : ℕ) : Type 0 where
  pub payloads : r.payloads ≡ t.rules.payloads
  pub up : (m : ℕ) → m < data_number r → IsUpTo (mark_after r m) (mark_after r (suc m))
  pub doc : (m : ℕ) → m < data_number r → (mark_after r (suc m)).doc ≡ (posting_at t r.number ps (suc m)).before
  pub freq : (m : ℕ) → m < data_number r → (mark_after r (suc m)).freq ≡ (posting_at t r.number ps (suc m)).place - t.info.freq
  pub omit : (m : ℕ) → m < data_number r → t.rules.omit_tf ≡ true → (mark_after r (suc m)).prox ≡ 0
  pub small : (m : ℕ) → m < data_number r → ((mark_after r (suc m)).doc < 2 ^ 31) × ((mark_after r (suc m)).freq < 2 ^ 31) × ((mark_after r (suc m)).prox < 2 ^ 31)
  pub child : (m : ℕ) → m < data_number r → differs (child_above t above (suc m)) (length (data_bytes r m) + length (bytes_to_child (written_skip r m))) ≡ false
  pub size : (m : ℕ) → m < data_number r → differs (length_at t (level_of r.number stated above) (suc m)) (length (data_bytes r (suc m))) ≡ false
  pub first : is_first_datum (level_of r.number stated above) 1 ≡ true → base ≡ t.info.freq + t.info.skip
  pub child_small : (m : ℕ) → m < data_number r → Stated vlong (nat_lt 0 r.number) (child_after r m)

-- where the datum leads that follows so many
abbrev pub written_point : SkipLevel → ℕ → ℕ → Point
written_point r base m = record { doc = (mark_after r (suc m)).doc; freq = (mark_after r (suc m)).freq; prox = (mark_after r (suc m)).prox; payload = 0; child = number_or 0 (child_after r m); place = base + length (data_bytes r m) }

abbrev pub written_points : SkipLevel → ℕ → ℕ → List Point
written_points r base zero = []
written_points r base (suc m) = written_points r base m ++ written_point r base m ∷ []

abbrev pub last_point : SkipLevel → ℕ → ℕ → Point
last_point r base zero = no_point
last_point r base (suc m) = written_point r base m

abbrev pub written_along : SkipLevel → ℕ → ℕ → Along
written_along r base m = record { last = last_point r base m; points = written_points r base m }

pub written_points-length : (r : SkipLevel) (base m : ℕ) → length (written_points r base m) ≡ m
written_points-length r base zero = refl
written_points-length r base (suc m) = omega (arith, length-append (written_points r base m) (written_point r base m ∷ []), written_points-length r base m)

points-begin : (r : SkipLevel) (base m : ℕ) → level_start (written_points r base m) (base + length (data_bytes r m)) ≡ base
points-begin r base zero = omega (arith, ap length (data_bytes-none r))
points-begin r base (suc m) = level_start-push (written_points r base m) (written_point r base m) (base + length (data_bytes r (suc m))) ∙ points-begin r base m

-- the sums so far
last-is : (r : SkipLevel) (base m : ℕ) → ((last_point r base m).doc ≡ (mark_after r m).doc) × ((last_point r base m).freq ≡ (mark_after r m).freq) × ((last_point r base m).prox ≡ (mark_after r m).prox) × ((last_point r base m).payload ≡ 0)
last-is r base zero = (refl, refl, refl, refl)
last-is r base (suc m) = (refl, refl, refl, refl)

skipped-is : (t : RuledTerm) (payloads : Bool) (n : ℕ) → payloads ≡ t.rules.payloads → skipped t (if payloads then 2 * n else n) ≡ n
skipped-is t true n e = rw (sym e) (half-even n)
skipped-is t false n e = rw (sym e) refl

and-true : (a b : Bool) → (a && b) ≡ true → (a ≡ true) × (b ≡ true)
and-true true true e = (refl, refl)
and-true true false e = absurd (true≢false (sym e))
and-true false b e = absurd (true≢false (sym e))

first-one : (t : RuledTerm) (l : Level) (m : ℕ) → is_first_datum l (suc m) ≡ true → (m ≡ 0) × (is_first_datum l 1 ≡ true)
first-one t l m e =
    let both = and-true (l.number == 0 && length l.above == 0) (suc m == 1) e in
    let is = eqb-true (suc m) 1 both.1 in
    (omega arith, ap (λ (k : ℕ). is_first_datum l k) (sym is) ∙ e)

none_of_six : (b0 b1 b2 b3 b4 b5 : Bool) (r0 r1 r2 r3 r4 r5 : ℕ) → b0 ≡ false → b1 ≡ false → b2 ≡ false → b3 ≡ false → b4 ≡ false → b5 ≡ false
    → first_broken ((record { rule = r0; broken = b0 }) ∷ (record { rule = r1; broken = b1 }) ∷ (record { rule = r2; broken = b2 }) ∷ (record { rule = r3; broken = b3 }) ∷ (record { rule = r4; broken = b4 }) ∷ (record { rule = r5; broken = b5 }) ∷ []) ≡ None
none_of_six b0 b1 b2 b3 b4 b5 r0 r1 r2 r3 r4 r5 e0 e1 e2 e3 e4 e5 = rw (e0, e1, e2, e3, e4, e5) refl

data_bytes-size : (r : SkipLevel) (m : ℕ) → length (data_bytes r (suc m)) ≡ length (data_bytes r m) + length (datum_bytes (written_skip r m))
data_bytes-size r m = ap length (data_bytes-more r m) ∙ length-append (data_bytes r m) (datum_bytes (written_skip r m))

-- the conditions on a datum that is written
datum-kept : (t : RuledTerm) (ps : List Posting) (r : SkipLevel) (above : List (List Point)) (stated : Option ℕ) (base m : ℕ) → Rises t ps r above stated base → m < data_number r
    → first_broken (datum_conditions t (wanted t ps (level_of r.number stated above) (suc m)) base (last_point r base m) (base + length (data_bytes r m)) (datum (written_skip r m))) ≡ None
datum-kept t ps r above stated base m h lt =
    let l = level_of r.number stated above in
    let d = written_skip r m in
    let place = base + length (data_bytes r m) in
    let w = wanted t ps l (suc m) in
    let last = last-is r base m in
    let up = h.up m lt in
    let a = mark_after r m in
    let b = mark_after r (suc m) in
    let skip = skipped-is t r.payloads (b.doc - a.doc) h.payloads in
    none_of_six _ _ _ _ _ _ _ _ _ _ _ _
    (and-false w.first (not (place == t.info.freq + t.info.skip)) (λ e.
    let one = first-one t l m e in
    let none : length (data_bytes r m) ≡ 0 = ap (λ (k : ℕ). length (data_bytes r k)) one.0 ∙ ap length (data_bytes-none r) in
    not-same place _ (omega (arith, none, h.first one.1))))
    (not-same _ w.doc (omega (arith, last.0, skip, up.0, h.doc m lt)))
    (not-same _ w.freq (omega (arith, last.1, up.1, h.freq m lt)))
    (and-false t.rules.omit_tf (not (d.prox == 0)) (λ e. not-same d.prox 0 (omega (arith, h.omit m lt e))))
    (ap (λ (n : ℕ). differs w.child n) (omega (arith, bytes_to_child-length d)) ∙ h.child m lt)
    (ap (λ (n : ℕ). differs w.size n) (omega (arith, datum_bytes-length d, data_bytes-size r m)) ∙ h.size m lt)

-- the numbers of a datum that is written can be told
skip-told : (t : RuledTerm) (ps : List Posting) (r : SkipLevel) (above : List (List Point)) (stated : Option ℕ) (base m : ℕ) → Rises t ps r above stated base → m < data_number r → IsTold t r.number (written_skip r m)
skip-told t ps r above stated base m h lt =
    let a = mark_after r m in
    let b = mark_after r (suc m) in
    let small = h.small m lt in
    record {
      doc = doubled r.payloads (b.doc - a.doc) (omega (arith, small.0));
      payload = even-told t r.payloads (b.doc - a.doc) h.payloads;
      freq = omega (arith, small.1);
      prox = omega (arith, small.2);
      child = h.child_small m lt;
    }
  where
    doubled : (p : Bool) (n : ℕ) → n < 2 ^ 31 → (if p then 2 * n else n) < 2 ^ 32
    doubled true n lt = omega arith
    doubled false n lt = omega arith

    even-told : (t : RuledTerm) (p : Bool) (n : ℕ) → p ≡ t.rules.payloads → Stated num (states_payload t (if p then 2 * n else n)) None
    even-told t true n e = let test : states_payload t (2 * n) ≡ false = rw (sym e, even n) refl in rw test tt
    even-told t false n e = let test : states_payload t n ≡ false = rw (sym e) refl in rw test tt

abbrev made_point : ℕ → ℕ → ℕ → ℕ → ℕ → ℕ → Point
made_point doc freq prox payload child place = record { doc = doc; freq = freq; prox = prox; payload = payload; child = child; place = place }

-- where it leads
point-is-written : (t : RuledTerm) (ps : List Posting) (r : SkipLevel) (above : List (List Point)) (stated : Option ℕ) (base m : ℕ) → Rises t ps r above stated base → m < data_number r
    → point_of t (last_point r base m) (base + length (data_bytes r m)) (datum (written_skip r m)) ≡ written_point r base m
point-is-written t ps r above stated base m h lt =
    let last = last-is r base m in
    let up = h.up m lt in
    let a = mark_after r m in
    let b = mark_after r (suc m) in
    let p = last_point r base m in
    let d = written_skip r m in
    let place = base + length (data_bytes r m) in
    let child = number_or 0 (child_after r m) in
    let skip = skipped-is t r.payloads (b.doc - a.doc) h.payloads in
    let doc : p.doc + skipped t d.doc ≡ b.doc = omega (arith, last.0, skip, up.0) in
    let freq : p.freq + d.freq ≡ b.freq = omega (arith, last.1, up.1) in
    let prox : p.prox + d.prox ≡ b.prox = omega (arith, last.2, up.2) in
    ap (λ (x : ℕ). made_point x (p.freq + d.freq) (p.prox + d.prox) p.payload child place) doc ∙ ap (λ (x : ℕ). made_point b.doc x (p.prox + d.prox) p.payload child place) freq
    ∙ ap (λ (x : ℕ). made_point b.doc b.freq x p.payload child place) prox ∙ ap (λ (x : ℕ). made_point b.doc b.freq b.prox x child place) last.3

-- so many data are written
pub Writes-data : (t : RuledTerm) (ps : List Posting) (r : SkipLevel) (above : List (List Point)) (stated : Option ℕ) (base m : ℕ) → Rises t ps r above stated base → m ≤ data_number r
    → Writes (times (datum_kind t ps (level_of r.number stated above)) m no_datum) base (data_bytes r m) (written_along r base m)
Writes-data t ps r above stated base zero h le =
    subst (λ (b : List ℕ). Writes (times (datum_kind t ps (level_of r.number stated above)) 0 no_datum) base b no_datum) (sym (data_bytes-none r)) (Writes-none (one (datum_kind t ps (level_of r.number stated above))) base no_datum)
Writes-data t ps r above stated base (suc m) h le =
    let l = level_of r.number stated above in
    let kind = datum_kind t ps l in
    let lt : m < data_number r = omega arith in
    let d = written_skip r m in
    let place = base + length (data_bytes r m) in
    let s = written_along r base m in
    let kept = ap (λ (n : ℕ). first_broken (datum_conditions t (wanted t ps l (suc n)) (level_start s.points place) s.last place (datum d))) (written_points-length r base m)
    ∙ ap (λ (n : ℕ). first_broken (datum_conditions t (wanted t ps l (suc m)) n s.last place (datum d))) (points-begin r base m)
    ∙ datum-kept t ps r above stated base m h lt in
    let more = Writes-record kind no_datum base m (data_bytes r m) s (datum d) (datum_bytes d) (Writes-data t ps r above stated base m h (omega arith)) (Spells-datum t r.number d (skip-told t ps r above stated base m h lt)) kept in
    let after : with_point s (point_of t s.last place (datum d)) ≡ written_along r base (suc m) = ap (λ (p : Point). with_point s p) (point-is-written t ps r above stated base m h lt) in
    subst (λ (n : ℕ). Writes (times kind n no_datum) base (data_bytes r (suc m)) (written_along r base (suc m))) (add-one m)
    (subst (λ (b : List ℕ). Writes (times kind (m + 1) no_datum) base b (written_along r base (suc m))) (sym (data_bytes-more r m))
    (subst (λ (w : Along). Writes (times kind (m + 1) no_datum) base (data_bytes r m ++ datum_bytes d) w) after more))
