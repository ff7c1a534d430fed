-- Entries that were written are good.
use Rattle.std.proofs.Common.{◌≡◌, ℕ, suc, ◌+◌, ◌-◌, ◌*◌, ◌/◌, ◌%◌, ◌^◌, ◌<◌, ◌≤◌, eqb, true≢false, Bool, true, false, not, List, [], ◌∷◌, ◌++◌, length, Option, Some, None, inl, inr, refl, sym, ap, subst, ◌∙◌, append_assoc, arith}
use Rattle.std.specs.Prelude.{◌==◌, ◌&&◌, if◌then◌else◌, nat_le, nat_lt}
use Rattle.std.proofs.lemmas.Bool.{cases_eq, eq-eqb, ne_eqb}
use Rattle.std.proofs.lemmas.Bool.Decides.{nat_tests}
use Rattle.std.proofs.lemmas.List.{length-append, append-nil}
use Rattle.lu_grammar.specs.Parts.{Part, Value, IsValue, num}
use Rattle.lu_grammar.specs.Records.{Shape, whole, optional, Spells, first_broken}
use Rattle.lu_grammar.specs.Plans.{done, one, each, times}
use Rattle.lu_grammar.proofs.Writers.{Writes, Writes-due, Writes-done, Writes-and_then}
use Rattle.freq_skips.specs.declared.rules.RuledTerm.{RuledTerm}
use Rattle.freq_skips.specs.Records.{Record, entry, alone, entry_shape, states_frequency}
use Rattle.freq_skips.specs.Entries.{Posting, EntriesSoFar, with_posting, posting_of, entry_conditions, entry_kind, gap, stated_or_one, is_low}
use Rattle.freq_skips.specs.Written.{Handed, optional_bytes, canonical_parts, entry_parts_bytes, entry_bytes, entries_bytes, last_doc, written_postings, AreInOrder}

-- the value stands exactly where the test holds, and is one of the part
abbrev pub Stated : (p : Part) → Bool → Option (Value p) → Type 0
Stated p true None = ⊥
Stated p true (Some v) = IsValue p v
Stated p false None = Unit {0}
Stated p false (Some v) = ⊥

pub Spells-optional : {R : Type 0} (p : Part) (test : Bool) (o : Option (Value p)) (next : Option (Value p) → Shape R) (r : R) (rest : List ℕ) → Stated p test o → Spells (next o) r rest → Spells (optional test (alone p) next) r (optional_bytes p o ++ rest)
Spells-optional p true None next r rest h spells = absurd h
Spells-optional p true (Some v) next r rest h spells = (v, rest, h, refl, spells)
Spells-optional p false None next r rest h spells = spells
Spells-optional p false (Some v) next r rest h spells = absurd h

-- the delta and the stated frequency of an entry, one above another
pub record IsCanonical (t : RuledTerm) (distance freq : ℕ) (x : ℕ × Option ℕ) : Type 0 where
  pub delta_fits : x.0 < 2 ^ 32
  pub leads : gap t x.0 ≡ distance
  pub states : Stated num (states_frequency t x.0) x.1
  pub high : is_low x.1 ≡ false
  pub tells : stated_or_one x.1 ≡ (if t.rules.omit_tf then 1 else freq)

pub even : (n : ℕ) → 2 * n % 2 ≡ 0
even n = omega arith

odd : (n : ℕ) → (2 * n + 1) % 2 ≡ 1
odd n = omega arith

pub half-even : (n : ℕ) → 2 * n / 2 ≡ n
half-even n = omega arith

half-odd : (n : ℕ) → (2 * n + 1) / 2 ≡ n
half-odd n = omega arith

canonical-omitted : (t : RuledTerm) (distance freq : ℕ) → t.rules.omit_tf ≡ true → distance < 2 ^ 31 → IsCanonical t distance freq (distance, None)
canonical-omitted t distance freq e small = record { delta_fits = omega arith; leads = rw e refl; states = rw e tt; high = refl; tells = rw e refl }

canonical-one : (t : RuledTerm) (distance freq : ℕ) → t.rules.omit_tf ≡ false → freq ≡ 1 → distance < 2 ^ 31 → IsCanonical t distance freq (2 * distance + 1, None)
canonical-one t distance freq e is small =
    let test : states_frequency t (2 * distance + 1) ≡ false = rw (e, odd distance) refl in
    record { delta_fits = omega arith; leads = rw e (half-odd distance); states = rw test tt; high = refl; tells = rw (e, is) refl }

canonical-many : (t : RuledTerm) (distance freq : ℕ) → t.rules.omit_tf ≡ false → 2 ≤ freq → freq < 2 ^ 31 → distance < 2 ^ 31 → IsCanonical t distance freq (2 * distance, Some freq)
canonical-many t distance freq e two few small =
    let test : states_frequency t (2 * distance) ≡ true = rw (e, even distance) refl in
    let low : nat_lt freq 2 ≡ false = grind (arith, nat_tests) in
    record { delta_fits = omega arith; leads = rw e (half-even distance); states = rw test few; high = low; tells = rw e refl }

pub IsCanonical-parts : (t : RuledTerm) (distance freq : ℕ) → distance < 2 ^ 31 → 1 ≤ freq → freq < 2 ^ 31 → IsCanonical t distance freq (canonical_parts t.rules.omit_tf distance freq)
IsCanonical-parts t distance freq small some few = go t.rules.omit_tf refl
  where
    go : (omit : Bool) → t.rules.omit_tf ≡ omit → IsCanonical t distance freq (canonical_parts omit distance freq)
    go true e = canonical-omitted t distance freq e small
    go false e = elim (cases_eq freq 1) [
      | inl is ↦ let test : eqb freq 1 ≡ true = eq-eqb freq 1 is in rw test (canonical-one t distance freq e is small)
      | inr ne ↦ let test : eqb freq 1 ≡ false = ne_eqb freq 1 ne in rw test (canonical-many t distance freq e (omega arith) few small)
    ]

-- the spelling of an entry
Spells-entry : (t : RuledTerm) (distance freq : ℕ) (x : ℕ × Option ℕ) → IsCanonical t distance freq x → Spells (entry_shape t) (entry x.0 x.1) (entry_parts_bytes x.0 x.1)
Spells-entry t distance freq x h = (
  x.0,
  optional_bytes num x.1,
  h.delta_fits,
  refl,
  subst (λ (b : List ℕ). Spells (optional (states_frequency t x.0) (alone num) (λ stated. whole (entry x.0 stated))) (entry x.0 x.1) b) (append-nil (optional_bytes num x.1))
      (Spells-optional num (states_frequency t x.0) x.1 (λ stated. whole (entry x.0 stated)) (entry x.0 x.1) [] h.states (refl, refl)),
)

-- no condition is broken by it
none_of : (b0 b1 b2 b3 : Bool) (r0 r1 r2 r3 : ℕ) → b0 ≡ false → b1 ≡ false → b2 ≡ false → b3 ≡ false
    → first_broken ((record { rule = r0; broken = b0 }) ∷ (record { rule = r1; broken = b1 }) ∷ (record { rule = r2; broken = b2 }) ∷ (record { rule = r3; broken = b3 }) ∷ []) ≡ None
none_of b0 b1 b2 b3 r0 r1 r2 r3 e0 e1 e2 e3 = rw (e0, e1, e2, e3) refl

pub and-false : (a b : Bool) → (a ≡ true → b ≡ false) → (a && b) ≡ false
and-false true b h = h refl
and-false false b h = refl

pub not-same : (m n : ℕ) → m ≡ n → not (m == n) ≡ false
not-same m n e = rw (eq-eqb m n e) refl

entry-kept : (t : RuledTerm) (first : Bool) (last place : ℕ) (h : Handed) (x : ℕ × Option ℕ) → IsCanonical t (h.doc - last) h.freq x → (first ≡ true → place ≡ t.info.freq) → last + (if first then 0 else 1) ≤ h.doc → h.doc < t.rules.documents
    → first_broken (entry_conditions t first last place (entry x.0 x.1)) ≡ None
entry-kept t first last place h x c at order below =
    none_of _ _ _ _ _ _ _ _
    (and-false first (not (place == t.info.freq)) (λ e. not-same place t.info.freq (at e)))
    (later first order)
    (let is = c.leads in let up : last ≤ h.doc = up_to first order in let e : nat_le t.rules.documents (last + gap t x.0) ≡ false = grind (arith, nat_tests) in e)
    c.high
  where
    up_to : (b : Bool) → last + (if b then 0 else 1) ≤ h.doc → last ≤ h.doc
    up_to true o = omega arith
    up_to false o = omega arith

    later : (b : Bool) → last + (if b then 0 else 1) ≤ h.doc → (not b && (gap t x.0 == 0)) ≡ false
    later true o = refl
    later false o = ne_eqb (gap t x.0) 0 (λ z. absurd (omega (arith, c.leads)))

-- the state after entries
abbrev pub passed_with : ℕ → List Posting → EntriesSoFar
passed_with doc postings = record { doc = doc; postings = postings }

abbrev handed_posting : RuledTerm → ℕ → ℕ → Handed → Posting
handed_posting t last place h = record { doc = h.doc; freq = if t.rules.omit_tf then 1 else h.freq; before = last; place = place }

abbrev made_posting : ℕ → ℕ → ℕ → ℕ → Posting
made_posting doc freq before place = record { doc = doc; freq = freq; before = before; place = place }

-- one entry is written
one-written : (t : RuledTerm) (s : EntriesSoFar) (place : ℕ) (h : Handed) → (((length s.postings == 0) ≡ true) → place ≡ t.info.freq) → s.doc + (if length s.postings == 0 then 0 else 1) ≤ h.doc → h.doc < t.rules.documents → h.doc < 2 ^ 31
    → 1 ≤ h.freq → h.freq < 2 ^ 31 → Writes (one (entry_kind t) s) place (entry_bytes t.rules.omit_tf s.doc h) (with_posting s (handed_posting t s.doc place h))
one-written t s place h at order below small some few =
    let x = canonical_parts t.rules.omit_tf (h.doc - s.doc) h.freq in
    let c = IsCanonical-parts t (h.doc - s.doc) h.freq (omega arith) some few in
    let up : s.doc ≤ h.doc = up_to (length s.postings == 0) order in
    let leads : s.doc + gap t x.0 ≡ h.doc = omega (arith, c.leads) in
    let is : posting_of t s.doc place (entry x.0 x.1) ≡ handed_posting t s.doc place h =
    ap (λ (d : ℕ). made_posting d (stated_or_one x.1) s.doc place) leads ∙ ap (λ (f : ℕ). made_posting h.doc f s.doc place) c.tells in
    let after = subst (λ (q : Posting). Writes {R = Record} (done (with_posting s (posting_of t s.doc place (entry x.0 x.1)))) (place + length (entry_bytes t.rules.omit_tf s.doc h)) [] (with_posting s q)) is
    (Writes-done (place + length (entry_bytes t.rules.omit_tf s.doc h)) (with_posting s (posting_of t s.doc place (entry x.0 x.1)))) in
    subst (λ (b : List ℕ). Writes (one (entry_kind t) s) place b (with_posting s (handed_posting t s.doc place h))) (append-nil (entry_bytes t.rules.omit_tf s.doc h))
    (Writes-due (entry_shape t) (λ p r. entry_conditions t (length s.postings == 0) s.doc p r) (λ p r. done (with_posting s (posting_of t s.doc p r))) place (entry x.0 x.1) (entry_bytes t.rules.omit_tf s.doc h) []
    (with_posting s (handed_posting t s.doc place h)) (Spells-entry t (h.doc - s.doc) h.freq x c) (entry-kept t (length s.postings == 0) s.doc place h x c at order below) after)
  where
    up_to : (b : Bool) → s.doc + (if b then 0 else 1) ≤ h.doc → s.doc ≤ h.doc
    up_to true o = omega arith
    up_to false o = omega arith

pub Writes-entries : (t : RuledTerm) (hs : List Handed) (s : EntriesSoFar) (place : ℕ) → AreInOrder t.rules.documents (length s.postings == 0) s.doc hs → (((length s.postings == 0) ≡ true) → place ≡ t.info.freq)
    → Writes (times (entry_kind t) (length hs) s) place (entries_bytes t.rules.omit_tf s.doc hs) (passed_with (last_doc s.doc hs) (s.postings ++ written_postings t.rules.omit_tf place s.doc hs))
unfolding each
Writes-entries t [] s place order at = subst (λ (ps : List Posting). Writes {R = Record} (done s) place [] (passed_with s.doc ps)) (sym (append-nil s.postings)) (Writes-done place s)
Writes-entries t (h ∷ hs) s place order at =
    let p = handed_posting t s.doc place h in
    let front = entry_bytes t.rules.omit_tf s.doc h in
    let some : (length (s.postings ++ p ∷ []) == 0) ≡ false = ne_eqb _ _ (λ e. absurd (omega (arith, length-append s.postings (p ∷ [])))) in
    let rest = Writes-entries t hs (with_posting s p) (place + length front) (subst (λ (b : Bool). AreInOrder t.rules.documents b h.doc hs) (sym some) order.5) (λ e. absurd (true≢false (sym e ∙ some))) in
    subst (λ (ps : List Posting). Writes (times (entry_kind t) (suc (length hs)) s) place (entries_bytes t.rules.omit_tf s.doc (h ∷ hs)) (passed_with (last_doc h.doc hs) ps))
    (append_assoc s.postings (p ∷ []) (written_postings t.rules.omit_tf (place + length front) h.doc hs))
    (Writes-and_then (one (entry_kind t) s) (each (one (entry_kind t)) (length hs)) place front (entries_bytes t.rules.omit_tf h.doc hs) (with_posting s p) _
    (one-written t s place h at order.0 order.1 order.2 order.3 order.4) rest)
