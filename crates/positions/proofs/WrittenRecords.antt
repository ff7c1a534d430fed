-- An occurrence in its written form is read as itself.
use Rattle.std.proofs.Common.{◌≡◌, ◌≢◌, ℕ, zero, suc, ◌+◌, ◌-◌, ◌*◌, ◌/◌, ◌%◌, ◌^◌, ◌<◌, ◌≤◌, Bool, true, false, not, ◌&&◌, ◌==◌, List, [], ◌∷◌, ◌++◌, length, Option, Some, None, ◌⊎◌, inl, inr, refl, sym, ap, subst, ◌∙◌, arith}
use Rattle.std.specs.Prelude.{nat_le}
use Rattle.std.proofs.lemmas.List.{append-nil}
use Rattle.std.proofs.lemmas.Bool.{cases_eq}
use Rattle.std.proofs.lemmas.Bool.Decides.{nat_tests}
use Rattle.lu_grammar.specs.Bytes.{IsBytes}
use Rattle.lu_grammar.specs.Parts.{vint, num, bytes, spelling}
use Rattle.lu_grammar.specs.Records.{Shape, whole, part, optional, Spells}
use Rattle.freq_skips.specs.Records.{alone, is_odd}
use Rattle.freq_skips.specs.Levels.{number_or}
use Rattle.freq_skips.specs.Written.{optional_bytes}
use Rattle.positions.specs.Records.{OccurrenceRecord, position_gap, length_after, payload_shape, occurrence_shape, states_length}
use Rattle.positions.specs.Written.{restates, with_stated_length, written_parts, record_bytes}

-- twice a number is even, and one more is odd
pub odd-twice : (n : ℕ) → is_odd (2 * n + 1) ≡ true
odd-twice n = let e : (2 * n + 1) % 2 ≡ 1 = omega arith in grind (arith, nat_tests)

pub even-twice : (n : ℕ) → is_odd (2 * n) ≡ false
even-twice n = let e : 2 * n % 2 ≡ 0 = omega arith in grind (arith, nat_tests)

-- a payload of so many bytes
abbrev made : ℕ → Option ℕ → List ℕ → OccurrenceRecord
made delta stated payload = record { delta = delta; stated = stated; payload = payload }

payload-spells : (n delta : ℕ) (stated : Option ℕ) (payload : List ℕ) → length payload ≡ n → IsBytes payload → Spells (part (bytes n) (λ x. whole (made delta stated x))) (made delta stated payload) payload
payload-spells n delta stated payload size fits = (payload, [], (size, fits), sym (append-nil payload), (refl, refl))

-- with its length stated
stated-spells : (force gap : ℕ) (payload : List ℕ) → gap < 2 ^ 31 → length payload < 2 ^ 31 → IsBytes payload
    → Spells (occurrence_shape true force) (record { delta = 2 * gap + 1; stated = Some (length payload); payload = payload }) (record_bytes (record { delta = 2 * gap + 1; stated = Some (length payload); payload = payload }))
stated-spells force gap payload small few fits =
    let delta = 2 * gap + 1 in
    let n = length payload in
    let r : OccurrenceRecord = record { delta = delta; stated = Some n; payload = payload } in
    let back = spelling num n ++ payload in
    let at : Spells (optional true (alone num) (payload_shape force delta)) r back = (n, payload, few, refl, payload-spells n delta (Some n) payload refl fits) in
    (delta, back, omega arith, refl, subst (λ (b : Bool). Spells (optional b (alone num) (payload_shape force delta)) r back) (sym (odd-twice gap)) at)

-- where its length is in force
forced-spells : (force gap : ℕ) (payload : List ℕ) → gap < 2 ^ 31 → length payload ≡ force → IsBytes payload
    → Spells (occurrence_shape true force) (record { delta = 2 * gap; stated = None; payload = payload }) (record_bytes (record { delta = 2 * gap; stated = None; payload = payload }))
forced-spells force gap payload small size fits =
    let delta = 2 * gap in
    let r : OccurrenceRecord = record { delta = delta; stated = None; payload = payload } in
    let at : Spells (optional false (alone num) (payload_shape force delta)) r payload = payload-spells force delta None payload size fits in
    (delta, payload, omega arith, refl, subst (λ (b : Bool). Spells (optional b (alone num) (payload_shape force delta)) r payload) (sym (even-twice gap)) at)

-- in a field without payloads
plain-spells : (force gap : ℕ) (payload : List ℕ) → gap < 2 ^ 31 → length payload ≡ force → IsBytes payload
    → Spells (occurrence_shape false force) (record { delta = gap; stated = None; payload = payload }) (record_bytes (record { delta = gap; stated = None; payload = payload }))
plain-spells force gap payload small size fits = (gap, payload, omega arith, refl, payload-spells force gap None payload size fits)

-- the length before is none, at the start of a document, or the one in force
abbrev pub IsBefore : Option ℕ → ℕ → Type 0
IsBefore before force = (before ≡ None) ⊎ (before ≡ Some force)

pub written-spells : (payloads : Bool) (force : ℕ) (before : Option ℕ) (gap : ℕ) (payload : List ℕ) → IsBefore before force → gap < 2 ^ 31 → length payload < 2 ^ 31 → IsBytes payload → (payloads ≡ false → length payload ≡ force)
    → Spells (occurrence_shape payloads force) (written_parts payloads before gap payload) (record_bytes (written_parts payloads before gap payload))
written-spells false force before gap payload is small few fits plain = plain-spells force gap payload small (plain refl) fits
written-spells true force before gap payload (inl none) small few fits plain =
    subst (λ (b : Option ℕ). Spells (occurrence_shape true force) (written_parts true b gap payload) (record_bytes (written_parts true b gap payload))) (sym none) (stated-spells force gap payload small few fits)
written-spells true force before gap payload (inr some) small few fits plain =
    subst (λ (b : Option ℕ). Spells (occurrence_shape true force) (written_parts true b gap payload) (record_bytes (written_parts true b gap payload))) (sym some)
    (go (force == length payload) (λ e. same-number force (length payload) e))
  where
    same-number : (m n : ℕ) → (m == n) ≡ true → n ≡ m
    same-number m n e = grind (arith, nat_tests)

    go : (b : Bool) → (b ≡ true → length payload ≡ force) → Spells (occurrence_shape true force) (with_stated_length (not b) gap payload) (record_bytes (with_stated_length (not b) gap payload))
    go true same = forced-spells force gap payload small (same refl) fits
    go false same = stated-spells force gap payload small few fits

-- the length in force behind it is its own
pub written-force : (payloads : Bool) (force : ℕ) (before : Option ℕ) (gap : ℕ) (payload : List ℕ) → IsBefore before force → (payloads ≡ false → length payload ≡ force) → length_after force (written_parts payloads before gap payload) ≡ length payload
written-force false force before gap payload is plain = sym (plain refl)
written-force true force before gap payload (inl none) plain = ap (λ (b : Option ℕ). length_after force (written_parts true b gap payload)) none
written-force true force before gap payload (inr some) plain =
    ap (λ (b : Option ℕ). length_after force (written_parts true b gap payload)) some ∙ go (force == length payload) (λ e. same-number force (length payload) e)
  where
    same-number : (m n : ℕ) → (m == n) ≡ true → m ≡ n
    same-number m n e = grind (arith, nat_tests)

    go : (b : Bool) → (b ≡ true → force ≡ length payload) → length_after force (with_stated_length (not b) gap payload) ≡ length payload
    go true same = same refl
    go false same = refl

-- its payload and how far it is above the position before
pub written-payload : (payloads : Bool) (before : Option ℕ) (gap : ℕ) (payload : List ℕ) → (written_parts payloads before gap payload).payload ≡ payload
written-payload false before gap payload = refl
written-payload true before gap payload = go (restates before (length payload))
  where
    go : (b : Bool) → (with_stated_length b gap payload).payload ≡ payload
    go true = refl
    go false = refl

pub written-gap : (payloads : Bool) (before : Option ℕ) (gap : ℕ) (payload : List ℕ) → position_gap payloads (written_parts payloads before gap payload).delta ≡ gap
written-gap false before gap payload = refl
written-gap true before gap payload = go (restates before (length payload))
  where
    go : (b : Bool) → position_gap true (with_stated_length b gap payload).delta ≡ gap
    go true = omega arith
    go false = omega arith

-- the first of a document states its length, in a field with payloads
pub written-stated : (payloads : Bool) (gap : ℕ) (payload : List ℕ) → payloads && not (is_odd (written_parts payloads None gap payload).delta) ≡ false
written-stated false gap payload = refl
written-stated true gap payload = ap not (odd-twice gap)
