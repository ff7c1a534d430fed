-- Occurrences that are passed over.
use Rattle.std.proofs.Common.{◌≡◌, ℕ, zero, suc, ◌+◌, ◌-◌, ◌<◌, ◌≤◌, Bool, true, false, ltb, List, [], ◌∷◌, ◌++◌, length, Option, Some, None, Result, Ok, Err, ◌⊎◌, inl, inr, refl, sym, ap, subst, ◌∙◌, arith}
use Rattle.std.proofs.lemmas.Bool.{cases_lt, lt-ltb, le-ltb}
use Rattle.std.proofs.lemmas.List.{length-append}
use Rattle.lu_grammar.specs.declared.bad.Bad.{Bad}
use Rattle.lu_grammar.specs.Bytes.{IsBytes, Cursor, place_in}
use Rattle.lu_grammar.specs.Parts.{vint, bytes, spelling, groups}
use Rattle.lu_grammar.specs.Reading.{◌>>=◌, read_part}
use Rattle.lu_grammar.specs.Records.{Shape, read_shape, record_at, rule_of}
use Rattle.lu_grammar.specs.Plans.{Plan, one, each, times, read_plan}
use Rattle.lu_grammar.proofs.Parts.{IsBytes-drop}
use Rattle.lu_grammar.proofs.Records.{ok_pair, same_pair, TakesRecord, read_shape-judges, ShapeJudges}
use Rattle.lu_grammar.proofs.Plans.{ok_of, err_is_not_ok}
use Rattle.lu_grammar.proofs.Loops.{each-none, each-rest, each-again, one-was, times-more, times-again, times-keeps}
use Rattle.lu_grammar.proofs.Codecs.{record_at-read, record_at-unread, record_at-was, reads-read_plan, IsBytes-after}
use Rattle.positions.specs.Records.{OccurrenceRecord, payload_shape, occurrence_shape, length_after}
use Rattle.freq_skips.specs.Levels.{number_or}
use Rattle.positions.specs.Standing.{passed_kind, Skims, PassesOver}

-- one more is passed over
pub passes-more : (payloads b : Bool) (n first : ℕ) (start : Cursor) (force : ℕ) (here : Cursor) (r : OccurrenceRecord) (next : Cursor) (after : ℕ) → b ≡ payloads → read_plan (times (passed_kind payloads) n first) start ≡ Ok (force, here)
    → read_shape (occurrence_shape b force) here ≡ Ok (r, next) → after ≡ length_after force r → read_plan (times (passed_kind payloads) (n + 1) first) start ≡ Ok (after, next)
passes-more payloads b n first start force here r next after same before read is =
    times-more (passed_kind payloads) n first start force here r next before (record_at-read (occurrence_shape payloads force) (λ r. []) here r next (subst (λ (x : Bool). read_shape (occurrence_shape x force) here ≡ Ok (r, next)) same read) refl)
    ∙ ap (λ (f : ℕ). ok_of (f, next)) (sym is)

-- where so many stand, none of them is not read
pub passes-never : (payloads b : Bool) (n count first : ℕ) (start : Cursor) (force : ℕ) (here : Cursor) (bad : Bad) (f : ℕ) (d : Cursor) → b ≡ payloads → read_plan (times (passed_kind payloads) n first) start ≡ Ok (force, here) → n < count
    → read_plan (times (passed_kind payloads) count first) start ≡ Ok (f, d) → read_shape (occurrence_shape b force) here ≡ Err bad → ⊥
passes-never payloads b n count first start force here bad f d same before lt all unread =
    let again = times-again (passed_kind payloads) n count first start force here (f, d) lt all before in
    let broken = record_at-unread (occurrence_shape payloads force) (λ r. []) here bad (subst (λ (x : Bool). read_shape (occurrence_shape x force) here ≡ Err bad) same unread) in
    err_is_not_ok (sym broken ∙ again.2)

-- a number takes a byte at least
groups-some : (more n : ℕ) → 0 < length (groups more n)
unfolding groups
groups-some zero n = omega arith
groups-some (suc more) n = elim (cases_lt n 128) [
  | inl low ↦ let last : ltb n 128 ≡ true = lt-ltb n 128 low in rw last (omega arith)
  | inr high ↦ let above : ltb n 128 ≡ false = le-ltb n 128 high in rw above (omega arith)
]

-- an occurrence that is read moves the place
pub occurrence-moves : (payloads : Bool) (force : ℕ) (here : Cursor) (r : OccurrenceRecord) (next : Cursor) → IsBytes here.rest → read_shape (occurrence_shape payloads force) here ≡ Ok (r, next) → (here.place < next.place) × IsBytes next.rest
occurrence-moves payloads force here r next fits e =
    let h : TakesRecord (occurrence_shape payloads force) here r next = subst (λ (x : Result (OccurrenceRecord × Cursor) Bad). ShapeJudges (occurrence_shape payloads force) here x) e (read_shape-judges (occurrence_shape payloads force) here fits) in
    let some = groups-some 4 h.spells.0 in
    let size = ap length h.spells.3 in
    (omega (arith, length-append (spelling vint h.spells.0) h.spells.1, h.place), h.fits)

-- what is read does not move back
pub plan-rises : {V R : Type 0} (plan : Plan V R) (c : Cursor) (v : V) (d : Cursor) → IsBytes c.rest → read_plan plan c ≡ Ok (v, d) → c.place ≤ d.place
plan-rises plan c v d fits e = let h = reads-read_plan plan c v d fits e in omega (arith, h.place)

-- so many lead to one place
pub Skims-same : (payloads : Bool) (start : Cursor) (n f g : ℕ) (c d : Cursor) → Skims payloads start n f c → Skims payloads start n g d → (f ≡ g) × (c ≡ d)
Skims-same payloads start n f g c d h k = same_pair f g c d (sym h.reads ∙ k.reads)

-- from the place behind some to that behind more
pub Skims-rest : (payloads : Bool) (start : Cursor) (m n f g : ℕ) (c d : Cursor) → m ≤ n → Skims payloads start m f c → Skims payloads start n g d → read_plan (times (passed_kind payloads) (n - m) f) c ≡ Ok (g, d)
Skims-rest payloads start m n f g c d le h k = sym (each-rest (one (passed_kind payloads)) m n 0 start f c le h.reads) ∙ k.reads

-- fewer end further in front
pub Skims-less : (payloads : Bool) (start : Cursor) (m n f g : ℕ) (c d : Cursor) → IsBytes start.rest → m < n → Skims payloads start m f c → Skims payloads start n g d → c.place < d.place
Skims-less payloads start m n f g c d fits lt h k =
    let rest = Skims-rest payloads start m n f g c d (omega arith) h k in
    let bytes = IsBytes-after (times (passed_kind payloads) m 0) start f c fits h.reads in
    let again = each-again (one (passed_kind payloads)) 0 (n - m) f c f c (g, d) (omega arith) rest (each-none (one (passed_kind payloads)) f c) in
    let was = one-was (passed_kind payloads) f c again.0 again.1 in
    let read = record_at-was (occurrence_shape payloads f) (λ r. []) c was.0 again.0.1 was.1 in
    let moves = occurrence-moves payloads f c was.0 again.0.1 bytes read.0 in
    let on = plan-rises (times (passed_kind payloads) (n - m - (0 + 1)) again.0.0) again.0.1 g d moves.1 again.2 in
    omega (arith, moves.0)

-- in a field without payloads no length is stated
pub plain-stated : (force : ℕ) (here : Cursor) (r : OccurrenceRecord) (next : Cursor) → read_shape (occurrence_shape false force) here ≡ Ok (r, next) → r.stated ≡ None
plain-stated force here r next e = outer (read_part vint here) e
  where
    inner : (delta : ℕ) (x : Result (List ℕ × Cursor) Bad) → (x >>= λ y. ok_pair {E = Bad} (record { delta = delta; stated = None; payload = y.0 }) y.1) ≡ ok_pair r next → r.stated ≡ None
    inner delta (Ok (bs, d)) e = let same = same_pair (record { delta = delta; stated = None; payload = bs }) r d next e in ap (λ (x : OccurrenceRecord). x.stated) (sym same.0)
    inner delta (Err bad) e = absurd (err_is_not_ok e)

    outer : (x : Result (ℕ × Cursor) Bad) → (x >>= λ y. read_shape (payload_shape force y.0 None) y.1) ≡ ok_pair r next → r.stated ≡ None
    outer (Ok (delta, d)) e = inner delta (read_part (bytes force) d) e
    outer (Err bad) e = absurd (err_is_not_ok e)

-- and none is in force
pub Skims-plain : (start : Cursor) (n force : ℕ) (here : Cursor) → Skims false start n force here → force ≡ 0
Skims-plain start n force here h =
    times-keeps (passed_kind false) (λ f. f ≡ 0) (λ f c r d is e. ap (λ (x : Option ℕ). number_or f x) (plain-stated f c r d (record_at-was (occurrence_shape false f) (λ x. []) c r d e).0) ∙ is) n 0 start force here refl h.reads
