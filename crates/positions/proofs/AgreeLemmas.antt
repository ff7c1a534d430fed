-- The occurrence that stands next, where the payload length in force is not known but stated.
use Rattle.std.proofs.Common.{◌≡◌, ℕ, zero, suc, ◌<◌, ◌≤◌, Bool, true, false, Option, Some, None, List, [], ◌∷◌, Result, Ok, Err, inl, inr, refl, sym, ap, subst, ◌∙◌}
use Rattle.lu_grammar.specs.declared.bad.Bad.{Bad}
use Rattle.lu_grammar.specs.Bytes.{Cursor}
use Rattle.lu_grammar.specs.Parts.{vint, num, bytes}
use Rattle.lu_grammar.specs.Reading.{◌>>=◌, read_part}
use Rattle.lu_grammar.specs.Records.{optional, read_shape, judged, rule_of, record_at}
use Rattle.lu_grammar.specs.Plans.{Broken, broken_at, one, each, times, read_plan}
use Rattle.lu_grammar.proofs.Loops.{read_plan-and_then}
use Rattle.lu_grammar.proofs.Records.{read_shape-part, same_pair}
use Rattle.lu_grammar.proofs.Plans.{ok_of}
use Rattle.freq_skips.specs.Records.{alone}
use Rattle.positions.specs.Records.{OccurrenceRecord, payload_shape, occurrence_shape, states_length, length_after}
use Rattle.positions.specs.Standing.{passed_kind}
use Rattle.positions.specs.Cursors.{Agrees}

-- an occurrence that is read, and the payload length in force behind it
abbrev pub Taken : Type 0
Taken = OccurrenceRecord × ℕ × Cursor

abbrev behind : ℕ → OccurrenceRecord × Cursor → Result Taken Bad
behind force x = Ok (x.0, length_after force x.0, x.1)

abbrev made : ℕ → ℕ → List ℕ × Cursor → Result (OccurrenceRecord × Cursor) Bad
made delta n x = Ok (record { delta = delta; stated = Some n; payload = x.0 }, x.1)

with_force : ℕ → Result (OccurrenceRecord × Cursor) Bad → Result Taken Bad
with_force force r = r >>= behind force

-- what is read here where this length is in force
pub taken : Bool → ℕ → Cursor → Result Taken Bad
taken payloads force here = with_force force (read_shape (occurrence_shape payloads force) here)

pub taken-read : (payloads : Bool) (force : ℕ) (here : Cursor) (r : OccurrenceRecord) (next : Cursor) → read_shape (occurrence_shape payloads force) here ≡ Ok (r, next) → taken payloads force here ≡ Ok (r, length_after force r, next)
unfolding taken with_force
taken-read payloads force here r next e = ap (with_force force) e

pub taken-unread : (payloads : Bool) (force : ℕ) (here : Cursor) (bad : Bad) → read_shape (occurrence_shape payloads force) here ≡ Err bad → taken payloads force here ≡ Err bad
unfolding taken with_force
taken-unread payloads force here bad e = ap (with_force force) e

-- a stated length makes the one in force before indifferent
stated-same : (found force delta : ℕ) (next : Cursor) → with_force found (read_shape (optional true (alone num) (payload_shape found delta)) next) ≡ with_force force (read_shape (optional true (alone num) (payload_shape force delta)) next)
unfolding with_force
stated-same found force delta next = outer (read_part num next)
  where
    inner : (n : ℕ) (r : Result (List ℕ × Cursor) Bad) → (r >>= made delta n) >>= behind found ≡ (r >>= made delta n) >>= behind force
    inner n (Ok x) = refl
    inner n (Err bad) = refl

    outer : (r : Result (ℕ × Cursor) Bad)
        → (r >>= λ x. read_shape (payload_shape found delta (Some x.0)) x.1) >>= behind found ≡ (r >>= λ x. read_shape (payload_shape force delta (Some x.0)) x.1) >>= behind force
    outer (Ok (n, c)) = inner n (read_part (bytes n) c)
    outer (Err bad) = refl

pub agrees-taken : (payloads : Bool) (found force : ℕ) (here : Cursor) → Agrees payloads found force here → taken payloads found here ≡ taken payloads force here
unfolding taken
agrees-taken payloads found force here (inl same) = ap (λ (n : ℕ). taken payloads n here) same
agrees-taken payloads found force here (inr (delta, next, is, states)) =
    let at : (n : ℕ) → with_force n (read_shape (occurrence_shape payloads n) here) ≡ with_force n (read_shape (optional true (alone num) (payload_shape n delta)) next) = λ n.
    ap (with_force n) (read_shape-part vint _ here delta next is ∙ ap (λ (b : Bool). read_shape (optional b (alone num) (payload_shape n delta)) next) states) in
    at found ∙ stated-same found force delta next ∙ sym (at force)

-- what is read of the payload length alone
passed_of : ℕ → Result Taken Bad → Result (ℕ × Cursor) Broken
passed_of place (Ok x) = Ok (x.1, x.2)
passed_of place (Err bad) = Err (record { offset = place; rule = rule_of bad })

abbrev force_behind : ℕ → OccurrenceRecord × Cursor → Result (ℕ × Cursor) Broken
force_behind force x = Ok (length_after force x.0, x.1)

passed-taken : (payloads : Bool) (force : ℕ) (here : Cursor) → read_plan (one (passed_kind payloads) force) here ≡ passed_of here.place (taken payloads force here)
unfolding read_plan record_at taken with_force passed_of
passed-taken payloads force here = go (read_shape (occurrence_shape payloads force) here)
  where
    go : (r : Result (OccurrenceRecord × Cursor) Bad) → (broken_at here.place (judged (λ x. []) r) >>= force_behind force) ≡ passed_of here.place (r >>= behind force)
    go (Ok x) = refl
    go (Err bad) = refl

-- one that states its length is passed over whatever is in force, and so are those behind it
pub agrees-passed : (payloads : Bool) (found force : ℕ) (here : Cursor) (n : ℕ) → Agrees payloads found force here → read_plan (times (passed_kind payloads) (suc n) found) here ≡ read_plan (times (passed_kind payloads) (suc n) force) here
unfolding each read_plan
agrees-passed payloads found force here n agrees =
    let both : read_plan (one (passed_kind payloads) found) here ≡ read_plan (one (passed_kind payloads) force) here =
    passed-taken payloads found here ∙ ap (passed_of here.place) (agrees-taken payloads found force here agrees) ∙ sym (passed-taken payloads force here) in
    read_plan-and_then (one (passed_kind payloads) found) (each (one (passed_kind payloads)) n) here
    ∙ ap (λ (r : Result (ℕ × Cursor) Broken). r >>= λ x. read_plan (each (one (passed_kind payloads)) n x.0) x.1) both
    ∙ sym (read_plan-and_then (one (passed_kind payloads) force) (each (one (passed_kind payloads)) n) here)
