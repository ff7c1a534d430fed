-- The next occurrence of an open entry, as a cursor takes it.
use Rattle.std.proofs.Common.{◌≡◌, ℕ, zero, suc, ◌+◌, ◌^◌, ◌<◌, ◌≤◌, Bool, true, false, ◌==◌, List, [], ◌∷◌, length, drop, Result, Ok, Err, ◌⊎◌, inl, inr, refl, sym, ap, subst, ◌∙◌, arith}
use Rattle.std.specs.Prelude.{slice_index_or, nat_le}
use Rattle.std.proofs.lemmas.Bool.{cases_lt}
use Rattle.std.proofs.lemmas.Bool.Decides.{nat_tests}
use Rattle.lu_grammar.specs.declared.bad.Bad.{Bad}
use Rattle.lu_grammar.specs.Bytes.{Cursor, place_in}
use Rattle.lu_grammar.specs.Records.{Condition, read_shape}
use Rattle.lu_grammar.specs.Plans.{read_plan}
use Rattle.lu_grammar.proofs.Plans.{err_is_not_ok}
use Rattle.lu_grammar.proofs.Codecs.{all_unbroken, record_at-was}
use Rattle.lu_types.specs.Occurrences.{Occurrence}
use Rattle.positions.specs.Records.{OccurrenceRecord, occurrence_shape, position_gap, length_after}
use Rattle.positions.specs.Occurrences.{PostedTerm, occurrence_of, due_with, occurrence_conditions, count_at}
use Rattle.positions.specs.Terms.{term_plan}
use Rattle.positions.specs.Standing.{StandsIn}
use Rattle.positions.specs.Cursors.{CursorState, Agrees, StandsAmong, StandsWith}
use Rattle.positions.proofs.StandLemmas.{occurrence_at, Stands-more}
use Rattle.positions.proofs.AgainLemmas.{Stands-again}
use Rattle.positions.proofs.AgreeLemmas.{Taken, taken, taken-read, taken-unread, agrees-taken}
use Rattle.positions.proofs.ValueLemmas.{entry-next}

abbrev taken_of : OccurrenceRecord → ℕ → Cursor → Result Taken Bad
taken_of r force next = Ok (r, force, next)

-- the same occurrence, the same length in force, the same place
taken-same : (r s : OccurrenceRecord) (f g : ℕ) (c d : Cursor) → taken_of r f c ≡ taken_of s g d → (r ≡ s) × (f ≡ g) × (c ≡ d)
taken-same r s f g c d e =
    let t : Taken = (r, f, c) in
    let u : Taken = (s, g, d) in
    let same : t ≡ u = cc in (ap (λ (x : Taken). x.0) same, ap (λ (x : Taken). x.1) same, ap (λ (x : Taken). x.2) same)

-- an occurrence is taken that is the next of the entry
pub record IsTaken (p : PostedTerm) (start : Cursor) (occurrences : List (List Occurrence)) (entry count position : ℕ) (r : OccurrenceRecord) (force : ℕ) (next : Cursor) : Type 0 where
  pub stands : StandsIn p start entry (count + 1) force (position + position_gap p.term.rules.payloads r.delta) next
  pub small : position + position_gap p.term.rules.payloads r.delta < 2 ^ 31
  pub is : drop count (slice_index_or occurrences entry []) ≡ occurrence_of p.term position r ∷ drop (count + 1) (slice_index_or occurrences entry [])

pub taken-next : (p : PostedTerm) (start : Cursor) (v : List (List Occurrence)) (end : Cursor) (entry count found force position : ℕ) (here : Cursor) (r : OccurrenceRecord) (next : Cursor) → read_plan (term_plan p) start ≡ Ok (v, end)
    → StandsIn p start entry count force position here → Agrees p.term.rules.payloads found force here → entry < p.term.info.doc_freq → count < count_at p entry
    → read_shape (occurrence_shape p.term.rules.payloads found) here ≡ Ok (r, next) → IsTaken p start v entry count position r (length_after found r) next
taken-next p start v end entry count found force position here r next all h agrees lt due read =
    let again = Stands-again p start v end entry count force position here all h lt due in
    let conditions : OccurrenceRecord → List Condition = λ r. occurrence_conditions p (due_with (count == 0) entry force position here.place) r.delta in
    let was = record_at-was (occurrence_shape p.term.rules.payloads force) conditions here again.0 again.1 again.2 in
    let both : taken_of r (length_after found r) next ≡ taken_of again.0 (length_after force again.0) again.1 =
    sym (taken-read p.term.rules.payloads found here r next read) ∙ agrees-taken p.term.rules.payloads found force here agrees ∙ taken-read p.term.rules.payloads force here again.0 again.1 was.0 in
    let same = taken-same r again.0 (length_after found r) (length_after force again.0) next again.1 both in
    let kept = all_unbroken (conditions again.0) was.1 in
    let e : occurrence_at p entry count force position here ≡ Ok (r, next) = again.2 ∙ ap (λ (x : OccurrenceRecord). ok x again.1) (sym same.0) ∙ ap (λ (c : Cursor). ok r c) (sym same.2) in
    let gap = ap (λ (x : OccurrenceRecord). position + position_gap p.term.rules.payloads x.delta) same.0 in
    record {
      stands = subst (λ (f : ℕ). StandsIn p start entry (count + 1) f (position + position_gap p.term.rules.payloads r.delta) next) (ap (λ (x : OccurrenceRecord). length_after force x) same.0 ∙ sym same.1)
          (Stands-more p start entry count force position here r next h e);
      small = below (position + position_gap p.term.rules.payloads r.delta) (ap (nat_le (2 ^ 31)) gap ∙ kept.1.0);
      is = entry-next p start v end entry count force position here r next all h lt due e;
    }
  where
    ok : OccurrenceRecord → Cursor → Result (OccurrenceRecord × Cursor) ℕ
    ok r c = Ok (r, c)

    below : (n : ℕ) → nat_le (2 ^ 31) n ≡ false → n < 2 ^ 31
    below n e = elim (cases_lt n (2 ^ 31)) [ inl low ↦ low | inr high ↦ let t : nat_le (2 ^ 31) n ≡ true = grind (arith, nat_tests) in absurd (cc) ]

-- the next of the entry is read
pub taken-never : (p : PostedTerm) (start : Cursor) (v : List (List Occurrence)) (end : Cursor) (entry count found force position : ℕ) (here : Cursor) (bad : Bad) → read_plan (term_plan p) start ≡ Ok (v, end)
    → StandsIn p start entry count force position here → Agrees p.term.rules.payloads found force here → entry < p.term.info.doc_freq → count < count_at p entry
    → read_shape (occurrence_shape p.term.rules.payloads found) here ≡ Err bad → ⊥
taken-never p start v end entry count found force position here bad all h agrees lt due unread =
    let again = Stands-again p start v end entry count force position here all h lt due in
    let conditions : OccurrenceRecord → List Condition = λ r. occurrence_conditions p (due_with (count == 0) entry force position here.place) r.delta in
    let was = record_at-was (occurrence_shape p.term.rules.payloads force) conditions here again.0 again.1 again.2 in
    err_is_not_ok (sym (taken-unread p.term.rules.payloads found here bad unread) ∙ agrees-taken p.term.rules.payloads found force here agrees ∙ taken-read p.term.rules.payloads force here again.0 again.1 was.0)
