-- So many occurrences of a term are good, and the next one, or the first fault.
use Rattle.std.proofs.Common.{◌≡◌, ℕ, zero, suc, add-one, add-zero, ◌+◌, ◌<◌, ◌≤◌, Bool, List, [], ◌∷◌, ◌++◌, length, ◌==◌, Result, Ok, Err, refl, sym, ap, subst, ◌∙◌, arith}
use Rattle.std.proofs.lemmas.List.{length-append}
use Rattle.lu_grammar.specs.Bytes.{Cursor}
use Rattle.lu_grammar.specs.Reading.{◌>>=◌}
use Rattle.lu_grammar.specs.Records.{record_at}
use Rattle.lu_grammar.specs.Plans.{Plan, done, Broken, one, times, read_plan}
use Rattle.lu_grammar.proofs.Records.{same_pair}
use Rattle.lu_grammar.proofs.Codecs.{record_at-was, record_at-read}
use Rattle.lu_grammar.proofs.Plans.{ok_of}
use Rattle.lu_grammar.proofs.Loops.{read_plan-and_then, each-none, each-more, each-fault, times-more, times-fault}
use Rattle.lu_types.specs.Occurrences.{Occurrence}
use Rattle.positions.specs.Records.{OccurrenceRecord, occurrence_shape, position_gap, length_after}
use Rattle.positions.specs.Occurrences.{PostedTerm, Held, nothing_held, occurrence_of, with_occurrence, closed, due_with, occurrence_conditions, occurrence_kind, count_at, entry_plan, entries_plan}
use Rattle.positions.specs.Terms.{term_plan}
use Rattle.positions.specs.Standing.{passed_kind, count_before, Skims, StandsIn}

-- what is asked of the occurrence that stands next
abbrev pub occurrence_at : PostedTerm → ℕ → ℕ → ℕ → ℕ → Cursor → Result (OccurrenceRecord × Cursor) ℕ
occurrence_at p passed count force position here =
    record_at (occurrence_shape p.term.rules.payloads force) (λ r. occurrence_conditions p (due_with (count == 0) passed force position here.place) r.delta) here

-- the same, by a flag that is equal
pub expected_as : (p : PostedTerm) (payloads : Bool) (passed count force position : ℕ) (here : Cursor) (x : Result (OccurrenceRecord × Cursor) ℕ) → payloads ≡ p.term.rules.payloads
    → record_at (occurrence_shape payloads force) (λ r. occurrence_conditions p (due_with (count == 0) passed force position here.place) r.delta) here ≡ x → occurrence_at p passed count force position here ≡ x
expected_as p payloads passed count force position here x same e =
    subst (λ (b : Bool). record_at (occurrence_shape b force) (λ r. occurrence_conditions p (due_with (count == 0) passed force position here.place) r.delta) here ≡ x) same e

pub Skims-none : (payloads : Bool) (start : Cursor) → Skims payloads start 0 0 start
Skims-none payloads start = record { reads = each-none _ 0 start }

pub Stands-none : (p : PostedTerm) (start : Cursor) → StandsIn p start 0 0 0 0 start
Stands-none p start = record {
  mid = nothing_held;
  behind = start;
  held = nothing_held;
  entries_read = each-none _ nothing_held start;
  reads = each-none _ nothing_held start;
  fresh = refl;
  begun = refl;
  force_is = refl;
  position_is = refl;
  now_is = refl;
  before_is = refl;
  skims = Skims-none p.term.rules.payloads start;
}

-- the same, by the state
pub kind_at : (p : PostedTerm) (start : Cursor) (passed count force position : ℕ) (here : Cursor) (h : StandsIn p start passed count force position here)
    → record_at ((occurrence_kind p).shape h.held) ((occurrence_kind p).conditions h.held here.place) here ≡ occurrence_at p passed count force position here
kind_at p start passed count force position here h =
    ap (λ (n : ℕ). occurrence_at p n (length h.held.now) h.held.force h.held.position here) (ap length h.before_is ∙ h.begun)
    ∙ ap (λ (n : ℕ). occurrence_at p passed n h.held.force h.held.position here) h.now_is
    ∙ ap (λ (n : ℕ). occurrence_at p passed count n h.held.position here) h.force_is
    ∙ ap (λ (n : ℕ). occurrence_at p passed count force n here) h.position_is

-- one occurrence more is passed over
pub Skims-more : (p : PostedTerm) (start : Cursor) (n passed count force position : ℕ) (here : Cursor) (r : OccurrenceRecord) (next : Cursor) → Skims p.term.rules.payloads start n force here
    → occurrence_at p passed count force position here ≡ Ok (r, next) → Skims p.term.rules.payloads start (n + 1) (length_after force r) next
Skims-more p start n passed count force position here r next h e =
    let was = record_at-was (occurrence_shape p.term.rules.payloads force) _ here r next e in
    record { reads = times-more (passed_kind p.term.rules.payloads) n 0 start force here r next h.reads (record_at-read (occurrence_shape p.term.rules.payloads force) (λ r. []) here r next was.0 refl) }

pub Skims-as : (p : PostedTerm) (start : Cursor) (m n force : ℕ) (here : Cursor) → m ≡ n → Skims p.term.rules.payloads start m force here → Skims p.term.rules.payloads start n force here
Skims-as p start m n force here e h = subst (λ (k : ℕ). Skims p.term.rules.payloads start k force here) e h

pub Stands-more : (p : PostedTerm) (start : Cursor) (passed count force position : ℕ) (here : Cursor) (r : OccurrenceRecord) (next : Cursor) → StandsIn p start passed count force position here
    → occurrence_at p passed count force position here ≡ Ok (r, next) → StandsIn p start passed (count + 1) (length_after force r) (position + position_gap p.term.rules.payloads r.delta) next
Stands-more p start passed count force position here r next h e = record {
  mid = h.mid;
  behind = h.behind;
  held = with_occurrence p.term h.held r;
  entries_read = h.entries_read;
  reads = times-more (occurrence_kind p) count h.mid h.behind h.held here r next h.reads (kind_at p start passed count force position here h ∙ e);
  fresh = h.fresh;
  begun = h.begun;
  force_is = ap (λ (f : ℕ). length_after f r) h.force_is;
  position_is = ap (λ (q : ℕ). q + position_gap p.term.rules.payloads r.delta) h.position_is;
  now_is = omega (arith, length-append h.held.now (occurrence_of p.term h.held.position r ∷ []), h.now_is);
  before_is = h.before_is;
  skims = Skims-as p start (count_before p passed + count + 1) (count_before p passed + (count + 1)) (length_after force r) next (omega arith)
      (Skims-more p start (count_before p passed + count) passed count force position here r next h.skims e);
}

pub Stands-more-now : (p : PostedTerm) (start : Cursor) (passed count force position : ℕ) (here : Cursor) (r : OccurrenceRecord) (next : Cursor) (h : StandsIn p start passed count force position here)
    (e : occurrence_at p passed count force position here ≡ Ok (r, next)) → (Stands-more p start passed count force position here r next h e).held.now ≡ h.held.now ++ occurrence_of p.term h.held.position r ∷ []
unfolding Stands-more
Stands-more-now p start passed count force position here r next h e = refl

-- the occurrences of an entry, and that it is at its end
unfoldable pub ended : Result (Held × Cursor) Broken → Result (Held × Cursor) Broken
ended r = r >>= λ x. read_plan {R = OccurrenceRecord} (done (closed x.0)) x.1

pub ended_ok : (s : Held) (c : Cursor) → ended (Ok (s, c)) ≡ Ok (closed s, c)
unfolding ended read_plan
ended_ok s c = refl

ended_err : (b : Broken) → ended (Err b) ≡ Err b
unfolding ended read_plan
ended_err b = refl

pub entry-ended : (p : PostedTerm) (s : Held) (c : Cursor) → read_plan (entry_plan p s) c ≡ ended (read_plan (times (occurrence_kind p) (count_at p (length s.before)) s) c)
unfolding ended
entry-ended p s c = read_plan-and_then (times (occurrence_kind p) (count_at p (length s.before)) s) (λ held. done (closed held)) c

-- an entry of which so many occurrences are due is read where these are
pub entry-read : (p : PostedTerm) (s : Held) (c : Cursor) (n : ℕ) (held : Held) (d : Cursor) → count_at p (length s.before) ≡ n → read_plan (times (occurrence_kind p) n s) c ≡ Ok (held, d) → read_plan (entry_plan p s) c ≡ Ok (closed held, d)
entry-read p s c n held d is e =
    entry-ended p s c ∙ ap (λ (m : ℕ). ended (read_plan (times (occurrence_kind p) m s) c)) is ∙ ap ended e ∙ ended_ok held d

pub Stands-closed : (p : PostedTerm) (start : Cursor) (passed count force position : ℕ) (here : Cursor) → StandsIn p start passed count force position here → count ≡ count_at p passed
    → StandsIn p start (passed + 1) 0 force 0 here
Stands-closed p start passed count force position here h all =
    let due : count_at p (length h.mid.before) ≡ count = ap (count_at p) h.begun ∙ sym all in
    record {
      mid = closed h.held;
      behind = here;
      held = closed h.held;
      entries_read = each-more (entry_plan p) passed nothing_held start h.mid h.behind (closed h.held) here h.entries_read (entry-read p h.mid h.behind count h.held here due h.reads);
      reads = each-none _ (closed h.held) here;
      fresh = refl;
      begun = omega (arith, length-append h.held.before (h.held.now ∷ []), ap length h.before_is, h.begun);
      force_is = h.force_is;
      position_is = refl;
      now_is = refl;
      before_is = refl;
      skims = Skims-as p start (count_before p passed + count) (count_before p (passed + 1) + 0) force here (count_more p passed count all) h.skims;
    }
  where
    count_more : (p : PostedTerm) (passed count : ℕ) → count ≡ count_at p passed → count_before p passed + count ≡ count_before p (passed + 1) + 0
    count_more p passed count all = ap (λ (n : ℕ). count_before p passed + n) all ∙ sym (add-zero (count_before p (suc passed))) ∙ ap (λ (n : ℕ). count_before p n + 0) (sym (add-one passed))

-- the term after its entries
unfoldable pub told : Result (Held × Cursor) Broken → Result (List (List Occurrence) × Cursor) Broken
told r = r >>= λ x. read_plan {R = OccurrenceRecord} (done x.0.before) x.1

pub told_ok : (s : Held) (c : Cursor) → told (Ok (s, c)) ≡ Ok (s.before, c)
unfolding told read_plan
told_ok s c = refl

told_err : (b : Broken) → told (Err b) ≡ Err b
unfolding told read_plan
told_err b = refl

pub term-told : (p : PostedTerm) (start : Cursor) → read_plan (term_plan p) start ≡ told (read_plan (entries_plan p p.term.info.doc_freq) start)
unfolding told
term-told p start = read_plan-and_then (entries_plan p p.term.info.doc_freq) (λ s. done s.before) start

pub Stands-fault : (p : PostedTerm) (start : Cursor) (passed count force position : ℕ) (here : Cursor) (rule : ℕ) → StandsIn p start passed count force position here
    → passed < p.term.info.doc_freq → count < count_at p passed → occurrence_at p passed count force position here ≡ Err rule → read_plan (term_plan p) start ≡ Err (record { offset = here.place; rule = rule })
Stands-fault p start passed count force position here rule h within due e =
    let b : Broken = record { offset = here.place; rule = rule } in
    let lt : count < count_at p (length h.mid.before) = subst (λ (n : ℕ). count < count_at p n) (sym h.begun) due in
    let occurrences = times-fault (occurrence_kind p) count (count_at p (length h.mid.before)) h.mid h.behind h.held here rule lt h.reads (kind_at p start passed count force position here h ∙ e) in
    let entry = entry-ended p h.mid h.behind ∙ ap ended occurrences ∙ ended_err b in
    term-told p start ∙ ap told (each-fault (entry_plan p) passed p.term.info.doc_freq nothing_held start h.mid h.behind b within h.entries_read entry) ∙ told_err b

-- where no occurrence of the next entry is read, the entries before end here
pub Stands-start : (p : PostedTerm) (start : Cursor) (passed force position : ℕ) (here : Cursor) (h : StandsIn p start passed 0 force position here) → (h.mid ≡ h.held) × (h.behind ≡ here)
Stands-start p start passed force position here h = same_pair h.mid h.held h.behind here (sym (each-none _ h.mid h.behind) ∙ h.reads)

pub Stands-all : (p : PostedTerm) (start : Cursor) (passed force position : ℕ) (here : Cursor) (h : StandsIn p start passed 0 force position here) → passed ≡ p.term.info.doc_freq
    → read_plan (term_plan p) start ≡ Ok (h.mid.before, here)
Stands-all p start passed force position here h all =
    term-told p start
    ∙ ap (λ (n : ℕ). told (read_plan (entries_plan p n) start)) (sym all)
    ∙ ap told h.entries_read
    ∙ told_ok h.mid h.behind
    ∙ ap (λ (c : Cursor). ok_of (h.mid.before, c)) (Stands-start p start passed force position here h).1

-- the same place, by numbers that are equal
pub Stands-as : (p : PostedTerm) (start : Cursor) (passed count force position : ℕ) (here : Cursor) (k j f q : ℕ) → k ≡ passed → j ≡ count → f ≡ force → q ≡ position
    → StandsIn p start passed count force position here → StandsIn p start k j f q here
Stands-as p start passed count force position here k j f q a b c d h =
    subst (λ (n : ℕ). StandsIn p start n j f q here) (sym a) (subst (λ (n : ℕ). StandsIn p start passed n f q here) (sym b)
    (subst (λ (n : ℕ). StandsIn p start passed count n q here) (sym c) (subst (λ (n : ℕ). StandsIn p start passed count force n here) (sym d) h)))
