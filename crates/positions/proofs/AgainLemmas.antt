-- The occurrences of a term that is good, read again.
use Rattle.std.proofs.Common.{◌≡◌, ℕ, zero, suc, add-one, add-zero, ◌+◌, ◌-◌, ◌<◌, ◌≤◌, Bool, true, false, not, ◌&&◌, ◌==◌, List, [], ◌∷◌, ◌++◌, length, Result, Ok, Err, refl, sym, ap, subst, ◌∙◌, arith}
use Rattle.lu_grammar.specs.Bytes.{Cursor}
use Rattle.lu_grammar.specs.Reading.{◌>>=◌}
use Rattle.lu_grammar.specs.Records.{Condition}
use Rattle.lu_grammar.specs.Plans.{Plan, done, Broken, times, each, read_plan}
use Rattle.lu_grammar.proofs.Records.{same_pair}
use Rattle.lu_grammar.proofs.Plans.{ok_of}
use Rattle.lu_grammar.proofs.Loops.{then_ok, each-again, times-again}
use Rattle.lu_grammar.proofs.Codecs.{all_unbroken, same-of, record_at-kept}
use Rattle.lu_types.specs.Occurrences.{Occurrence}
use Rattle.positions.specs.Records.{OccurrenceRecord, occurrence_shape, position_gap, length_after}
use Rattle.positions.specs.Occurrences.{PostedTerm, Held, nothing_held, closed, due_with, occurrence_conditions, occurrence_kind, count_at, entry_plan, entries_plan}
use Rattle.positions.specs.Terms.{term_plan}
use Rattle.positions.specs.Standing.{StandsIn}
use Rattle.positions.proofs.StandLemmas.{occurrence_at, kind_at, ended, ended_ok, entry-ended, told, told_ok, term-told, Stands-none, Stands-more, Stands-as, Stands-closed}

-- an entry that was read is so many occurrences, and what follows
pub record EntryParts (p : PostedTerm) (start : Cursor) (passed : ℕ) (mid : Held) (behind : Cursor) (v : List (List Occurrence)) (end : Cursor) : Type 0 where
  pub last : Held
  pub here : Held
  pub next : Cursor
  pub times_read : read_plan (times (occurrence_kind p) (count_at p passed) mid) behind ≡ Ok (here, next)
  pub rest : read_plan (each (entry_plan p) (p.term.info.doc_freq - (passed + 1)) (closed here)) next ≡ Ok (last, end)
  pub value_is : last.before ≡ v

told-was : (r : Result (Held × Cursor) Broken) (v : List (List Occurrence)) (end : Cursor) → told r ≡ ok_of (v, end) → (s : Held) × (r ≡ Ok (s, end)) × (s.before ≡ v)
unfolding told read_plan
told-was r v end e = go (then_ok r _ (v, end) e)
  where
    go : ((x : Held × Cursor) × (r ≡ Ok x) × (read_plan {R = OccurrenceRecord} (done x.0.before) x.1 ≡ ok_of (v, end))) → (s : Held) × (r ≡ Ok (s, end)) × (s.before ≡ v)
    go ((s, d), is, e) = let same = same_pair s.before v d end e in (s, is ∙ ap (λ (c : Cursor). ok_of (s, c)) same.1, same.0)

pub ended-was : (r : Result (Held × Cursor) Broken) (x : Held × Cursor) → ended r ≡ ok_of x → (s : Held) × (r ≡ Ok (s, x.1)) × (closed s ≡ x.0)
unfolding ended read_plan
ended-was r x e = go (then_ok r _ x e)
  where
    go : ((y : Held × Cursor) × (r ≡ Ok y) × (read_plan {R = OccurrenceRecord} (done (closed y.0)) y.1 ≡ ok_of x)) → (s : Held) × (r ≡ Ok (s, x.1)) × (closed s ≡ x.0)
    go ((s, d), is, e) = let same = same_pair (closed s) x.0 d x.1 e in (s, is ∙ ap (λ (c : Cursor). ok_of (s, c)) same.1, same.0)

pub entry-parts : (p : PostedTerm) (start : Cursor) (v : List (List Occurrence)) (end : Cursor) (passed count force position : ℕ) (here : Cursor) → read_plan (term_plan p) start ≡ Ok (v, end)
    → (h : StandsIn p start passed count force position here) → passed < p.term.info.doc_freq → EntryParts p start passed h.mid h.behind v end
entry-parts p start v end passed count force position here all h lt =
    let whole = told-was (read_plan (entries_plan p p.term.info.doc_freq) start) v end (sym (term-told p start) ∙ all) in
    let again = each-again (entry_plan p) passed p.term.info.doc_freq nothing_held start h.mid h.behind (whole.0, end) lt whole.1 h.entries_read in
    let entry = ended-was (read_plan (times (occurrence_kind p) (count_at p (length h.mid.before)) h.mid) h.behind) again.0 (sym (entry-ended p h.mid h.behind) ∙ again.1) in
    record {
      last = whole.0;
      here = entry.0;
      next = again.0.1;
      times_read = ap (λ (n : ℕ). read_plan (times (occurrence_kind p) (count_at p n) h.mid) h.behind) (sym h.begun) ∙ entry.1;
      rest = subst (λ (s : Held). read_plan (each (entry_plan p) (p.term.info.doc_freq - (passed + 1)) s) again.0.1 ≡ Ok (whole.0, end)) (sym entry.2) again.2;
      value_is = whole.2;
    }

-- where all occurrences are good the next one is, whenever the first so many are read again
pub Stands-again : (p : PostedTerm) (start : Cursor) (v : List (List Occurrence)) (end : Cursor) (passed count force position : ℕ) (here : Cursor) → read_plan (term_plan p) start ≡ Ok (v, end)
    → StandsIn p start passed count force position here → passed < p.term.info.doc_freq → count < count_at p passed → (r : OccurrenceRecord) × (next : Cursor) × (occurrence_at p passed count force position here ≡ Ok (r, next))
Stands-again p start v end passed count force position here all h lt due =
    let parts = entry-parts p start v end passed count force position here all h lt in
    let again = times-again (occurrence_kind p) count (count_at p passed) h.mid h.behind h.held here (parts.here, parts.next) due parts.times_read h.reads in
    (again.0, again.1, sym (kind_at p start passed count force position here h) ∙ again.2)

-- a place among the occurrences, whatever is in force there
pub record StandsAt (p : PostedTerm) (start : Cursor) (passed count : ℕ) : Type 0 where
  pub force : ℕ
  pub position : ℕ
  pub here : Cursor
  pub stands : StandsIn p start passed count force position here

pub Stands-within : (p : PostedTerm) (start : Cursor) (v : List (List Occurrence)) (end : Cursor) (passed : ℕ) → read_plan (term_plan p) start ≡ Ok (v, end) → StandsAt p start passed 0 → passed < p.term.info.doc_freq
    → (n : ℕ) → n ≤ count_at p passed → StandsAt p start passed n
Stands-within p start v end passed all at lt zero le = at
Stands-within p start v end passed all at lt (suc n) le =
    let s = Stands-within p start v end passed all at lt n (omega arith) in
    let again = Stands-again p start v end passed n s.force s.position s.here all s.stands lt (omega arith) in
    let more = Stands-more p start passed n s.force s.position s.here again.0 again.1 s.stands again.2 in
    record {
      force = length_after s.force again.0;
      position = s.position + position_gap p.term.rules.payloads again.0.delta;
      here = again.1;
      stands = subst (λ (m : ℕ). StandsIn p start passed m (length_after s.force again.0) (s.position + position_gap p.term.rules.payloads again.0.delta) again.1) (add-one n) more;
    }

-- a place before an entry, or at the end
pub record StandsFirst (p : PostedTerm) (start : Cursor) (passed : ℕ) : Type 0 where
  pub force : ℕ
  pub here : Cursor
  pub stands : StandsIn p start passed 0 force 0 here

-- there is one before each entry, and one at the end
pub Stands-upto : (p : PostedTerm) (start : Cursor) (v : List (List Occurrence)) (end : Cursor) → read_plan (term_plan p) start ≡ Ok (v, end) → (n : ℕ) → n ≤ p.term.info.doc_freq → StandsFirst p start n
Stands-upto p start v end all zero le = record { force = 0; here = start; stands = Stands-none p start }
Stands-upto p start v end all (suc n) le =
    let before = Stands-upto p start v end all n (omega arith) in
    let s = Stands-within p start v end n all (record { force = before.force; position = 0; here = before.here; stands = before.stands }) (omega arith) (count_at p n) (omega arith) in
    record {
      force = s.force;
      here = s.here;
      stands = subst (λ (m : ℕ). StandsIn p start m 0 s.force 0 s.here) (add-one n) (Stands-closed p start n (count_at p n) s.force s.position s.here s.stands refl);
    }

-- the first occurrence of a term that is good starts at the term's place
pub term-starts : (p : PostedTerm) (start : Cursor) (v : List (List Occurrence)) (end : Cursor) → read_plan (term_plan p) start ≡ Ok (v, end) → 0 < p.term.info.doc_freq → 0 < count_at p 0 → start.place ≡ p.term.info.prox
term-starts p start v end all some due =
    let h = Stands-none p start in
    let again = Stands-again p start v end 0 0 0 0 start all h some due in
    let conditions : OccurrenceRecord → List Condition = λ r. occurrence_conditions p (due_with (0 == 0) 0 0 0 start.place) r.delta in
    let kept = all_unbroken (conditions again.0) (record_at-kept (occurrence_shape p.term.rules.payloads 0) conditions start again.0 again.1 again.2) in
    same-of start.place p.term.info.prox kept.0
