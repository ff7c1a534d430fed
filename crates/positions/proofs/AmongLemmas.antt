-- A cursor over the occurrences of a term: begun, led on to an entry, and moved to the next occurrence.
use Rattle.std.proofs.Common.{◌≡◌, ℕ, zero, suc, add-one, add-zero, ◌+◌, ◌-◌, ◌*◌, ◌^◌, ◌<◌, ◌≤◌, Bool, true, false, List, [], ◌∷◌, length, drop, Ok, Err, ◌⊎◌, inl, inr, refl, sym, ap, subst, ◌∙◌, arith}
use Rattle.std.specs.Prelude.{slice_index_or, min}
use Rattle.lu_grammar.specs.declared.bad.Bad.{Bad}
use Rattle.lu_grammar.specs.Bytes.{IsBytes, Cursor, place_in}
use Rattle.lu_grammar.specs.Records.{read_shape}
use Rattle.lu_grammar.specs.Plans.{read_plan}
use Rattle.lu_grammar.proofs.Codecs.{read_plan-ReadsTo}
use Rattle.lu_types.specs.Occurrences.{Occurrence}
use Rattle.freq_skips.specs.declared.rules.RuledTerm.{RuledTerm}
use Rattle.freq_skips.specs.declared.skip_point.SkipPoint.{SkipPoint}
use Rattle.freq_skips.specs.Points.{IsPoint}
use Rattle.freq_skips.specs.Terms.{TermData}
use Rattle.positions.specs.Records.{OccurrenceRecord, occurrence_shape, position_gap, length_after}
use Rattle.positions.specs.Occurrences.{PostedTerm, occurrence_of, count_at}
use Rattle.positions.specs.Terms.{term_plan}
use Rattle.positions.specs.Standing.{count_before, Skims, StandsIn, PassesOver}
use Rattle.positions.specs.Cursors.{CursorState, StandsInBoth, Agrees, StandsAtEntry, StandsAmong, StandsWith, IsAmong, posted_term}
use Rattle.positions.proofs.StandLemmas.{Skims-as}
use Rattle.positions.proofs.AgainLemmas.{StandsFirst, Stands-upto}
use Rattle.positions.proofs.ValueLemmas.{entry-length}
use Rattle.positions.proofs.PlaceLemmas.{point-within, point-leads}
use Rattle.positions.proofs.CursorLemmas.{pass-leads, StandsWith-made}
use Rattle.positions.proofs.SeenLemmas.{taken-next, taken-never}

-- the occurrences of the term are read from its start
term-read : (t : RuledTerm) (value : TermData) (prx : List ℕ) (occurrences : List (List Occurrence)) (good : StandsInBoth t value prx occurrences) → read_plan (term_plan (posted_term t value)) (place_in prx t.info.prox) ≡ Ok (occurrences, good.end)
term-read t value prx occurrences good = read_plan-ReadsTo (term_plan (posted_term t value)) (place_in prx t.info.prox) occurrences good.end good.reads

pub among-begun : (t : RuledTerm) (value : TermData) (occurrences : List (List Occurrence)) (point : SkipPoint) (c : CursorState) → IsBytes c.prx → StandsInBoth t value c.prx occurrences → IsPoint t value point → c.term ≡ t → c.left ≡ 0
    → (t.rules.omit_tf ≡ false → c.here ≡ place_in c.prx point.prox)
    → (t.rules.omit_tf ≡ false → (count force : ℕ) → Skims t.rules.payloads (place_in c.prx t.info.prox) count force (place_in c.prx point.prox) → Agrees t.rules.payloads c.force force (place_in c.prx point.prox))
    → IsAmong t value occurrences point.passed [] c
among-begun t value occurrences point c fits good is term left place agrees = record {
  term_is = term;
  good = good;
  count = left;
  within = point-within t value c.prx occurrences point good is;
  stands = λ omit.
      let p = posted_term t value in
      let start = place_in c.prx t.info.prox in
      let leads = point-leads t value c.prx occurrences point fits good omit is in
      let first = leads.first in
      let skims = subst (λ (d : Cursor). Skims t.rules.payloads start (count_before p point.passed + 0) first.force d) leads.here first.stands.skims in
      record {
        force = first.force;
        position = 0;
        stands = subst (λ (d : Cursor). StandsIn p start point.passed 0 first.force 0 d) (leads.here ∙ sym (place omit)) first.stands;
        agrees = subst (λ (d : Cursor). Agrees t.rules.payloads c.force first.force d) (sym (place omit)) (agrees omit (count_before p point.passed + 0) first.force skims);
      };
}

-- the cursor behind what was left of the open entry
behind-open : (t : RuledTerm) (value : TermData) (occurrences : List (List Occurrence)) (passed : ℕ) (left : List Occurrence) (c : CursorState) (force : ℕ) (behind : Cursor) → t.rules.omit_tf ≡ false → IsAmong t value occurrences passed left c
    → (first : StandsFirst (posted_term t value) (place_in c.prx t.info.prox) passed) → PassesOver t.rules.payloads c.left c.force c.here force behind → (behind ≡ first.here) × Agrees t.rules.payloads force first.force first.here
behind-open t value occurrences passed [] c force behind omit h first passes =
    let p = posted_term t value in
    let start = place_in c.prx t.info.prox in
    let s = h.stands omit in
    pass-leads t.rules.payloads start (count_before p passed + 0) (count_before p passed + 0) c.left c.force s.force first.force c.here first.here force behind s.stands.skims s.agrees first.stands.skims (omega (arith, h.count)) passes
behind-open t value occurrences passed (o ∷ os) c force behind omit h first passes =
    let p = posted_term t value in
    let start = place_in c.prx t.info.prox in
    let s = h.stands in
    let next : count_before p passed ≡ count_before p s.entry + count_at p s.entry = (let at : passed ≡ suc s.entry = s.passed_is ∙ add-one s.entry in ap (count_before p) at) in
    let sum : count_before p s.entry + s.count + c.left ≡ count_before p passed + 0 = omega (arith, h.count, s.due, next) in
    pass-leads t.rules.payloads start (count_before p s.entry + s.count) (count_before p passed + 0) c.left c.force s.force first.force c.here first.here force behind s.stands.skims s.agrees first.stands.skims sum passes

pub among-opened : (t : RuledTerm) (value : TermData) (occurrences : List (List Occurrence)) (passed entry skip freq : ℕ) (left : List Occurrence) (c new : CursorState) (force : ℕ) (behind : Cursor) → IsAmong t value occurrences passed left c → t.rules.omit_tf ≡ false
    → passed ≤ entry → entry < t.info.doc_freq → count_before (posted_term t value) entry ≡ count_before (posted_term t value) passed + skip → freq ≡ count_at (posted_term t value) entry
    → PassesOver t.rules.payloads c.left c.force c.here force behind → PassesOver t.rules.payloads skip force behind new.force new.here → new.term ≡ c.term → new.prx ≡ c.prx → new.position ≡ 0 → new.left ≡ freq
    → IsAmong t value occurrences (entry + 1) (slice_index_or occurrences entry []) new
among-opened t value occurrences passed entry skip freq left c new force behind h omit le lt sum is first second term prx position count =
    let p = posted_term t value in
    let start = place_in c.prx t.info.prox in
    let all = term-read t value c.prx occurrences h.good in
    let at = Stands-upto p start occurrences h.good.end all passed (omega arith) in
    let to = Stands-upto p start occurrences h.good.end all entry (omega arith) in
    let open_passed = behind-open t value occurrences passed left c force behind omit h at first in
    let passes = subst (λ (d : Cursor). PassesOver t.rules.payloads skip force d new.force new.here) open_passed.0 second in
    let there = pass-leads t.rules.payloads start (count_before p passed + 0) (count_before p entry + 0) skip force at.force to.force at.here to.here new.force new.here at.stands.skims open_passed.1 to.stands.skims (omega (arith, sum)) passes in
    let size = entry-length p start occurrences h.good.end entry all lt in
    record {
      term_is = term ∙ h.term_is;
      good = subst (λ (x : List ℕ). StandsInBoth t value x occurrences) (sym prx) h.good;
      count = count ∙ is ∙ sym size;
      within = omega arith;
      stands = StandsWith-made p occurrences new entry 0 to.force (slice_index_or occurrences entry [])
          (subst (λ (x : List ℕ). StandsIn p (place_in x t.info.prox) entry 0 to.force new.position new.here) (sym prx)
          (subst (λ (q : ℕ). StandsIn p start entry 0 to.force q new.here) (sym position) (subst (λ (d : Cursor). StandsIn p start entry 0 to.force 0 d) (sym there.0) to.stands)))
          (subst (λ (d : Cursor). Agrees t.rules.payloads new.force to.force d) (sym there.0) there.1)
          lt (omega (arith, size)) refl;
    }

-- the next occurrence
pub among-next : (t : RuledTerm) (value : TermData) (occurrences : List (List Occurrence)) (passed : ℕ) (left : List Occurrence) (c new : CursorState) (r : OccurrenceRecord) → IsAmong t value occurrences passed left c → 0 < c.left
    → read_shape (occurrence_shape t.rules.payloads c.force) c.here ≡ Ok (r, new.here) → new.force ≡ length_after c.force r → new.term ≡ c.term → new.prx ≡ c.prx → new.left + 1 ≡ c.left
    → (new.position ≡ min (c.position + position_gap t.rules.payloads r.delta) 4294967295)
    → (rest : List Occurrence) × (left ≡ (record { position = new.position; payload = r.payload }) ∷ rest) × IsAmong t value occurrences passed rest new
among-next t value occurrences passed [] c new r h some read force term prx count position = absurd (omega (arith, h.count))
among-next t value occurrences passed (o ∷ os) c new r h some read force term prx count position =
    let p = posted_term t value in
    let start = place_in c.prx t.info.prox in
    let s = h.stands in
    let all = term-read t value c.prx occurrences h.good in
    let taken = taken-next p start occurrences h.good.end s.entry s.count c.force s.force c.position c.here r new.here all s.stands s.agrees s.within (omega (arith, s.due)) read in
    let gap = position_gap t.rules.payloads r.delta in
    let same : new.position ≡ c.position + gap = omega (arith, taken.small, position) in
    let rest = drop (s.count + 1) (slice_index_or occurrences s.entry []) in
    let seen = occurrence_of t c.position r in
    let lists : o ∷ os ≡ seen ∷ rest = sym s.left_is ∙ taken.is in
    let tail : os ≡ rest = cc in
    let stands = StandsWith-made p occurrences new s.entry (s.count + 1) new.force rest
    (subst (λ (x : List ℕ). StandsIn p (place_in x t.info.prox) s.entry (s.count + 1) new.force new.position new.here) (sym prx)
    (subst (λ (q : ℕ). StandsIn p start s.entry (s.count + 1) new.force q new.here) (sym same) (subst (λ (f : ℕ). StandsIn p start s.entry (s.count + 1) f (c.position + gap) new.here) (sym force) taken.stands)))
    (inl refl) s.within (omega (arith, s.due, ap length tail)) refl in (
      rest,
      lists ∙ ap (λ (q : ℕ). (record { position = q; payload = r.payload }) ∷ rest) (sym same),
      record {
        term_is = term ∙ h.term_is;
        good = subst (λ (x : List ℕ). StandsInBoth t value x occurrences) (sym prx) h.good;
        count = omega (arith, h.count, ap length tail);
        within = h.within;
        stands = subst (λ (n : ℕ). StandsWith p occurrences n rest new) (sym s.passed_is) stands;
      },
    )

-- it is read
pub among-never : (t : RuledTerm) (value : TermData) (occurrences : List (List Occurrence)) (passed : ℕ) (left : List Occurrence) (c : CursorState) (bad : Bad) → IsAmong t value occurrences passed left c → 0 < c.left
    → read_shape (occurrence_shape t.rules.payloads c.force) c.here ≡ Err bad → ⊥
among-never t value occurrences passed [] c bad h some unread = omega (arith, h.count)
among-never t value occurrences passed (o ∷ os) c bad h some unread =
    let p = posted_term t value in
    let s = h.stands in
    taken-never p (place_in c.prx t.info.prox) occurrences h.good.end s.entry s.count c.force s.force c.position c.here bad (term-read t value c.prx occurrences h.good) s.stands s.agrees s.within (omega (arith, s.due)) unread
