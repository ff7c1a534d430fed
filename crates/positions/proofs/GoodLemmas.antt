-- What the occurrences of a good term are known to be.
use Rattle.std.proofs.Common.{◌≡◌, ℕ, zero, suc, add-zero, ◌+◌, ◌-◌, ◌^◌, ◌<◌, ◌≤◌, Bool, true, false, ◌==◌, List, [], ◌∷◌, ◌++◌, length, Option, Some, None, Result, Ok, Err, inl, inr, refl, sym, ap, subst, ◌∙◌, arith}
use Rattle.std.specs.Prelude.{slice_index_or, nat_le}
use Rattle.std.proofs.lemmas.Bool.{cases_lt}
use Rattle.std.proofs.lemmas.Bool.Decides.{nat_tests}
use Rattle.lu_grammar.specs.declared.bad.Bad.{Bad}
use Rattle.lu_grammar.specs.Bytes.{IsBytes, Cursor, place_in}
use Rattle.lu_grammar.specs.Parts.{num}
use Rattle.lu_grammar.specs.Reading.{◌>>=◌}
use Rattle.lu_grammar.specs.Records.{optional, Spells, read_shape, record_at}
use Rattle.lu_grammar.specs.Plans.{Plan, Kind, one, each, times, read_plan}
use Rattle.lu_grammar.proofs.Parts.{IsBytes-drop}
use Rattle.lu_grammar.proofs.Plans.{ok_of}
use Rattle.lu_grammar.proofs.Records.{same_pair, TakesRecord, read_shape-judges, ShapeJudges}
use Rattle.lu_grammar.proofs.Loops.{read_plan-and_then, then_ok, one-was}
use Rattle.lu_grammar.proofs.Codecs.{all_unbroken, record_at-was, read_plan-ReadsTo, IsBytes-after}
use Rattle.lu_types.specs.Occurrences.{Occurrence}
use Rattle.freq_skips.specs.declared.rules.RuledTerm.{RuledTerm}
use Rattle.freq_skips.specs.Records.{alone}
use Rattle.freq_skips.specs.Levels.{number_or}
use Rattle.freq_skips.specs.Entries.{no_posting}
use Rattle.freq_skips.specs.Terms.{TermData}
use Rattle.positions.specs.Records.{OccurrenceRecord, payload_shape, occurrence_shape, states_length, length_after, position_gap}
use Rattle.positions.specs.Occurrences.{PostedTerm, Held, occurrence_of, occurrence_conditions, due_of, occurrence_kind, count_at, entries_plan}
use Rattle.positions.specs.Terms.{term_plan}
use Rattle.positions.specs.Standing.{passed_kind, count_before, Skims}
use Rattle.positions.specs.Written.{last_position, AreGoodOccurrences}
use Rattle.positions.specs.Cursors.{StandsInBoth, posted_term}
use Rattle.positions.proofs.FrequencyLemmas.{count_at-kept}
use Rattle.positions.proofs.StandLemmas.{Stands-start}
use Rattle.positions.proofs.AgainLemmas.{EntryParts, entry-parts, Stands-upto}
use Rattle.positions.proofs.PassLemmas.{plain-stated, Skims-plain}
use Rattle.positions.proofs.ValueLemmas.{entry-is, entry-length, entry-kept}

-- what holds of a state and the place after it holds after each record of the kind
times-keeps-at : {S R : Type 0} (kind : Kind S R) (P : S → Cursor → Type 0) → ((s : S) (c : Cursor) (r : R) (d : Cursor) → P s c → record_at (kind.shape s) (kind.conditions s c.place) c ≡ Ok (r, d) → P (kind.after s c.place r) d)
    → (n : ℕ) (s : S) (c : Cursor) (m : S) (d : Cursor) → P s c → read_plan (times kind n s) c ≡ Ok (m, d) → P m d
unfolding each read_plan
times-keeps-at {S} kind P step zero s c m d here e = let same = same_pair s m c d e in subst (λ (x : Cursor). P m x) same.1 (subst (λ (x : S). P x c) same.0 here)
times-keeps-at {S} kind P step (suc n) s c m d here e =
    let both = then_ok (read_plan (one kind s) c) (λ x. read_plan (each (one kind) n x.0) x.1) (m, d) (sym (read_plan-and_then (one kind s) (each (one kind) n) c) ∙ e) in
    let was = one-was kind s c both.0 both.1 in
    let next : P both.0.0 both.0.1 = subst (λ (x : S). P x both.0.1) was.2 (step s c was.0 both.0.1 here was.1) in
    times-keeps-at kind P step n both.0.0 both.0.1 m d next both.2

-- what an occurrence is known to be that was read
record IsRead (force : ℕ) (r : OccurrenceRecord) (next : Cursor) : Type 0 where
  pub size : length r.payload ≡ length_after force r
  pub bytes : IsBytes r.payload
  pub small : force < 2 ^ 31 → length_after force r < 2 ^ 31
  pub rest : IsBytes next.rest

spelled-facts : (b : Bool) (force delta : ℕ) (r : OccurrenceRecord) (back : List ℕ) (next : Cursor) → IsBytes next.rest → Spells (optional b (alone num) (payload_shape force delta)) r back → IsRead force r next
spelled-facts true force delta r back next fits (n, after, few, same, (payload, end, (size, bytes), is, (made, none))) = subst (λ (x : OccurrenceRecord). IsRead force x next) made (record { size = size; bytes = bytes; small = λ h. few; rest = fits })
spelled-facts false force delta r back next fits (payload, end, (size, bytes), is, (made, none)) = subst (λ (x : OccurrenceRecord). IsRead force x next) made (record { size = size; bytes = bytes; small = λ h. h; rest = fits })

read-facts : (b : Bool) (force : ℕ) (here : Cursor) (r : OccurrenceRecord) (next : Cursor) → IsBytes here.rest → read_shape (occurrence_shape b force) here ≡ Ok (r, next) → IsRead force r next
read-facts b force here r next fits e =
    let h : TakesRecord (occurrence_shape b force) here r next = subst (λ (x : Result (OccurrenceRecord × Cursor) Bad). ShapeJudges (occurrence_shape b force) here x) e (read_shape-judges (occurrence_shape b force) here fits) in
    spelled-facts (states_length b h.spells.0) force h.spells.0 r h.spells.1 next h.fits h.spells.4

-- a length in force is small
forced-small : (b : Bool) (start : Cursor) (n force : ℕ) (here : Cursor) → IsBytes start.rest → Skims b start n force here → force < 2 ^ 31
forced-small b start n force here fits h =
    (times-keeps-at (passed_kind b) (λ f c. (f < 2 ^ 31) × IsBytes c.rest)
    (λ f c r d is e. let facts = read-facts b f c r d is.1 (record_at-was (occurrence_shape b f) (λ x. []) c r d e).0 in (facts.small is.0, facts.rest))
    n 0 start force here (omega arith, fits) h.reads).0

-- one occurrence more at the end of a document
document-more : (b : Bool) (last : ℕ) (os : List Occurrence) (o : Occurrence) → AreGoodOccurrences b last os → last_position last os ≤ o.position → o.position < 2 ^ 31 → length o.payload < 2 ^ 31 → IsBytes o.payload → (b ≡ false → o.payload ≡ []) → AreGoodOccurrences b last (os ++ o ∷ [])
document-more b last [] o is le small few bytes none = (le, small, few, bytes, none, tt)
document-more b last (x ∷ os) o (a, s, f, y, n, more) le small few bytes none = (a, s, f, y, n, document-more b x.position os o more le small few bytes none)

last_position-end : (last : ℕ) (os : List Occurrence) (o : Occurrence) → last_position last (os ++ o ∷ []) ≡ o.position
last_position-end last [] o = refl
last_position-end last (x ∷ os) o = last_position-end x.position os o

-- the occurrences of a document so far
record IsGoodSoFar (b : Bool) (s : Held) (c : Cursor) : Type 0 where
  pub document : AreGoodOccurrences b 0 s.now
  pub position : s.position ≡ last_position 0 s.now
  pub small : s.force < 2 ^ 31
  pub plain : b ≡ false → s.force ≡ 0
  pub bytes : IsBytes c.rest

empty : (bs : List ℕ) → length bs ≡ 0 → bs ≡ []
empty [] e = refl
empty (x ∷ bs) e = absurd (omega arith)

good-step : (p : PostedTerm) (s : Held) (c : Cursor) (r : OccurrenceRecord) (d : Cursor) → IsGoodSoFar p.term.rules.payloads s c → record_at ((occurrence_kind p).shape s) ((occurrence_kind p).conditions s c.place) c ≡ Ok (r, d)
    → IsGoodSoFar p.term.rules.payloads ((occurrence_kind p).after s c.place r) d
good-step p s c r d h e =
    let b = p.term.rules.payloads in
    let conditions = (occurrence_kind p).conditions s c.place in
    let was = record_at-was (occurrence_shape b s.force) conditions c r d e in
    let facts = read-facts b s.force c r d h.bytes was.0 in
    let kept = all_unbroken (occurrence_conditions p (due_of s c.place) r.delta) was.1 in
    let o = occurrence_of p.term s.position r in
    let small : o.position < 2 ^ 31 = below o.position kept.1.0 in
    let stated : b ≡ false → length_after s.force r ≡ 0 = λ is. ap (λ (x : Option ℕ). number_or s.force x) (plain-stated s.force c r d (subst (λ (x : Bool). read_shape (occurrence_shape x s.force) c ≡ Ok (r, d)) is was.0)) ∙ h.plain is in
    record {
      document = document-more b 0 s.now o h.document (omega (arith, h.position)) small (let few = facts.small h.small in omega (arith, facts.size)) facts.bytes (λ is. empty r.payload (facts.size ∙ stated is));
      position = sym (last_position-end 0 s.now o);
      small = facts.small h.small;
      plain = stated;
      bytes = facts.rest;
    }
  where
    below : (n : ℕ) → nat_le (2 ^ 31) n ≡ false → n < 2 ^ 31
    below n e = elim (cases_lt n (2 ^ 31)) [ inl lt ↦ lt | inr high ↦ let t : nat_le (2 ^ 31) n ≡ true = grind (arith, nat_tests) in absurd (cc) ]

-- the occurrences of an entry of a term that stands in both files
pub entry-good : (t : RuledTerm) (value : TermData) (prx : List ℕ) (occurrences : List (List Occurrence)) (k : ℕ) → IsBytes prx → StandsInBoth t value prx occurrences → t.rules.omit_tf ≡ false → k < t.info.doc_freq
    → AreGoodOccurrences t.rules.payloads 0 (slice_index_or occurrences k []) × (length (slice_index_or occurrences k []) ≡ (slice_index_or value.postings k no_posting).freq)
entry-good t value prx occurrences k fits good omit lt =
    let p = posted_term t value in
    let b = t.rules.payloads in
    let start = place_in prx t.info.prox in
    let bytes = IsBytes-drop t.info.prox prx fits in
    let all = read_plan-ReadsTo (term_plan p) start occurrences good.end good.reads in
    let first = Stands-upto p start occurrences good.end all k (omega arith) in
    let h = first.stands in
    let here = Stands-start p start k first.force 0 first.here h in
    let parts = entry-parts p start occurrences good.end k 0 first.force 0 first.here all h lt in
    let force : h.mid.force ≡ first.force = ap (λ (s : Held). s.force) here.0 ∙ h.force_is in
    let small = forced-small b start (count_before p k + 0) first.force first.here bytes h.skims in
    let begun : IsGoodSoFar b h.mid h.behind = record {
      document = subst (λ (l : List Occurrence). AreGoodOccurrences b 0 l) (sym h.fresh) tt;
      position = ap (λ (s : Held). s.position) here.0 ∙ h.position_is ∙ ap (last_position 0) (sym h.fresh);
      small = omega arith;
      plain = λ is. force ∙ Skims-plain start (count_before p k + 0) first.force first.here (subst (λ (x : Bool). Skims x start (count_before p k + 0) first.force first.here) is h.skims);
      bytes = IsBytes-after (entries_plan p k) start h.mid h.behind bytes h.entries_read;
    } in
    let read = times-keeps-at (occurrence_kind p) (IsGoodSoFar b) (good-step p) (count_at p k) h.mid h.behind parts.here parts.next begun parts.times_read in
    let is = entry-is p start occurrences good.end k h.mid h.behind parts h.begun (entry-kept p (count_at p k) h.mid h.behind parts.here parts.next parts.times_read) in
    (subst (λ (l : List Occurrence). AreGoodOccurrences b 0 l) (sym is) read.document, entry-length p start occurrences good.end k all lt ∙ count_at-kept p k omit)
