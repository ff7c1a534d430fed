-- The occurrences of a term in their written form are read as these, and meet the skip data that tell their places.
use Rattle.std.proofs.Common.{◌≡◌, ℕ, zero, suc, add-one, add-zero, ◌+◌, ◌-◌, ◌*◌, ◌/◌, ◌%◌, ◌^◌, ◌<◌, ◌≤◌, Bool, true, false, not, ◌||◌, ◌&&◌, ◌==◌, if◌then◌else◌, List, [], ◌∷◌, ◌++◌, length, take, get_or, Option, Some, None, inl, inr, refl, sym, ap, subst, ◌∙◌, append_assoc, arith}
use Rattle.std.specs.Prelude.{slice_index_or}
use Rattle.std.proofs.lemmas.List.{append-nil, length-append, length-take-le, take_all}
use Rattle.std.proofs.lemmas.Grind.{flat_map-append}
use Rattle.std.proofs.lemmas.Bool.{cases_eq}
use Rattle.std.proofs.lemmas.Bool.Decides.{nat_tests}
use Rattle.std.proofs.Math.Seq.{take-suc}
use Rattle.lu_grammar.specs.Bytes.{IsBytes}
use Rattle.lu_grammar.specs.Records.{first_broken}
use Rattle.lu_grammar.specs.Plans.{done, one, times, each}
use Rattle.lu_grammar.proofs.Codecs.{Writes, Writes-none, Writes-done, Writes-and_then, Writes-turn}
use Rattle.lu_types.specs.Occurrences.{Occurrence}
use Rattle.freq_skips.specs.Levels.{level_count, stride, data_count}
use Rattle.freq_skips.specs.Entries.{no_posting}
use Rattle.freq_skips.specs.Walks.{point_at}
use Rattle.freq_skips.specs.Records.{is_odd}
use Rattle.freq_skips.proofs.Powers.{power-pos, quotient-below, multiple-next, multiple-index}
use Rattle.positions.specs.Records.{OccurrenceRecord, position_gap}
use Rattle.positions.specs.Occurrences.{PostedTerm, Held, nothing_held, closed, any_below, has_datum, datum_at, tells_other_sum, is_misled, due_with, occurrence_conditions, occurrence_kind, count_at, entry_plan, entries_plan}
use Rattle.positions.specs.Terms.{term_plan}
use Rattle.positions.specs.Written.{written_record, record_bytes, document_occurrence_bytes, occurrences_bytes, last_length, last_position, AreGoodOccurrences, IsHanded}
use Rattle.positions.proofs.LevelTests.{any_below-none, other-none, other-false}
use Rattle.positions.proofs.FrequencyLemmas.{count_at-kept}
use Rattle.positions.proofs.WrittenRecords.{written-stated, written-gap}
use Rattle.positions.proofs.WrittenDocuments.{HasWritten, first-none, one-written, rest-written}

pub occurrences_bytes-more : (payloads : Bool) (entries : List (List Occurrence)) (d : List Occurrence) → occurrences_bytes payloads (entries ++ d ∷ []) ≡ occurrences_bytes payloads entries ++ document_occurrence_bytes payloads None 0 d
unfolding occurrences_bytes
occurrences_bytes-more payloads entries d = flat_map-append (λ os. document_occurrence_bytes payloads None 0 os) entries (d ∷ []) ∙ ap (λ (l : List ℕ). occurrences_bytes payloads entries ++ l) (append-nil (document_occurrence_bytes payloads None 0 d))

pub occurrences_bytes-none : (payloads : Bool) → occurrences_bytes payloads [] ≡ []
unfolding occurrences_bytes
occurrences_bytes-none payloads = refl

and-misled : (a : Bool) (b : Bool) → a ≡ false → a && b ≡ false
and-misled a b e = ap (λ (x : Bool). x && b) e

module _ (p : PostedTerm) (place : ℕ) (entries : List (List Occurrence)) (h : IsHanded p place entries) where
  -- the bytes of so many entries
  abbrev front : ℕ → List ℕ
  front k = occurrences_bytes p.term.rules.payloads (take k entries)

  -- the data for an entry tell where it stands
  sums-told : (k : ℕ) → k < length entries → any_below (tells_other_sum p (k + 1) (place + length (front k) - p.term.info.prox)) (level_count p.term) ≡ false
  sums-told k lt = any_below-none (tells_other_sum p (k + 1) (place + length (front k) - p.term.info.prox)) (level_count p.term) (λ level below. elim (cases_eq ((k + 1) % stride p.term level) 0) [
    | inr ne ↦ let none : has_datum p.term (k + 1) level ≡ false = grind (arith, nat_tests) in other-none (has_datum p.term (k + 1) level) (datum_at p (k + 1) level).prox (place + length (front k) - p.term.info.prox) none
    | inl e ↦
        let s = stride p.term level in
        let pos : 0 < s = power-pos p.term.rules.skip_interval (suc level) h.interval in
        let within : k < p.term.info.doc_freq = omega (arith, h.count) in
        let told = h.sums level (k / s) below (quotient-below k s p.term.info.doc_freq pos e within) in
        let index : suc (k / s) * s - 1 ≡ k = multiple-index k s (k / s) pos e refl ∙ omega arith in
        let number : (k + 1) / s - 1 ≡ k / s = ap (λ (n : ℕ). n - 1) (multiple-next k s pos e) ∙ omega arith in
        let sum : length (front k) ≡ place + length (front k) - p.term.info.prox = omega (arith, h.starts) in
        other-false (has_datum p.term (k + 1) level) (datum_at p (k + 1) level).prox (place + length (front k) - p.term.info.prox)
        (ap (λ (n : ℕ). (point_at p.value level n).prox) number ∙ told ∙ ap (λ (n : ℕ). length (front n)) index ∙ sum)
  ])

  -- the first occurrence of an entry breaks no rule
  first-good : (k force : ℕ) (o : Occurrence) → k < length entries → o.position < 2 ^ 31
      → first_broken (occurrence_conditions p (due_with true k force 0 (place + length (front k))) (written_record p.term.rules.payloads None 0 o).delta) ≡ None
  first-good k force o lt small =
      let b = p.term.rules.payloads in
      let gap = o.position - 0 in
      let delta = (written_record b None 0 o).delta in
      let starts : (k == 0) && not (place + length (front k) == p.term.info.prox) ≡ false = start-good k in
      let misled = and-misled (b && not (is_odd delta)) _ (written-stated b gap o.payload) in
      first-none p k force (place + length (front k)) delta starts (omega (arith, written-gap b None gap o.payload)) (sums-told k lt) misled
    where
      start-good : (k : ℕ) → (k == 0) && not (place + length (front k) == p.term.info.prox) ≡ false
      start-good zero = let same : (place + length (front 0) == p.term.info.prox) ≡ true = let e = ap length (occurrences_bytes-none p.term.rules.payloads) in grind (arith, nat_tests, h.starts) in ap not same
      start-good (suc k) = let t : (suc k == 0) ≡ false = grind (arith, nat_tests) in ap (λ (b : Bool). b && not (place + length (front (suc k)) == p.term.info.prox)) t

  -- so many entries are written
  record EntriesWritten (k : ℕ) : Type 0 where
    pub held : Held
    pub writes : Writes (entries_plan p k) place (front k) held
    pub before_is : held.before ≡ take k entries
    pub now_is : held.now ≡ []
    pub position_is : held.position ≡ 0
    pub plain : p.term.rules.payloads ≡ false → held.force ≡ 0

  none-written : EntriesWritten 0
  none-written = record {
    held = nothing_held;
    writes = subst (λ (l : List ℕ). Writes (entries_plan p 0) place l nothing_held) (sym (occurrences_bytes-none p.term.rules.payloads)) (Writes-none (entry_plan p) place nothing_held);
    before_is = refl;
    now_is = refl;
    position_is = refl;
    plain = λ e. refl;
  }

  -- the document of the next entry, after those
  document-written : (k : ℕ) (s : Held) → k < length entries → s.now ≡ [] → s.position ≡ 0 → length s.before ≡ k → (p.term.rules.payloads ≡ false → s.force ≡ 0) → (os : List Occurrence) → AreGoodOccurrences p.term.rules.payloads 0 os → 0 < length os
      → HasWritten p s (place + length (front k)) (length os) (document_occurrence_bytes p.term.rules.payloads None 0 os) (last_length None os) (last_position 0 os) os
  document-written k s lt now position before plain [] is some = absurd (omega arith)
  document-written k s lt now position before plain (o ∷ os) (le, small, few, fits, none, more) some =
      let b = p.term.rules.payloads in
      let at = place + length (front k) in
      let start : HasWritten p s at 0 [] None 0 [] = record { held = s; writes = Writes-none (one (occurrence_kind p)) at s; before_is = inl refl; plain = plain; position_is = position; now_is = now; kept = refl } in
      let delta = (written_record b None 0 o).delta in
      let good : first_broken (occurrence_conditions p (due_with (length s.now == 0) (length s.before) s.force s.position (at + 0)) delta) ≡ None =
      ap (λ (l : List Occurrence). first_broken (occurrence_conditions p (due_with (length l == 0) (length s.before) s.force s.position (at + 0)) delta)) now
      ∙ ap (λ (n : ℕ). first_broken (occurrence_conditions p (due_with true n s.force s.position (at + 0)) delta)) before
      ∙ ap (λ (n : ℕ). first_broken (occurrence_conditions p (due_with true k s.force n (at + 0)) delta)) position
      ∙ ap (λ (n : ℕ). first_broken (occurrence_conditions p (due_with true k s.force 0 n) delta)) (add-zero at)
      ∙ first-good k s.force o lt small in
      let first = one-written p s at 0 [] None 0 [] o start le small few fits none good in
      let rest = rest-written p s at os (0 + 1) ([] ++ record_bytes (written_record b None 0 o)) (Some (length o.payload)) o.position ([] ++ o ∷ []) first (omega arith) more in
      subst (λ (n : ℕ). HasWritten p s at n (document_occurrence_bytes b None 0 (o ∷ os)) (last_length None (o ∷ os)) (last_position 0 (o ∷ os)) (o ∷ os)) (let e : 0 + 1 + length os ≡ suc (length os) = omega arith in e) rest

  more-written : (k : ℕ) → k < length entries → EntriesWritten k → EntriesWritten (suc k)
  more-written k lt w =
      let b = p.term.rules.payloads in
      let d = slice_index_or entries k [] in
      let at = place + length (front k) in
      let before : length w.held.before ≡ k = ap length w.before_is ∙ length-take-le k entries (omega arith) in
      let doc = document-written k w.held lt w.now_is w.position_is before w.plain d (h.documents k lt) (h.some k lt) in
      let within : k < p.term.info.doc_freq = omega (arith, h.count) in
      let due : count_at p (length w.held.before) ≡ length d = ap (count_at p) before ∙ count_at-kept p k h.kept ∙ h.frequencies k within in
      let turn : Writes (entry_plan p w.held) at (document_occurrence_bytes b None 0 d ++ []) (closed doc.held) =
      Writes-and_then (times (occurrence_kind p) (count_at p (length w.held.before)) w.held) (λ held. done (closed held)) at (document_occurrence_bytes b None 0 d) [] doc.held (closed doc.held)
      (subst (λ (n : ℕ). Writes (times (occurrence_kind p) n w.held) at (document_occurrence_bytes b None 0 d) doc.held) (sym due) doc.writes) (Writes-done (at + length (document_occurrence_bytes b None 0 d)) (closed doc.held)) in
      let listed : take (suc k) entries ≡ take k entries ++ d ∷ [] = take-suc entries k [] lt in
      let bytes : front (suc k) ≡ front k ++ document_occurrence_bytes b None 0 d = ap (occurrences_bytes b) listed ∙ occurrences_bytes-more b (take k entries) d in
      let made : Writes (entries_plan p (k + 1)) place (front k ++ document_occurrence_bytes b None 0 d) (closed doc.held) =
      Writes-turn (entry_plan p) nothing_held place k (front k) w.held (document_occurrence_bytes b None 0 d) (closed doc.held) w.writes
      (subst (λ (l : List ℕ). Writes (entry_plan p w.held) at l (closed doc.held)) (append-nil (document_occurrence_bytes b None 0 d)) turn) in
      record {
        held = closed doc.held;
        writes = subst (λ (l : List ℕ). Writes (entries_plan p (suc k)) place l (closed doc.held)) (sym bytes) (subst (λ (n : ℕ). Writes (entries_plan p n) place (front k ++ document_occurrence_bytes b None 0 d) (closed doc.held)) (add-one k) made);
        before_is = ap (λ (l : List (List Occurrence)). l ++ doc.held.now ∷ []) (doc.kept ∙ w.before_is) ∙ ap (λ (l : List Occurrence). take k entries ++ l ∷ []) doc.now_is ∙ sym listed;
        now_is = refl;
        position_is = refl;
        plain = doc.plain;
      }

  all-written : (k : ℕ) → k ≤ length entries → EntriesWritten k
  all-written zero le = none-written
  all-written (suc k) le = more-written k (omega arith) (all-written k (omega arith))

  -- the term
  pub term-written : Writes (term_plan p) place (occurrences_bytes p.term.rules.payloads entries) entries
  term-written =
      let w = all-written (length entries) (omega arith) in
      let whole : take (length entries) entries ≡ entries = take_all (length entries) entries (omega arith) in
      let bytes = ap (occurrences_bytes p.term.rules.payloads) whole in
      let made : Writes (term_plan p) place (front (length entries) ++ []) w.held.before =
      Writes-and_then (entries_plan p p.term.info.doc_freq) (λ s. done s.before) place (front (length entries)) [] w.held w.held.before
      (subst (λ (n : ℕ). Writes (entries_plan p n) place (front (length entries)) w.held) h.count w.writes) (Writes-done (place + length (front (length entries))) w.held.before) in
      subst (λ (v : List (List Occurrence)). Writes (term_plan p) place (occurrences_bytes p.term.rules.payloads entries) v) (w.before_is ∙ whole)
      (subst (λ (l : List ℕ). Writes (term_plan p) place l w.held.before) (append-nil (front (length entries)) ∙ bytes) made)
