-- The occurrences of a document in their written form are read as these.
use Rattle.std.proofs.Common.{◌≡◌, ℕ, zero, suc, ◌+◌, ◌-◌, ◌^◌, ◌<◌, ◌≤◌, Bool, true, false, not, ◌&&◌, ◌==◌, List, [], ◌∷◌, ◌++◌, length, Option, Some, None, inl, inr, refl, sym, ap, subst, ◌∙◌, append_assoc, arith}
use Rattle.std.specs.Prelude.{nat_le}
use Rattle.std.proofs.lemmas.List.{append-nil, length-append}
use Rattle.std.proofs.lemmas.Bool.Decides.{nat_tests}
use Rattle.lu_grammar.specs.Bytes.{IsBytes}
use Rattle.lu_grammar.specs.Records.{first_broken}
use Rattle.lu_grammar.specs.Plans.{one, times}
use Rattle.lu_grammar.proofs.Codecs.{Writes, Writes-none, Writes-record}
use Rattle.lu_types.specs.Occurrences.{Occurrence}
use Rattle.freq_skips.specs.Records.{is_odd}
use Rattle.freq_skips.specs.Levels.{level_count}
use Rattle.positions.specs.Records.{OccurrenceRecord, position_gap}
use Rattle.positions.specs.Occurrences.{PostedTerm, Held, occurrence_of, with_occurrence, any_below, tells_other_sum, is_misled, due_with, due_of, occurrence_conditions, occurrence_kind}
use Rattle.positions.specs.Written.{written_parts, written_record, record_bytes, document_occurrence_bytes, last_length, last_position, AreGoodOccurrences}
use Rattle.positions.proofs.WrittenRecords.{IsBefore, written-spells, written-force, written-payload, written-gap}

-- a position in its limit
low : (n : ℕ) → n < 2 ^ 31 → nat_le (2 ^ 31) n ≡ false
low n lt = grind (arith, nat_tests)

-- an occurrence that is not the first of its entry
later-none : (p : PostedTerm) (first : Bool) (index force position place delta : ℕ) → first ≡ false → position + position_gap p.term.rules.payloads delta < 2 ^ 31 → first_broken (occurrence_conditions p (due_with first index force position place) delta) ≡ None
later-none p true index force position place delta e lt = absurd (cc)
later-none p false index force position place delta e lt = rw (low (position + position_gap p.term.rules.payloads delta) lt) refl

-- one that is
pub first-none : (p : PostedTerm) (index force place delta : ℕ) → (index == 0) && not (place == p.term.info.prox) ≡ false → 0 + position_gap p.term.rules.payloads delta < 2 ^ 31
    → any_below (tells_other_sum p (index + 1) (place - p.term.info.prox)) (level_count p.term) ≡ false → is_misled p (index + 1) force delta ≡ false
    → first_broken (occurrence_conditions p (due_with true index force 0 place) delta) ≡ None
first-none p index force place delta start lt sums misled = rw (start, low (0 + position_gap p.term.rules.payloads delta) lt, sums, misled) refl

-- so many occurrences are written, and these are held
pub record HasWritten (p : PostedTerm) (first : Held) (place n : ℕ) (bytes : List ℕ) (before : Option ℕ) (last : ℕ) (now : List Occurrence) : Type 0 where
  pub held : Held
  pub writes : Writes (times (occurrence_kind p) n first) place bytes held
  pub before_is : IsBefore before held.force
  pub plain : p.term.rules.payloads ≡ false → held.force ≡ 0
  pub position_is : held.position ≡ last
  pub now_is : held.now ≡ now
  pub kept : held.before ≡ first.before

module _ (p : PostedTerm) (first : Held) (place : ℕ) where
  -- one more
  pub one-written : (n : ℕ) (bytes : List ℕ) (before : Option ℕ) (last : ℕ) (now : List Occurrence) (o : Occurrence) (h : HasWritten p first place n bytes before last now) → last ≤ o.position → o.position < 2 ^ 31 → length o.payload < 2 ^ 31 → IsBytes o.payload
      → (p.term.rules.payloads ≡ false → o.payload ≡ [])
      → first_broken (occurrence_conditions p (due_of h.held (place + length bytes)) (written_record p.term.rules.payloads before last o).delta) ≡ None
      → HasWritten p first place (n + 1) (bytes ++ record_bytes (written_record p.term.rules.payloads before last o)) (Some (length o.payload)) o.position (now ++ o ∷ [])
  one-written n bytes before last now o h le small few fits none good =
      let b = p.term.rules.payloads in
      let gap = o.position - last in
      let r = written_parts b before gap o.payload in
      let same : b ≡ false → length o.payload ≡ h.held.force = λ e. ap length (none e) ∙ sym (h.plain e) in
      let spells = written-spells b h.held.force before gap o.payload h.before_is (omega arith) few fits same in
      let force = written-force b h.held.force before gap o.payload h.before_is same in
      let position : h.held.position + position_gap b r.delta ≡ o.position = ap (λ (g : ℕ). h.held.position + g) (written-gap b before gap o.payload) ∙ omega (arith, h.position_is) in
      let made : ℕ → List ℕ → Occurrence = λ q l. record { position = q; payload = l } in
      let seen : occurrence_of p.term h.held.position r ≡ o = ap (λ (q : ℕ). made q r.payload) position ∙ ap (λ (l : List ℕ). made o.position l) (written-payload b before gap o.payload) in
      record {
        held = with_occurrence p.term h.held r;
        writes = Writes-record (occurrence_kind p) first place n bytes h.held r (record_bytes r) h.writes spells good;
        before_is = inr (ap (λ (n : ℕ). Some n) (sym force));
        plain = λ e. force ∙ ap length (none e);
        position_is = position;
        now_is = ap (λ (l : List Occurrence). l ++ occurrence_of p.term h.held.position r ∷ []) h.now_is ∙ ap (λ (x : Occurrence). now ++ x ∷ []) seen;
        kept = h.kept;
      }

  -- and all that are left of the document, where it is not the first
  pub rest-written : (os : List Occurrence) (n : ℕ) (bytes : List ℕ) (before : Option ℕ) (last : ℕ) (now : List Occurrence) → HasWritten p first place n bytes before last now → 0 < length now → AreGoodOccurrences p.term.rules.payloads last os
      → HasWritten p first place (n + length os) (bytes ++ document_occurrence_bytes p.term.rules.payloads before last os) (last_length before os) (last_position last os) (now ++ os)
  rest-written [] n bytes before last now h some is =
      subst (λ (l : List Occurrence). HasWritten p first place (n + 0) (bytes ++ []) before last l) (sym (append-nil now))
      (subst (λ (l : List ℕ). HasWritten p first place (n + 0) l before last now) (sym (append-nil bytes)) (subst (λ (k : ℕ). HasWritten p first place k bytes before last now) (let e : n ≡ n + 0 = omega arith in e) h))
  rest-written (o ∷ os) n bytes before last now h some (le, small, few, fits, none, more) =
      let b = p.term.rules.payloads in
      let r = written_record b before last o in
      let nonempty : (length h.held.now == 0) ≡ false = let size = ap length h.now_is in grind (arith, nat_tests) in
      let position : h.held.position + position_gap b r.delta < 2 ^ 31 = omega (arith, h.position_is, written-gap b before (o.position - last) o.payload) in
      let good = later-none p (length h.held.now == 0) (length h.held.before) h.held.force h.held.position (place + length bytes) r.delta nonempty position in
      let one = one-written n bytes before last now o h le small few fits none good in
      let rest = rest-written os (n + 1) (bytes ++ record_bytes r) (Some (length o.payload)) o.position (now ++ o ∷ []) one (omega (arith, length-append now (o ∷ []))) more in
      let back = document_occurrence_bytes b (Some (length o.payload)) o.position os in
      subst (λ (k : ℕ). HasWritten p first place k (bytes ++ (record_bytes r ++ back)) (last_length (Some (length o.payload)) os) (last_position o.position os) (now ++ o ∷ os)) (let e : n + 1 + length os ≡ n + suc (length os) = omega arith in e)
      (subst (λ (l : List ℕ). HasWritten p first place (n + 1 + length os) l (last_length (Some (length o.payload)) os) (last_position o.position os) (now ++ o ∷ os)) (append_assoc bytes (record_bytes r) back)
      (subst (λ (l : List Occurrence). HasWritten p first place (n + 1 + length os) ((bytes ++ record_bytes r) ++ back) (last_length (Some (length o.payload)) os) (last_position o.position os) l) (append_assoc now (o ∷ []) os) rest))
