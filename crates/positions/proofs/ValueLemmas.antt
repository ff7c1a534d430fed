-- What the occurrences of an entry stand for, read one after another.
use Rattle.std.proofs.Common.{◌≡◌, ℕ, zero, suc, add-one, ◌+◌, ◌-◌, ◌<◌, ◌≤◌, List, [], ◌∷◌, ◌++◌, length, drop, get_or, Result, Ok, Err, refl, sym, ap, subst, ◌∙◌, append_assoc, arith}
use Rattle.std.proofs.lemmas.List.{length-append, append-nil}
use Rattle.std.proofs.Math.Seq.{get_or-append_seam, drop-cons}
use Rattle.std.specs.Prelude.{slice_index_or}
use Rattle.lu_grammar.specs.Bytes.{Cursor}
use Rattle.lu_grammar.specs.Records.{record_at}
use Rattle.lu_grammar.specs.Plans.{one, times, each, read_plan}
use Rattle.lu_grammar.proofs.Records.{same_pair}
use Rattle.lu_grammar.proofs.Loops.{each-rest, each-keeps, times-keeps}
use Rattle.lu_types.specs.Occurrences.{Occurrence}
use Rattle.positions.specs.Records.{OccurrenceRecord}
use Rattle.positions.specs.Occurrences.{PostedTerm, Held, occurrence_of, with_occurrence, closed, occurrence_kind, count_at, entry_plan}
use Rattle.positions.specs.Terms.{term_plan}
use Rattle.positions.specs.Standing.{StandsIn}
use Rattle.positions.proofs.StandLemmas.{occurrence_at, ended, entry-ended, Stands-more, Stands-more-now}
use Rattle.positions.proofs.AgainLemmas.{EntryParts, entry-parts, ended-was, Stands-within, Stands-upto}

-- the occurrences of an entry are kept, and more may come; the entries before are kept
record Keeps (now : List Occurrence) (before : List (List Occurrence)) (s : Held) : Type 0 where
  pub back : List Occurrence
  pub now_is : s.now ≡ now ++ back
  pub before_is : s.before ≡ before

Keeps-step : (p : PostedTerm) (now : List Occurrence) (before : List (List Occurrence)) (s : Held) (c : Cursor) (r : OccurrenceRecord) (d : Cursor) → Keeps now before s
    → record_at ((occurrence_kind p).shape s) ((occurrence_kind p).conditions s c.place) c ≡ Ok (r, d) → Keeps now before ((occurrence_kind p).after s c.place r)
Keeps-step p now before s c r d h e =
    let o = occurrence_of p.term s.position r in
    record { back = h.back ++ o ∷ []; now_is = ap (λ (l : List Occurrence). l ++ o ∷ []) h.now_is ∙ append_assoc now h.back (o ∷ []); before_is = h.before_is }

-- the entries so far are kept
record Begins (front : List (List Occurrence)) (s : Held) : Type 0 where
  pub back : List (List Occurrence)
  pub before_is : s.before ≡ front ++ back

Begins-step : (p : PostedTerm) (front : List (List Occurrence)) (s : Held) (c : Cursor) (m : Held) (d : Cursor) → Begins front s → read_plan (entry_plan p s) c ≡ Ok (m, d) → Begins front m
Begins-step p front s c m d h e =
    let was = ended-was (read_plan (times (occurrence_kind p) (count_at p (length s.before)) s) c) (m, d) (sym (entry-ended p s c) ∙ e) in
    let kept = times-keeps (occurrence_kind p) (Keeps s.now s.before) (Keeps-step p s.now s.before) (count_at p (length s.before)) s c was.0 d (record { back = []; now_is = sym (append-nil s.now); before_is = refl }) was.1 in
    record {
      back = h.back ++ was.0.now ∷ [];
      before_is = ap (λ (x : Held). x.before) (sym was.2) ∙ ap (λ (l : List (List Occurrence)). l ++ was.0.now ∷ []) (kept.before_is ∙ h.before_is) ∙ append_assoc front h.back (was.0.now ∷ []);
    }

-- the entries before are kept
pub entry-kept : (p : PostedTerm) (n : ℕ) (s : Held) (c : Cursor) (m : Held) (d : Cursor) → read_plan (times (occurrence_kind p) n s) c ≡ Ok (m, d) → m.before ≡ s.before
entry-kept p n s c m d e = (times-keeps (occurrence_kind p) (Keeps s.now s.before) (Keeps-step p s.now s.before) n s c m d (record { back = []; now_is = sym (append-nil s.now); before_is = refl }) e).before_is

-- the occurrences of the entry are those that were read, and others
pub record IsEntry (p : PostedTerm) (v : List (List Occurrence)) (passed : ℕ) (now : List Occurrence) : Type 0 where
  pub back : List Occurrence
  pub entry : slice_index_or v passed [] ≡ now ++ back

pub entry-is : (p : PostedTerm) (start : Cursor) (v : List (List Occurrence)) (end : Cursor) (passed : ℕ) (mid : Held) (behind : Cursor) (parts : EntryParts p start passed mid behind v end) → length mid.before ≡ passed
    → parts.here.before ≡ mid.before → slice_index_or v passed [] ≡ parts.here.now
entry-is p start v end passed mid behind parts begun kept =
    let front = parts.here.before ++ parts.here.now ∷ [] in
    let begins = each-keeps (entry_plan p) (Begins front) (Begins-step p front) (p.term.info.doc_freq - (passed + 1)) (closed parts.here) parts.next parts.last end (record { back = []; before_is = sym (append-nil front) }) parts.rest in
    let is : v ≡ parts.here.before ++ parts.here.now ∷ begins.back = sym parts.value_is ∙ begins.before_is ∙ append_assoc parts.here.before (parts.here.now ∷ []) begins.back in
    let size : length parts.here.before ≡ passed = ap length kept ∙ begun in
    ap (λ (l : List (List Occurrence)). get_or l passed []) is
    ∙ ap (λ (n : ℕ). get_or (parts.here.before ++ parts.here.now ∷ begins.back) n []) (sym size)
    ∙ get_or-append_seam parts.here.before parts.here.now begins.back []

pub entry-begins : (p : PostedTerm) (start : Cursor) (v : List (List Occurrence)) (end : Cursor) (passed count force position : ℕ) (here : Cursor) → read_plan (term_plan p) start ≡ Ok (v, end)
    → (h : StandsIn p start passed count force position here) → passed < p.term.info.doc_freq → count ≤ count_at p passed → IsEntry p v passed h.held.now
entry-begins p start v end passed count force position here all h lt le =
    let parts = entry-parts p start v end passed count force position here all h lt in
    let rest = sym (each-rest (one (occurrence_kind p)) count (count_at p passed) h.mid h.behind h.held here le h.reads) ∙ parts.times_read in
    let kept = times-keeps (occurrence_kind p) (Keeps h.held.now h.held.before) (Keeps-step p h.held.now h.held.before) (count_at p passed - count) h.held here parts.here parts.next
    (record { back = []; now_is = sym (append-nil h.held.now); before_is = refl }) rest in
    record { back = kept.back; entry = entry-is p start v end passed h.mid h.behind parts h.begun (kept.before_is ∙ h.before_is) ∙ kept.now_is }

-- there are as many as the entry's frequency
pub entry-length : (p : PostedTerm) (start : Cursor) (v : List (List Occurrence)) (end : Cursor) (passed : ℕ) → read_plan (term_plan p) start ≡ Ok (v, end) → passed < p.term.info.doc_freq
    → length (slice_index_or v passed []) ≡ count_at p passed
entry-length p start v end passed all lt =
    let first = Stands-upto p start v end all passed (omega arith) in
    let s = Stands-within p start v end passed all (record { force = first.force; position = 0; here = first.here; stands = first.stands }) lt (count_at p passed) (omega arith) in
    let h = s.stands in
    let parts = entry-parts p start v end passed (count_at p passed) s.force s.position s.here all h lt in
    let same = same_pair parts.here h.held parts.next s.here (sym parts.times_read ∙ h.reads) in
    ap length (entry-is p start v end passed h.mid h.behind parts h.begun (ap (λ (x : Held). x.before) same.0 ∙ h.before_is) ∙ ap (λ (x : Held). x.now) same.0) ∙ h.now_is

-- the next occurrence of the entry, and those after it
pub entry-next : (p : PostedTerm) (start : Cursor) (v : List (List Occurrence)) (end : Cursor) (passed count force position : ℕ) (here : Cursor) (r : OccurrenceRecord) (next : Cursor) → read_plan (term_plan p) start ≡ Ok (v, end)
    → StandsIn p start passed count force position here → passed < p.term.info.doc_freq → count < count_at p passed → occurrence_at p passed count force position here ≡ Ok (r, next)
    → drop count (slice_index_or v passed []) ≡ occurrence_of p.term position r ∷ drop (count + 1) (slice_index_or v passed [])
entry-next p start v end passed count force position here r next all h lt due e =
    let more = Stands-more p start passed count force position here r next h e in
    let begins = entry-begins p start v end passed (count + 1) _ _ next all more lt (omega arith) in
    let o = occurrence_of p.term h.held.position r in
    let entry = slice_index_or v passed [] in
    let is : entry ≡ h.held.now ++ o ∷ begins.back = begins.entry ∙ ap (λ (l : List Occurrence). l ++ begins.back) (Stands-more-now p start passed count force position here r next h e) ∙ append_assoc h.held.now (o ∷ []) begins.back in
    let size : count < length entry = omega (arith, ap length is, length-append h.held.now (o ∷ begins.back), h.now_is) in
    drop-cons entry count o size
    ∙ ap (λ (x : Occurrence). x ∷ drop (suc count) entry)
    (ap (λ (l : List Occurrence). get_or l count o) is ∙ ap (λ (n : ℕ). get_or (h.held.now ++ o ∷ begins.back) n o) (sym h.now_is) ∙ get_or-append_seam h.held.now o begins.back o
    ∙ ap (λ (q : ℕ). occurrence_of p.term q r) h.position_is)
    ∙ ap (λ (n : ℕ). occurrence_of p.term position r ∷ drop n entry) (sym (add-one count))
