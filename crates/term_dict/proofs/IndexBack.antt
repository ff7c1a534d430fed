-- The index of a writer is read as the index of the terms that it was handed.
use Rattle.std.proofs.Common.{◌≡◌, ℕ, zero, suc, ◌+◌, ◌-◌, ◌*◌, ◌<◌, ◌≤◌, ◌^◌, true, false, eqb, ltb, List, [], ◌∷◌, ◌++◌, length, get_or, None, pos, refl, sym, ap, subst, ◌∙◌, append_assoc, add-one, arith, inl, inr}
use Rattle.std.specs.Str.{bytes_eq}
use Rattle.std.proofs.lemmas.Bool.{le-ltb, eq-eqb, cases_lt}
use Rattle.std.proofs.lemmas.Slice.Eq.{bytes_eq-Decides}
use Rattle.std.proofs.lemmas.List.{append-nil, length-append, length-drop, get_or_push, get_or_append_left}
use Rattle.lu_grammar.specs.Bytes.{IsBytes}
use Rattle.lu_grammar.specs.Parts.{vint, vlong, num, spelling}
use Rattle.lu_grammar.specs.Records.{whole, part, Spells, first_broken}
use Rattle.lu_grammar.specs.Plans.{Plan, done, one, times}
use Rattle.lu_grammar.specs.Meaning.{Reads}
use Rattle.lu_grammar.proofs.Records.{Spells-followed}
use Rattle.lu_grammar.proofs.Writers.{Writes, Writes-none, Writes-record, Writes-due, Writes-done, Writes-and_then, read_file-Writes}
use Rattle.lu_grammar.proofs.Parts.{IsBytes-drop}
use Rattle.lu_grammar.proofs.Files.{Reads-from}
use Rattle.lu_types.specs.declared.term.TermInfo.{TermInfo}
use Rattle.lu_types.specs.declared.term.TermNumbers.{TermNumbers}
use Rattle.term_dict.specs.Headings.{header, heading, heading_of, Line, entry}
use Rattle.term_dict.specs.Entries.{TermRecord, entry_shape}
use Rattle.term_dict.specs.Terms.{DictionaryTerm, no_term, term_after}
use Rattle.term_dict.specs.Index.{IndexEntry, index_shape, IndexProgress, no_entries, with_entry, index_kind, index_against, index_conditions, index_heading_conditions, indexed_place, entries_plan, tii_plan, entry_count, point_after, same_info, same_term}
use Rattle.term_dict.specs.Canonical.{shared, skip_delta_bytes, entry_between, terms_bytes, term_record_bytes, header_bytes, start_of_term, starts_of, intervals_begun, TermPoint, point_before, point_bytes, points_bytes, canonical_tii}
use Rattle.term_dict.specs.Writing.{TermsWritten, numbers_written, AreSpellable}
use Rattle.term_dict.specs.Laws.{IsIndexable, dictionary_written}
use Rattle.term_dict.proofs.WriteLemmas.{spellable-at, IsPlainEntry, entry-spells, entry_between-again, shared-within}
use Rattle.std.proofs.Math.Nat.{suc-mul}
use Rattle.std.proofs.Math.Seq.{take-length}
use Rattle.std.specs.Ordering.{int_eq}
use Rattle.lu_grammar.proofs.SpelledBytes.{IsBytes-append}
use Rattle.term_dict.proofs.ByteLemmas.{IsSmallEntry, term_record_bytes-bytes, header_bytes-bytes, vlong-bytes}
use Rattle.term_dict.proofs.WriterLemmas.{terms-few}
use Rattle.term_dict.proofs.IndexLemmas.{intervals_begun-first, intervals_begun-few}
use Rattle.term_dict.proofs.ReadBack.{heading_written, header-spells}
use Rattle.term_dict.proofs.RisingPlaces.{start-rises, Rises, rises}

-- ---- the entries

-- a term that an entry can stand for
pub record IsPoint (interval : ℕ) (t : DictionaryTerm) : Type 0 where
  pub bytes : IsBytes t.text
  pub small : length t.text < 2 ^ 31
  pub field : t.info.field < 2 ^ 32
  pub doc_freq : t.info.doc_freq < 2 ^ 31
  pub skip : t.info.skip < 2 ^ 31
  pub freq : t.info.freq < 2 ^ 32
  pub prox : t.info.prox < 2 ^ 32
  pub no_skip : t.info.doc_freq < interval → t.info.skip ≡ 0

point-is : (interval : ℕ) (ts : List DictionaryTerm) (n : ℕ) → AreSpellable interval no_term ts → n ≤ length ts → IsPoint interval (point_after ts n)
point-is interval ts zero h le = record { bytes = λ i. omega arith; small = omega arith; field = omega arith; doc_freq = omega arith; skip = omega arith; freq = omega arith; prox = omega arith; no_skip = λ lt. refl }
point-is interval ts (suc n) h le =
    let at = spellable-at interval no_term ts n h (omega arith) in
    record { bytes = at.here.bytes; small = at.here.small; field = omega (arith, at.here.field); doc_freq = at.follows.doc_freq; skip = at.follows.skip; freq = at.here.freq; prox = at.here.prox; no_skip = at.here.no_skip }

plain-point : (interval : ℕ) (before t : DictionaryTerm) → IsPoint interval t → IsPlainEntry true interval (entry_between before t)
plain-point interval before t h = record {
  prefix = omega (arith, (shared-within before.text t.text).1, h.small);
  count = omega (arith, length-drop (shared before.text t.text) t.text, h.small);
  suffix = IsBytes-drop (shared before.text t.text) t.text h.bytes;
  field = (t.info.field, [], h.field, sym (append-nil (spelling vint t.info.field)), (refl, refl));
  doc_freq = h.doc_freq;
  freq = omega (arith, h.freq);
  prox = omega (arith, h.prox);
  skip = h.skip;
  no_skip = h.no_skip;
}

-- what follows an entry stands behind it
term_record_bytes-more : (interval : ℕ) (e : TermRecord) (more : List ℕ) → term_record_bytes interval e [] ++ more ≡ term_record_bytes interval e more
term_record_bytes-more interval e more = behind (spelling num e.prefix) (spelling num (length e.suffix)) e.suffix (spelling vint e.field) (spelling num e.doc_freq) (spelling vlong e.freq) (spelling vlong e.prox) (skip_delta_bytes interval e)
  where
    behind : (a b c d f g h s : List ℕ) → (a ++ (b ++ (c ++ (d ++ (f ++ (g ++ (h ++ (s ++ [])))))))) ++ more ≡ a ++ (b ++ (c ++ (d ++ (f ++ (g ++ (h ++ (s ++ more)))))))
    behind a b c d f g h s = simp (append_assoc, append-nil)

-- an entry for a term and a place after another
abbrev entry_of_point : TermPoint → TermPoint → IndexEntry
entry_of_point before p = record { term = entry_between before.term p.term; step = p.place - before.place }

point-spells : (interval : ℕ) (before p : TermPoint) → IsPoint interval p.term → p.place < 2 ^ 63 → Spells (index_shape interval) (entry_of_point before p) (point_bytes interval before p)
point-spells interval before p h small =
    let e = entry_between before.term p.term in
    let step = p.place - before.place in
    let after = spelling vlong step in
    subst (λ (b : List ℕ). Spells (index_shape interval) (entry_of_point before p) b) (term_record_bytes-more interval e after)
    (Spells-followed (entry_shape true interval) (λ x. part vlong (λ n. whole (made x n))) e (entry_of_point before p) (term_record_bytes interval e []) after (entry-spells true interval e (plain-point interval before.term p.term h))
    (step, [], omega (arith, small), sym (append-nil after), (refl, refl)))
  where
    made : TermRecord → ℕ → IndexEntry
    made x n = record { term = x; step = n }

-- a term is the same as itself
same_info-refl : (a : TermInfo) → same_info a a ≡ true
same_info-refl a =
    let e1 : eqb a.field a.field ≡ true = eq-eqb _ _ refl in
    let e2 : eqb a.doc_freq a.doc_freq ≡ true = eq-eqb _ _ refl in
    let e3 : eqb a.freq a.freq ≡ true = eq-eqb _ _ refl in
    let e4 : eqb a.prox a.prox ≡ true = eq-eqb _ _ refl in
    let e5 : eqb a.skip a.skip ≡ true = eq-eqb _ _ refl in
    rw (e1, e2, e3, e4, e5) refl

same_term-refl : (t : DictionaryTerm) → same_term t t ≡ true
same_term-refl t = let e : bytes_eq t.text t.text ≡ true = (bytes_eq-Decides t.text t.text).1 refl in rw (e, same_info-refl t.info) refl

-- an entry for a term and a place is good where these are wanted
point-good : (before p : TermPoint) → Rises before.term.info p.term.info → before.place ≤ p.place → first_broken (index_against before.term before.place (entry_of_point before p) p.term p.place) ≡ None
point-good before p rises le =
    let e = entry_between before.term p.term in
    let again : term_after before.term e ≡ p.term = entry_between-again before.term p.term rises.freq rises.prox in
    let f1 : ltb (length before.term.text) e.prefix ≡ false = le-ltb _ _ (shared-within before.term.text p.term.text).0 in
    let f2 : same_term (term_after before.term e) p.term ≡ true = ap (λ (t : DictionaryTerm). same_term t p.term) again ∙ same_term-refl p.term in
    let f3 : eqb (before.place + (p.place - before.place)) p.place ≡ true = eq-eqb _ _ (omega arith) in
    rw (f1, f2, f3) refl

-- ---- the whole index

starts_of-length : (interval : ℕ) (ts : List DictionaryTerm) (n : ℕ) → length (starts_of interval ts n) ≡ n
starts_of-length interval ts zero = refl
starts_of-length interval ts (suc n) = omega (arith, starts_of-length interval ts n, length-append (starts_of interval ts n) (start_of_term interval ts n ∷ []))

starts_of-at : (interval : ℕ) (ts : List DictionaryTerm) (n j : ℕ) → j < n → get_or (starts_of interval ts n) j 0 ≡ start_of_term interval ts j
starts_of-at interval ts zero j lt = absurd (omega (arith, lt))
starts_of-at interval ts (suc n) j lt = elim (cases_lt j n) [
  | inl less ↦ get_or_append_left (starts_of interval ts n) (start_of_term interval ts n ∷ []) 0 j (omega (arith, starts_of-length interval ts n, less)) ∙ starts_of-at interval ts n j less
  | inr ge ↦ let is : j ≡ n = omega arith in get_or_push (starts_of interval ts n) (start_of_term interval ts n) 0 j (omega (arith, starts_of-length interval ts n, is)) ∙ ap (start_of_term interval ts) (sym is)
]

-- so many entries were passed
abbrev passed_so : ℕ → ℕ → List DictionaryTerm → ℕ → IndexProgress
passed_so index_interval interval ts i = record { passed = i; last = (point_before index_interval interval ts i).term; place = (point_before index_interval interval ts i).place }

-- the places of entries rise, and so does what is said of their terms
point-rises : (index_interval interval : ℕ) (ts : List DictionaryTerm) (i : ℕ) → AreSpellable interval no_term ts → (i * index_interval ≤ length ts) → (point_before index_interval interval ts i).place ≤ (point_before index_interval interval ts (suc i)).place
point-rises index_interval interval ts zero h le = omega arith
point-rises index_interval interval ts (suc j) h le =
    let step : suc j * index_interval ≡ j * index_interval + index_interval = suc-mul j index_interval in
    omega (arith, start-rises interval ts (j * index_interval) index_interval, ap (start_of_term interval ts) step)

info-rises : (index_interval interval : ℕ) (ts : List DictionaryTerm) (i : ℕ) → AreSpellable interval no_term ts → (i * index_interval ≤ length ts) → Rises (point_before index_interval interval ts i).term.info (point_before index_interval interval ts (suc i)).term.info
info-rises index_interval interval ts zero h le = record { freq = omega arith; prox = omega arith }
info-rises index_interval interval ts (suc j) h le =
    let step : j * index_interval + index_interval ≡ suc j * index_interval = sym (suc-mul j index_interval) in
    subst (λ (n : ℕ). Rises (point_after ts (j * index_interval)).info (point_after ts n).info) step (rises interval ts (j * index_interval) index_interval h (omega (arith, step, le)))

-- a place in the file of terms is within it
start-within : (w : TermsWritten) (n : ℕ) → IsIndexable w → n ≤ length w.terms → start_of_term w.skip_interval w.terms n < 2 ^ 31
start-within w n h le =
    let ts = w.terms in
    let k = w.skip_interval in
    let e : n + (length ts - n) ≡ length ts = omega (arith, le) in
    let whole : start_of_term k ts (length ts) ≡ 24 + length (terms_bytes k no_term ts) = ap (λ (us : List DictionaryTerm). 24 + length (terms_bytes k no_term us)) (take-length ts) in
    let size = length-append (header_bytes (numbers_written w) (length ts)) (terms_bytes k no_term ts) in
    omega (arith, start-rises k ts n (length ts - n), ap (start_of_term k ts) e, whole, size, h.small)

points-written : (w : TermsWritten) (i : ℕ) → IsIndexable w → i ≤ intervals_begun w.index_interval (length w.terms)
    → Writes (times (index_kind (dictionary_written w)) i no_entries) 24 (points_bytes w.index_interval w.skip_interval w.terms i) (passed_so w.index_interval w.skip_interval w.terms i)
points-written w zero h le = Writes-none (one (index_kind (dictionary_written w))) 24 no_entries
points-written w (suc i) h le =
    let d = dictionary_written w in
    let ts = w.terms in
    let k = w.skip_interval in
    let interval = w.index_interval in
    let before = points-written w i h (omega (arith, le)) in
    let first = intervals_begun-first interval (length ts) i h.intervals.index_interval.0 (omega (arith, le)) in
    let p0 = point_before interval k ts i in
    let p = point_before interval k ts (suc i) in
    let e = entry_of_point p0 p in
    let front = point_bytes k p0 p in
    let place : p.place < 2 ^ 31 = start-within w (i * interval) h (omega (arith, first)) in
    let point = point-is k ts (i * interval) h.spellable (omega (arith, first)) in
    let info = info-rises interval k ts i h.spellable (omega (arith, first)) in
    let above = point-rises interval k ts i h.spellable (omega (arith, first)) in
    let spells = Spells-followed (index_shape k) (λ x. whole (entry x)) e (entry e) front [] (point-spells k p0 p point (omega (arith, place))) (refl, refl) in
    let at : indexed_place d i ≡ p.place = starts_of-at k ts (length ts) (i * interval) first in
    let good : first_broken (index_conditions d (passed_so interval k ts i) e) ≡ None = ap (λ (n : ℕ). first_broken (index_against p0.term p0.place e p.term n)) at ∙ point-good p0 p info above in
    let more = Writes-record (index_kind d) no_entries 24 i (points_bytes interval k ts i) (passed_so interval k ts i) (entry e) (front ++ []) before spells good in
    let again : term_after p0.term e.term ≡ p.term = entry_between-again p0.term p.term info.freq info.prox in
    let state : with_entry (passed_so interval k ts i) e ≡ passed_so interval k ts (suc i) =
    ap (λ (t : DictionaryTerm). made (i + 1) t (p0.place + e.step)) again ∙ ap (λ (n : ℕ). made (i + 1) p.term n) (omega (arith, above)) ∙ ap (λ (n : ℕ). made n p.term p.place) (add-one i) in
    let bytes_are : points_bytes interval k ts i ++ (front ++ []) ≡ points_bytes interval k ts (suc i) = ap (λ (b : List ℕ). points_bytes interval k ts i ++ b) (append-nil front) in
    let moved = subst (λ (b : List ℕ). Writes (times (index_kind d) (i + 1) no_entries) 24 b (with_entry (passed_so interval k ts i) e)) bytes_are more in
    let counted = subst (λ (n : ℕ). Writes (times (index_kind d) n no_entries) 24 (points_bytes interval k ts (suc i)) (with_entry (passed_so interval k ts i) e)) (add-one i) moved in
    subst (λ (s : IndexProgress). Writes (times (index_kind d) (suc i) no_entries) 24 (points_bytes interval k ts (suc i)) s) state counted
  where
    made : ℕ → DictionaryTerm → ℕ → IndexProgress
    made n t place = record { passed = n; last = t; place = place }

points-bytes : (w : TermsWritten) (i : ℕ) → IsIndexable w → i ≤ intervals_begun w.index_interval (length w.terms) → IsBytes (points_bytes w.index_interval w.skip_interval w.terms i)
points-bytes w zero h le = λ j. omega arith
points-bytes w (suc i) h le =
    let ts = w.terms in
    let k = w.skip_interval in
    let interval = w.index_interval in
    let first = intervals_begun-first interval (length ts) i h.intervals.index_interval.0 (omega (arith, le)) in
    let p0 = point_before interval k ts i in
    let p = point_before interval k ts (suc i) in
    let place : p.place < 2 ^ 31 = start-within w (i * interval) h (omega (arith, first)) in
    let point = point-is k ts (i * interval) h.spellable (omega (arith, first)) in
    let plain = plain-point k p0.term p.term point in
    let small : IsSmallEntry (entry_between p0.term p.term) = record {
      prefix = omega (arith, plain.prefix);
      count = omega (arith, plain.count);
      suffix = plain.suffix;
      field = point.field;
      doc_freq = omega (arith, plain.doc_freq);
      freq = plain.freq;
      prox = plain.prox;
      skip = omega (arith, plain.skip);
    } in
    IsBytes-append (points_bytes interval k ts i) (point_bytes k p0 p) (points-bytes w i h (omega (arith, le)))
    (term_record_bytes-bytes k (entry_between p0.term p.term) (spelling vlong (p.place - p0.place)) small (vlong-bytes (p.place - p0.place) (omega (arith, place))))

header-fits : (numbers : TermNumbers) → first_broken (index_heading_conditions numbers (heading_written numbers (entry_count numbers))) ≡ None
header-fits numbers =
    let c = int_eq-refl (entry_count numbers) in
    let f1 = int_eq-refl numbers.index_interval in
    let f2 = int_eq-refl numbers.skip_interval in
    let f3 = int_eq-refl numbers.max_levels in
    rw (c, f1, f2, f3) refl
  where
    int_eq-refl : (n : ℕ) → int_eq (pos n) (pos n) ≡ true
    int_eq-refl n = let f : ltb n n ≡ false = le-ltb _ _ (omega arith) in rw f refl

-- the index
pub tii-reads : (w : TermsWritten) → IsIndexable w → Reads (tii_plan (dictionary_written w)) (canonical_tii (numbers_written w) w.terms) tt
tii-reads w h =
    let d = dictionary_written w in
    let numbers = numbers_written w in
    let ts = w.terms in
    let n = intervals_begun w.index_interval (length ts) in
    let bytes = points_bytes w.index_interval w.skip_interval ts n in
    let s = passed_so w.index_interval w.skip_interval ts n in
    let body : Writes (entries_plan d) 24 (bytes ++ []) tt = Writes-and_then (times (index_kind d) n no_entries) finish 24 bytes [] s tt (points-written w n h (omega arith)) (Writes-done _ tt) in
    let entries : Writes (entries_plan d) 24 bytes tt = subst (λ (b : List ℕ). Writes (entries_plan d) 24 b tt) (append-nil bytes) body in
    let few : n < 2 ^ 63 = omega (arith, intervals_begun-few w.index_interval (length ts) h.intervals.index_interval.0, terms-few w.skip_interval no_term ts, length-append (header_bytes numbers (length ts)) (terms_bytes w.skip_interval no_term ts), h.small) in
    let file : Writes (tii_plan d) 0 (canonical_tii numbers ts) tt =
    Writes-due header (λ place line. index_heading_conditions numbers (heading_of line)) (λ place line. entries_plan d) 0 (heading (heading_written numbers n)) (header_bytes numbers n) bytes tt
    (header-spells numbers n few h.intervals.index_interval.1 h.intervals.skip_interval.1 h.intervals.max_levels.1) (header-fits numbers) entries in
    let fits : IsBytes (canonical_tii numbers ts) = IsBytes-append (header_bytes numbers n) bytes (header_bytes-bytes numbers n) (points-bytes w n h (omega arith)) in
    Reads-from (tii_plan d) (canonical_tii numbers ts) tt fits (read_file-Writes (tii_plan d) (canonical_tii numbers ts) tt file)
  where
    finish : IndexProgress → Plan (Unit {0}) (Line IndexEntry)
    finish s = done tt
