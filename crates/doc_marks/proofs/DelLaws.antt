-- Deletions that are written are read as these documents.
use Rattle.std.proofs.Common.{◌≡◌, ◌≢◌, ℕ, pos, suc, ◌+◌, ◌-◌, ◌*◌, ◌/◌, ◌^◌, ◌<◌, ◌≤◌, Bool, true, false, ◌||◌, ◌&&◌, ◌⊎◌, eqb, leb, ltb, List, [], ◌∷◌, ◌++◌, length, None, refl, sym, ap, subst, ◌∙◌, append_assoc, arith, inl, inr, rules}
use mathlib.Core.Bool.{true≢false}
use Rattle.std.specs.Ordering.{int_eq}
use Rattle.std.proofs.lemmas.Bool.{eq-eqb, ne_eqb, cases_eq, le-ltb}
use Rattle.std.proofs.lemmas.Bool.Decides.{Decides-int_eq}
use Rattle.std.proofs.lemmas.List.{append-nil, length-append}
use Rattle.std.proofs.lemmas.List.Folds.{list_any-append}
use Rattle.lu_grammar.specs.Bytes.{IsBytes}
use Rattle.lu_grammar.specs.Parts.{int32, IsValue, spelling, groups}
use Rattle.lu_grammar.specs.Records.{Spells, first_broken}
use Rattle.lu_grammar.specs.Plans.{Plan, done}
use Rattle.lu_grammar.proofs.Records.{at}
use Rattle.lu_grammar.proofs.Plans.{ok_of}
use Rattle.lu_grammar.proofs.Writers.{Writes, Writes-due, Writes-done}
use Rattle.doc_marks.specs.Marking.{bits, flags, places, marked_at, marked, AreRising}
use Rattle.doc_marks.specs.Deletions.{DelRecord, header, body, pair, sparse_mark, body_bytes, header_shape, header_conditions, body_shape, body_conditions, body_documents, dense_plan, is_past, pair_shape, is_wrong_gap, pair_conditions, PairsRead, no_pairs, with_pair, pairs_plan, after_header, del_plan}
use Rattle.doc_marks.specs.Spelling.{marks_of, sizes_bytes, dense_bytes, pairs_bytes, sparse_bytes}
use Rattle.doc_marks.proofs.MarkLemmas.{length-bits, places-append, length-marking, IsBytes-marking, marked-marking}
use Rattle.doc_marks.proofs.MarksLemmas.{not_past-AreRising}
use Rattle.doc_marks.proofs.DelLemmas.{marked_at-some, pairs-due, pairs-end}
use Rattle.doc_marks.proofs.WriteLemmas.{pairs_bytes-zero, pairs_bytes-some}

Writes-as : {V R : Type 0} (plan : Plan V R) (place : ℕ) (a b : List ℕ) (v w : V) → a ≡ b → v ≡ w → Writes plan place a v → Writes plan place b w
Writes-as {V} plan place a b v w same is h = subst (λ (t : List ℕ). Writes plan place t w) same (subst (λ (x : V). Writes plan place a x) is h)

-- ---- the header

int32-fits : (n : ℕ) → n < 2 ^ 31 → IsValue int32 (pos n)
int32-fits n lt = search rules

mark-fits : IsValue int32 sparse_mark
mark-fits = search rules

sizes-spell : (size count : ℕ) → size < 2 ^ 31 → count < 2 ^ 31 → Spells header_shape (header false (pos size) (pos count)) (sizes_bytes size count)
sizes-spell size count few less = (pos size, spelling int32 (pos count), int32-fits size few, refl, (pos count, [], int32-fits count less, sym (append-nil (spelling int32 (pos count))), (refl, refl)))

mark-spells : (size count : ℕ) → size < 2 ^ 31 → count < 2 ^ 31 → Spells header_shape (header true (pos size) (pos count)) (spelling int32 sparse_mark ++ sizes_bytes size count)
mark-spells size count few less =
    (sparse_mark, sizes_bytes size count, mark-fits, refl, (pos size, spelling int32 (pos count), int32-fits size few, refl, (pos count, [], int32-fits count less, sym (append-nil (spelling int32 (pos count))), (refl, refl))))

header-good : (size count : ℕ) (is_sparse : Bool) → first_broken (header_conditions size count (header is_sparse (pos size) (pos count))) ≡ None
header-good size count is_sparse =
    let s : int_eq (pos size) (pos size) ≡ true = (Decides-int_eq (pos size) (pos size)).1 refl in
    let n : int_eq (pos count) (pos count) ≡ true = (Decides-int_eq (pos count) (pos count)).1 refl in
    rw (s, n) refl

-- ---- the dense form

body-written : (size count place : ℕ) (found : List ℕ) → length found ≡ body_bytes size → IsBytes found → is_past size (marked found) ≡ false → length (marked found) ≡ count → Writes (dense_plan size count) place found (marked found)
body-written size count place found long fits fine total =
    let same : eqb (length (marked found)) count ≡ true = eq-eqb _ _ total in
    Writes-as (dense_plan size count) place (found ++ []) found (marked found) (marked found) (append-nil found) refl
    (Writes-due (body_shape size) (λ p r. body_conditions size count r) (λ p r. done (body_documents r)) place (body found) found [] (marked found) (found, [], (long, fits), sym (append-nil found), (refl, refl)) (rw (fine, same) refl)
    (Writes-done (place + length found) (marked found)))

pub dense-written : (size : ℕ) (docs : List ℕ) → size < 2 ^ 31 → length docs < 2 ^ 31 → AreRising 0 size docs → Writes (del_plan size (length docs)) 0 (dense_bytes size docs) docs
dense-written size docs few less rise =
    let count = length docs in
    let found = marks_of size docs in
    let is : marked found ≡ docs = marked-marking (body_bytes size) size docs rise (omega arith) in
    let fine : is_past size (marked found) ≡ false = ap (is_past size) is ∙ not_past-AreRising 0 size docs rise in
    let place = 0 + length (sizes_bytes size count) in
    Writes-due header_shape (λ p r. header_conditions size count r) (λ p r. after_header size count r) 0 (header false (pos size) (pos count)) (sizes_bytes size count) found docs (sizes-spell size count few less) (header-good size count false)
    (Writes-as (dense_plan size count) place found found (marked found) docs refl is (body-written size count place found (length-marking 0 (body_bytes size) docs) (IsBytes-marking 0 (body_bytes size) docs) fine (ap length is)))

-- ---- the sparse form

pair-good : (size count index before gap marks : ℕ) → is_wrong_gap size index before gap ≡ false → marks ≢ 0 → is_past size (marked_at (index + gap) marks) ≡ false → before + length (marked_at (index + gap) marks) ≤ count
    → first_broken (pair_conditions size count index before (pair gap marks)) ≡ None
pair-good size count index before gap marks right some below few =
    let not_none : eqb marks 0 ≡ false = ne_eqb marks 0 some in
    let enough : ltb count (before + length (marked_at (index + gap) marks)) ≡ false = le-ltb _ _ few in
    rw (right, not_none, below, enough) refl

gap-right : (size index before gap : ℕ) → index + gap ≤ size / 8 → ((before ≡ 0) ⊎ (0 < gap)) → is_wrong_gap size index before gap ≡ false
gap-right size index before gap within (inl none) =
    let first : eqb before 0 ≡ true = eq-eqb before 0 none in
    let inside : ltb (size / 8) (index + gap) ≡ false = le-ltb _ _ within in
    rw (first, inside) (never (eqb gap 0))
  where
    never : (b : Bool) → ((b && false) || false) ≡ false
    never true = refl
    never false = refl
gap-right size index before gap within (inr some) =
    let further : eqb gap 0 ≡ false = ne_eqb gap 0 (omega arith) in
    let inside : ltb (size / 8) (index + gap) ≡ false = le-ltb _ _ within in
    rw (further, inside) refl

pub neither : (a b : Bool) → (a || b) ≡ false → (a ≡ false) × (b ≡ false)
neither true b e = absurd (true≢false e)
neither false b e = (refl, e)

-- what the first of some bytes marks, and what the others do
pub places-byte : (index b : ℕ) (found : List ℕ) → places (8 * index) (flags (b ∷ found)) ≡ marked_at index b ++ places (8 * suc index) (flags found)
unfolding flags
places-byte index b found =
    places-append (8 * index) (bits 8 b) (flags found)
    ∙ ap (λ (m : ℕ). marked_at index b ++ places m (flags found)) (ap (λ (m : ℕ). 8 * index + m) (length-bits 8 b) ∙ (let e : 8 * index + 8 ≡ 8 * suc index = omega arith in e))

pub marked_at-none : (index b : ℕ) → b ≡ 0 → marked_at index b ≡ []
unfolding bits places
marked_at-none index b is = ap (marked_at index) is

pairs-written : (size count more : ℕ) (s : PairsRead) (place index : ℕ) (found : List ℕ) → IsBytes found → size < 2 ^ 31 → index + length found ≤ size / 8 + 1 → is_past size (places (8 * index) (flags found)) ≡ false
    → length s.documents + length (places (8 * index) (flags found)) ≡ count → count ≤ length s.documents + more → s.index ≤ index → ((length s.documents ≡ 0) ⊎ (s.index < index))
    → Writes (pairs_plan size count more s) place (pairs_bytes s.index index found) (s.documents ++ places (8 * index) (flags found))
unfolding pairs_bytes flags places
pairs-written size count more s place index [] fits small within fine total enough below order = record {
  reads = λ rest.
      pairs-end size count more s (at place rest) (omega (arith, total))
      ∙ ap (λ (v : List ℕ). ok_of (v, at place rest)) (sym (append-nil s.documents))
      ∙ ap (λ (n : ℕ). ok_of (s.documents ++ [], at n rest)) (let e : place ≡ place + 0 = omega arith in e);
}
pairs-written size count more s place index (b ∷ found) fits small within fine total enough below order =
    let here = marked_at index b in
    let later = places (8 * suc index) (flags found) in
    let both = places-byte index b found in
    let clear = neither (is_past size here) (is_past size later) (sym (list_any-append (λ doc. leb size doc) here later) ∙ sym (ap (is_past size) both) ∙ fine) in
    let long = length-append here later in
    let sum = ap length both in
    elim (cases_eq b 0) [
      | inl none ↦
          let nothing = marked_at-none index b none in
          let is : places (8 * index) (flags (b ∷ found)) ≡ later = both ∙ ap (λ (t : List ℕ). t ++ later) nothing in
          Writes-as (pairs_plan size count more s) place (pairs_bytes s.index (suc index) found) (pairs_bytes s.index index (b ∷ found)) (s.documents ++ later) (s.documents ++ places (8 * index) (flags (b ∷ found)))
          (sym (pairs_bytes-zero s.index index found) ∙ ap (λ (n : ℕ). pairs_bytes s.index index (n ∷ found)) (sym none)) (ap (λ (t : List ℕ). s.documents ++ t) (sym is))
          (pairs-written size count more s place (suc index) found (λ i. fits (suc i)) small (omega arith) clear.1 (omega (arith, total, ap length is)) enough (omega arith) (inr (omega arith)))
      | inr some ↦
          let gap = index - s.index in
          let n = more - 1 in
          let at_index : s.index + gap ≡ index = omega arith in
          let marks = marked_at-some index b (fits 0) some in
          let more-is : suc n ≡ more = omega (arith, total, sum, long, marks, enough) in
          let t = with_pair s (pair gap b) in
          let before = length s.documents in
          let here-is : marked_at (s.index + gap) b ≡ here = ap (λ (k : ℕ). marked_at k b) at_index in
          let front = groups 4 gap ++ b ∷ [] in
          let few : before + length (marked_at (s.index + gap) b) ≤ count = omega (arith, total, sum, long, ap length here-is) in
          let right : is_wrong_gap size s.index before gap ≡ false = gap-right size s.index before gap (omega arith) (elim order [ inl zeroth ↦ inl zeroth | inr lt ↦ inr (omega arith) ]) in
          let good = pair-good size count s.index before gap b right some (ap (is_past size) here-is ∙ clear.0) few in
          let rest = pairs-written size count n t (place + length front) (suc index) found (λ i. fits (suc i)) small (omega arith) clear.1 (omega (arith, total, sum, long, length-append s.documents (marked_at (s.index + gap) b), ap length here-is)) (omega (arith, enough, more-is, length-append s.documents (marked_at (s.index + gap) b), ap length here-is, marks)) (omega arith) (inr (omega arith)) in
          let one : Writes (pairs_plan size count (suc n) s) place (front ++ pairs_bytes (s.index + gap) (suc index) found) (t.documents ++ later) =
          subst (λ (p : Plan (List ℕ) DelRecord). Writes p place (front ++ pairs_bytes (s.index + gap) (suc index) found) (t.documents ++ later)) (sym (pairs-due size count n s (omega (arith, total, sum, long, marks))))
          (Writes-due pair_shape (λ p r. pair_conditions size count s.index before r) (λ p r. pairs_plan size count n (with_pair s r)) place (pair gap b) front (pairs_bytes (s.index + gap) (suc index) found) (t.documents ++ later)
          (gap, b ∷ [], omega arith, refl, (b, [], fits 0, refl, (refl, refl))) good rest) in
          subst (λ (k : ℕ). Writes (pairs_plan size count k s) place (pairs_bytes s.index index (b ∷ found)) (s.documents ++ places (8 * index) (flags (b ∷ found)))) more-is
          (Writes-as (pairs_plan size count (suc n) s) place (front ++ pairs_bytes (s.index + gap) (suc index) found) (pairs_bytes s.index index (b ∷ found)) (t.documents ++ later) (s.documents ++ places (8 * index) (flags (b ∷ found)))
          (append_assoc (groups 4 gap) (b ∷ []) (pairs_bytes (s.index + gap) (suc index) found) ∙ ap (λ (k : ℕ). groups 4 gap ++ b ∷ pairs_bytes k (suc index) found) at_index ∙ sym (pairs_bytes-some s.index index b found some))
          (append_assoc s.documents (marked_at (s.index + gap) b) later ∙ ap (λ (m : List ℕ). s.documents ++ (m ++ later)) here-is ∙ ap (λ (m : List ℕ). s.documents ++ m) (sym both)) one)
    ]

pub sparse-written : (size : ℕ) (docs : List ℕ) → size < 2 ^ 31 → length docs < 2 ^ 31 → AreRising 0 size docs → Writes (del_plan size (length docs)) 0 (sparse_bytes size docs) docs
sparse-written size docs few less rise =
    let count = length docs in
    let found = marks_of size docs in
    let is : marked found ≡ docs = marked-marking (body_bytes size) size docs rise (omega arith) in
    let front = spelling int32 sparse_mark ++ sizes_bytes size count in
    let place = 0 + length front in
    let fine : is_past size (marked found) ≡ false = ap (is_past size) is ∙ not_past-AreRising 0 size docs rise in
    let pairs = pairs-written size count count no_pairs place 0 found (IsBytes-marking 0 (body_bytes size) docs) few (omega (arith, length-marking 0 (body_bytes size) docs)) fine (omega (arith, ap length is)) (omega arith) (omega arith) (inl refl) in
    Writes-as (del_plan size count) 0 (front ++ pairs_bytes 0 0 found) (sparse_bytes size docs) docs docs (append_assoc (spelling int32 sparse_mark) (sizes_bytes size count) (pairs_bytes 0 0 found)) refl
    (Writes-due header_shape (λ p r. header_conditions size count r) (λ p r. after_header size count r) 0 (header true (pos size) (pos count)) front (pairs_bytes 0 0 found) docs (mark-spells size count few less) (header-good size count true)
    (Writes-as (pairs_plan size count count no_pairs) place (pairs_bytes 0 0 found) (pairs_bytes 0 0 found) (marked found) docs refl is pairs))
