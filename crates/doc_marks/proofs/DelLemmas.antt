-- The records of deletions, as the code reads them.
use Rattle.std.proofs.Common.{◌≡◌, ◌≢◌, ℕ, ℤ, pos, zero, suc, ◌+◌, ◌-◌, ◌*◌, ◌/◌, ◌%◌, ◌<◌, ◌≤◌, Bool, true, false, ◌||◌, eqb, leb, ltb, List, [], ◌∷◌, ◌++◌, length, drop, drop-cons, get_or, Some, None, Ok, Err, refl, sym, ap, subst, ◌∙◌, arith, inl, inr}
use Rattle.std.specs.Ordering.{int_eq}
use Rattle.std.proofs.lemmas.Bool.{eq-eqb, ne_eqb, eqb-true, cases_Bool, lt-ltb, le-ltb}
use Rattle.std.proofs.lemmas.Bool.Decides.{Decides-int_eq}
use Rattle.std.proofs.lemmas.List.{length-append}
use Rattle.std.proofs.lemmas.List.Folds.{list_any-append}
use Rattle.std.proofs.Math.ListN.{drop_of_length-le}
use Rattle.lu_grammar.specs.Bytes.{Cursor}
use Rattle.lu_grammar.specs.Records.{first_broken, record_at}
use Rattle.lu_grammar.specs.Plans.{Plan, done, due, read_plan}
use Rattle.lu_grammar.proofs.Plans.{read_due, read_due_broken}
use Rattle.doc_marks.specs.Marking.{bits, flags, places, marked, marked_at, number_of_bits}
use Rattle.doc_marks.specs.Deletions.{DelRecord, header, body, pair, body_shape, body_conditions, body_documents, dense_plan, header_conditions, is_past, pair_shape, pair_conditions, PairsRead, no_pairs, with_pair, pairs_plan, read_value_or, pairs_documents}
use Rattle.doc_marks.proofs.MarkLemmas.{length-bits, places-append, number_of_bits-bits}

-- ---- the bits of a byte

set-bit : (first more rest : ℕ) → rest % 2 ≡ 1 → places first (bits (suc more) rest) ≡ first ∷ places (suc first) (bits more (rest / 2))
unfolding bits places
set-bit first more rest odd = let one : eqb (rest % 2) 1 ≡ true = eq-eqb (rest % 2) 1 odd in rw one refl

clear-bit : (first more rest : ℕ) → rest % 2 ≢ 1 → places first (bits (suc more) rest) ≡ places (suc first) (bits more (rest / 2))
unfolding bits places
clear-bit first more rest even = let none : eqb (rest % 2) 1 ≡ false = ne_eqb (rest % 2) 1 even in rw none refl

-- so many documents, one past the size or not, and what is left to look at, are all of the documents
abbrev pub AreSeen : ℕ → List ℕ → ℕ → Bool → List ℕ → Type 0
AreSeen size docs n past left = (length docs ≡ n + length left) × (is_past size docs ≡ (past || is_past size left))

or-assoc : (a b c : Bool) → (a || (b || c)) ≡ ((a || b) || c)
or-assoc true b c = refl
or-assoc false b c = refl

or-false : (b : Bool) → b ≡ (b || false)
or-false true = refl
or-false false = refl

seen-none : (size n : ℕ) (docs left others : List ℕ) (past : Bool) → left ≡ others → AreSeen size docs n past left → AreSeen size docs n past others
seen-none size n docs left others past is h = subst (AreSeen size docs n past) is h

seen-one : (size n doc : ℕ) (docs left others : List ℕ) (past : Bool) → left ≡ doc ∷ others → AreSeen size docs n past left → AreSeen size docs (n + 1) (past || leb size doc) others
seen-one size n doc docs left others past is h =
    let k : AreSeen size docs n past (doc ∷ others) = subst (AreSeen size docs n past) is h in
    (omega (arith, k.0), k.1 ∙ or-assoc past (leb size doc) (is_past size others))

-- where the bits from this one on begin, and what they are
rest-is : (first bit rest : ℕ) → bit < 8 → places (first + bit) (bits (8 - bit) rest) ≡ places (first + bit) (bits (suc (8 - (bit + 1))) rest)
rest-is first bit rest lt = ap (λ (n : ℕ). places (first + bit) (bits n rest)) (let e : 8 - bit ≡ suc (8 - (bit + 1)) = omega arith in e)

next-is : (first bit rest : ℕ) → places (suc (first + bit)) (bits (8 - (bit + 1)) (rest / 2)) ≡ places (first + (bit + 1)) (bits (8 - (bit + 1)) (rest / 2))
next-is first bit rest = ap (λ (n : ℕ). places n (bits (8 - (bit + 1)) (rest / 2))) (let e : suc (first + bit) ≡ first + (bit + 1) = omega arith in e)

pub seen-set : (size first bit rest n : ℕ) (docs : List ℕ) (past : Bool) → bit < 8 → rest % 2 ≡ 1 → AreSeen size docs n past (places (first + bit) (bits (8 - bit) rest))
    → AreSeen size docs (n + 1) (past || leb size (first + bit)) (places (first + (bit + 1)) (bits (8 - (bit + 1)) (rest / 2)))
seen-set size first bit rest n docs past lt odd h =
    seen-one size n (first + bit) docs _ _ past (rest-is first bit rest lt ∙ set-bit (first + bit) (8 - (bit + 1)) rest odd ∙ ap (λ (t : List ℕ). (first + bit) ∷ t) (next-is first bit rest)) h

pub seen-clear : (size first bit rest n : ℕ) (docs : List ℕ) (past : Bool) → bit < 8 → rest % 2 ≢ 1 → AreSeen size docs n past (places (first + bit) (bits (8 - bit) rest))
    → AreSeen size docs n past (places (first + (bit + 1)) (bits (8 - (bit + 1)) (rest / 2)))
seen-clear size first bit rest n docs past lt even h =
    seen-none size n docs _ _ past (rest-is first bit rest lt ∙ clear-bit (first + bit) (8 - (bit + 1)) rest even ∙ next-is first bit rest) h

pub seen-all : (size first bit rest n : ℕ) (docs : List ℕ) (past : Bool) → 8 ≤ bit → AreSeen size docs n past (places (first + bit) (bits (8 - bit) rest)) → (n ≡ length docs) × (past ≡ is_past size docs)
unfolding bits places
seen-all size first bit rest n docs past le h =
    let none : places (first + bit) (bits (8 - bit) rest) ≡ [] = ap (λ (k : ℕ). places (first + bit) (bits k rest)) (let e : 8 - bit ≡ 0 = omega arith in e) in
    let k : AreSeen size docs n past [] = subst (AreSeen size docs n past) none h in
    (omega (arith, k.0), or-false past ∙ sym k.1)

-- a byte that is not 0 marks a document
places-none : (first : ℕ) (fs : List Bool) → length (places first fs) ≡ 0 → number_of_bits fs ≡ 0
unfolding places number_of_bits
places-none first [] e = refl
places-none first (true ∷ fs) e = absurd (omega (arith, e))
places-none first (false ∷ fs) e = omega (arith, places-none (suc first) fs e)

pub marked_at-some : (index marks : ℕ) → marks < 256 → marks ≢ 0 → 0 < length (marked_at index marks)
marked_at-some index marks fits some =
    elim (cases_Bool (eqb (length (marked_at index marks)) 0)) [
      | inl none ↦ absurd (some (sym (number_of_bits-bits 8 marks fits) ∙ places-none (8 * index) (bits 8 marks) (eqb-true _ _ none)))
      | inr not_none ↦ positive (length (marked_at index marks)) not_none
    ]
  where
    positive : (n : ℕ) → eqb n 0 ≡ false → 0 < n
    positive zero e = cc
    positive (suc n) e = omega arith

-- ---- the bytes of a body

-- one byte more
pub seen-byte : (size i n k : ℕ) (found docs : List ℕ) (past q : Bool) → i < length found → k ≡ length (marked_at i (get_or found i 0)) → q ≡ is_past size (marked_at i (get_or found i 0))
    → AreSeen size docs n past (places (8 * i) (flags (drop i found))) → AreSeen size docs (n + k) (past || q) (places (8 * (i + 1)) (flags (drop (i + 1) found)))
unfolding flags
seen-byte size i n k found docs past q lt k-is q-is h =
    let b = get_or found i 0 in
    let later = flags (drop (i + 1) found) in
    let next : drop i found ≡ b ∷ drop (i + 1) found = drop-cons found i 0 lt ∙ ap (λ (m : ℕ). b ∷ drop m found) (let e : suc i ≡ i + 1 = omega arith in e) in
    let split : places (8 * i) (flags (drop i found)) ≡ marked_at i b ++ places (8 * (i + 1)) later =
    ap (λ (t : List ℕ). places (8 * i) (flags t)) next ∙ places-append (8 * i) (bits 8 b) later
    ∙ ap (λ (m : ℕ). marked_at i b ++ places m later) (ap (λ (m : ℕ). 8 * i + m) (length-bits 8 b) ∙ (let e : 8 * i + 8 ≡ 8 * (i + 1) = omega arith in e)) in
    let k : AreSeen size docs n past (marked_at i b ++ places (8 * (i + 1)) later) = subst (AreSeen size docs n past) split h in (
      omega (arith, k.0, length-append (marked_at i b) (places (8 * (i + 1)) later), k-is),
      k.1 ∙ ap (λ (t : Bool). past || t) (list_any-append (λ doc. leb size doc) (marked_at i b) (places (8 * (i + 1)) later) ∙ ap (λ (t : Bool). t || is_past size (places (8 * (i + 1)) later)) (sym q-is))
          ∙ or-assoc past q (is_past size (places (8 * (i + 1)) later)),
    )

-- all bytes
pub seen-body : (size i n : ℕ) (found : List ℕ) (past : Bool) → length found ≤ i → AreSeen size (marked found) n past (places (8 * i) (flags (drop i found))) → (n ≡ length (marked found)) × (past ≡ is_past size (marked found))
unfolding flags places
seen-body size i n found past le h =
    let none : drop i found ≡ [] = drop_of_length-le found le in
    let k : AreSeen size (marked found) n past [] = subst (λ (t : List ℕ). AreSeen size (marked found) n past (places (8 * i) (flags t))) none h in
    (omega (arith, k.0), or-false past ∙ sym k.1)

-- ---- the header

some_is_none : {n : ℕ} → Some n ≡ None → ⊥
some_is_none h = cc

-- a good header has the sizes of the segment
pub heading-good : (size count : ℕ) (is_sparse : Bool) (s n : ℤ) → first_broken (header_conditions size count (header is_sparse s n)) ≡ None → (s ≡ pos size) × (n ≡ pos count)
heading-good size count is_sparse s n e =
    elim (cases_Bool (int_eq s (pos size))) [
      | inr other ↦ absurd (some_is_none (rw other at e))
      | inl same ↦ elim (cases_Bool (int_eq n (pos count))) [
        | inr other ↦ absurd (some_is_none (rw (same, other) at e))
        | inl also ↦ ((Decides-int_eq s (pos size)).0 same, (Decides-int_eq n (pos count)).0 also)
      ]
    ]

-- ---- the pairs

module _ (size count : ℕ) where
  -- a pair is due while too few documents are marked
  pub pairs-due : (more : ℕ) (s : PairsRead) → length s.documents < count
      → pairs_plan size count (suc more) s ≡ due pair_shape (λ place r. pair_conditions size count s.index (length s.documents) r) (λ place r. pairs_plan size count more (with_pair s r))
  unfolding pairs_plan
  pairs-due more s lt = let few : ltb (length s.documents) count ≡ true = lt-ltb (length s.documents) count lt in rw few refl

  pub pairs-fault : (more index before : ℕ) (s : PairsRead) (c : Cursor) (rule : ℕ) → s.index ≡ index → length s.documents ≡ before → before < count → count ≤ before + more
      → record_at pair_shape (pair_conditions size count index before) c ≡ Err rule → read_plan (pairs_plan size count more s) c ≡ Err (record { offset = c.place; rule = rule })
  pairs-fault zero index before s c rule index-is before-is lt le e = absurd (omega arith)
  pairs-fault (suc more) index before s c rule index-is before-is lt le e =
      let broken : record_at pair_shape (pair_conditions size count s.index (length s.documents)) c ≡ Err rule = rw (index-is, before-is) e in
      ap (λ (p : Plan (List ℕ) DelRecord). read_plan p c) (pairs-due more s (omega (arith, before-is)))
      ∙ read_due_broken pair_shape (λ place r. pair_conditions size count s.index (length s.documents) r) (λ place r. pairs_plan size count more (with_pair s r)) c rule broken

  pub pairs-step : (more index before : ℕ) (s : PairsRead) (c d : Cursor) (gap marks : ℕ) → s.index ≡ index → length s.documents ≡ before → before < count → count ≤ before + more
      → record_at pair_shape (pair_conditions size count index before) c ≡ Ok (pair gap marks, d)
      → (n : ℕ) × (more ≡ suc n) × (read_plan (pairs_plan size count more s) c ≡ read_plan (pairs_plan size count n (with_pair s (pair gap marks))) d)
  pairs-step zero index before s c d gap marks index-is before-is lt le e = absurd (omega arith)
  pairs-step (suc more) index before s c d gap marks index-is before-is lt le e =
      let good : record_at pair_shape (pair_conditions size count s.index (length s.documents)) c ≡ Ok (pair gap marks, d) = rw (index-is, before-is) e in (
        more,
        refl,
        ap (λ (p : Plan (List ℕ) DelRecord). read_plan p c) (pairs-due more s (omega (arith, before-is)))
            ∙ read_due pair_shape (λ place r. pair_conditions size count s.index (length s.documents) r) (λ place r. pairs_plan size count more (with_pair s r)) c (pair gap marks) d good,
      )

  pub pairs-end : (more : ℕ) (s : PairsRead) (c : Cursor) → count ≤ length s.documents → read_plan (pairs_plan size count more s) c ≡ Ok (s.documents, c)
  unfolding pairs_plan read_plan
  pairs-end zero s c le = refl
  pairs-end (suc more) s c le = let enough : ltb (length s.documents) count ≡ false = le-ltb (length s.documents) count le in rw enough refl

  -- what was read is what the pairs mark
  pub pairs_documents-is : (c d : Cursor) (docs : List ℕ) → read_plan (pairs_plan size count count no_pairs) c ≡ Ok (docs, d) → read_plan (pairs_plan size count count no_pairs) c ≡ Ok (pairs_documents size count c, d)
  pairs_documents-is c d docs e = e ∙ ap (λ (v : List ℕ). Ok (v, d)) (sym (ap (read_value_or []) e))

-- ---- a dense body

pub body-fault : (size count rule : ℕ) (c : Cursor) → record_at (body_shape size) (body_conditions size count) c ≡ Err rule → read_plan (dense_plan size count) c ≡ Err (record { offset = c.place; rule = rule })
body-fault size count rule c e = read_due_broken (body_shape size) (λ place r. body_conditions size count r) (λ place r. done (body_documents r)) c rule e

pub body-read : (size count : ℕ) (c d : Cursor) (found : List ℕ) → record_at (body_shape size) (body_conditions size count) c ≡ Ok (body found, d) → read_plan (dense_plan size count) c ≡ Ok (marked found, d)
unfolding read_plan
body-read size count c d found e = read_due (body_shape size) (λ place r. body_conditions size count r) (λ place r. done (body_documents r)) c (body found) d e
