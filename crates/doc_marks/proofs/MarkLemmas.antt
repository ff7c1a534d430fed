-- Bits and the documents that they mark.
use Rattle.std.proofs.Common.{◌≡◌, ℕ, zero, suc, ◌+◌, ◌*◌, ◌/◌, ◌%◌, ◌^◌, ◌<◌, ◌≤◌, Bool, true, false, ◌||◌, eqb, leb, List, [], ◌∷◌, ◌++◌, length, refl, sym, ap, subst, ◌∙◌, arith, inl, inr, pow-suc}
use mathlib.Core.Bool.{true≢false}
use Rattle.std.specs.List.{list_any}
use Rattle.std.proofs.lemmas.Bool.{leb-false, eq-eqb, ne_eqb, cases_Bool, cases_eq}
use Rattle.std.proofs.lemmas.List.{length-append}
use Rattle.lu_grammar.specs.Bytes.{IsBytes}
use Rattle.doc_marks.specs.Marking.{bits, flags, places, marked, is_in, flags_of, number_of_bits, marking, AreRising}

-- ---- bits and numbers

pub length-bits : (n b : ℕ) → length (bits n b) ≡ n
unfolding bits
length-bits zero b = refl
length-bits (suc n) b = ap suc (length-bits n (b / 2))

pub length-flags : (bytes : List ℕ) → length (flags bytes) ≡ 8 * length bytes
unfolding flags
length-flags [] = omega arith
length-flags (b ∷ bytes) = omega (arith, length-append (bits 8 b) (flags bytes), length-bits 8 b, length-flags bytes)

bits-odd : (n m : ℕ) → bits (suc n) (1 + 2 * m) ≡ true ∷ bits n m
unfolding bits
bits-odd n m =
    let odd : (1 + 2 * m) % 2 ≡ 1 = omega arith in
    let half : (1 + 2 * m) / 2 ≡ m = omega arith in
    let one : eqb ((1 + 2 * m) % 2) 1 ≡ true = eq-eqb _ 1 odd in
    rw (one, half) refl

bits-even : (n m : ℕ) → bits (suc n) (2 * m) ≡ false ∷ bits n m
unfolding bits
bits-even n m =
    let even : (2 * m) % 2 ≡ 0 = omega arith in
    let half : (2 * m) / 2 ≡ m = omega arith in
    let none : eqb ((2 * m) % 2) 1 ≡ false = ne_eqb _ 1 (omega arith) in
    rw (none, half) refl

pub bits-number_of_bits : (fs : List Bool) → bits (length fs) (number_of_bits fs) ≡ fs
unfolding number_of_bits bits
bits-number_of_bits [] = refl
bits-number_of_bits (true ∷ fs) = bits-odd (length fs) (number_of_bits fs) ∙ ap (λ (t : List Bool). true ∷ t) (bits-number_of_bits fs)
bits-number_of_bits (false ∷ fs) = bits-even (length fs) (number_of_bits fs) ∙ ap (λ (t : List Bool). false ∷ t) (bits-number_of_bits fs)

pub number_of_bits-below : (fs : List Bool) → number_of_bits fs < 2 ^ length fs
unfolding number_of_bits
number_of_bits-below [] = omega arith
number_of_bits-below (true ∷ fs) = omega (arith, number_of_bits-below fs, pow-suc 2 (length fs))
number_of_bits-below (false ∷ fs) = omega (arith, number_of_bits-below fs, pow-suc 2 (length fs))

pub number_of_bits-bits : (n b : ℕ) → b < 2 ^ n → number_of_bits (bits n b) ≡ b
unfolding number_of_bits bits
number_of_bits-bits zero b lt = omega arith
number_of_bits-bits (suc n) b lt =
    let more : number_of_bits (bits n (b / 2)) ≡ b / 2 = number_of_bits-bits n (b / 2) (omega (arith, pow-suc 2 n)) in
    elim (cases_eq (b % 2) 1) [
      | inl odd ↦ let one : eqb (b % 2) 1 ≡ true = eq-eqb (b % 2) 1 odd in rw (one, more) (omega arith)
      | inr even ↦ let none : eqb (b % 2) 1 ≡ false = ne_eqb (b % 2) 1 even in rw (none, more) (omega arith)
    ]

-- ---- places

pub places-append : (first : ℕ) (a b : List Bool) → places first (a ++ b) ≡ places first a ++ places (first + length a) b
unfolding places
places-append first [] b = ap (λ (n : ℕ). places n b) (let e : first ≡ first + 0 = omega arith in e)
places-append first (true ∷ a) b =
    ap (λ (t : List ℕ). first ∷ t) (places-append (suc first) a b ∙ ap (λ (n : ℕ). places (suc first) a ++ places n b) (let e : suc first + length a ≡ first + suc (length a) = omega arith in e))
places-append first (false ∷ a) b = places-append (suc first) a b ∙ ap (λ (n : ℕ). places (suc first) a ++ places n b) (let e : suc first + length a ≡ first + suc (length a) = omega arith in e)

pub AreRising-later : (first later size : ℕ) (docs : List ℕ) → first ≤ later → AreRising later size docs → AreRising first size docs
AreRising-later first later size [] le h = tt
AreRising-later first later size (d ∷ ds) le h = (omega (arith, h.0), h.1, h.2)

pub AreRising-wider : (first size larger : ℕ) (docs : List ℕ) → size ≤ larger → AreRising first size docs → AreRising first larger docs
AreRising-wider first size larger [] le h = tt
AreRising-wider first size larger (d ∷ ds) le h = (h.0, omega (arith, h.1), AreRising-wider (suc d) size larger ds le h.2)

pub AreRising-append : (first middle size : ℕ) (a b : List ℕ) → AreRising first middle a → AreRising first size a → AreRising middle size b → first ≤ middle → AreRising first size (a ++ b)
AreRising-append first middle size [] b low all high le = AreRising-later first middle size b le high
AreRising-append first middle size (d ∷ ds) b low all high le = (all.0, all.1, AreRising-append (suc d) middle size ds b low.2 all.2 high (omega (arith, low.1)))

pub AreRising-places : (first : ℕ) (fs : List Bool) → AreRising first (first + length fs) (places first fs)
unfolding places
AreRising-places first [] = tt
AreRising-places first (true ∷ fs) =
    (omega arith, omega arith, subst (λ (n : ℕ). AreRising (suc first) n (places (suc first) fs)) (let e : suc first + length fs ≡ first + suc (length fs) = omega arith in e) (AreRising-places (suc first) fs))
AreRising-places first (false ∷ fs) =
    AreRising-later first (suc first) (first + suc (length fs)) (places (suc first) fs) (omega arith)
    (subst (λ (n : ℕ). AreRising (suc first) n (places (suc first) fs)) (let e : suc first + length fs ≡ first + suc (length fs) = omega arith in e) (AreRising-places (suc first) fs))

-- ---- membership

-- what is before the first is not among rising documents, and neither is what is not below the size
pub is_in-before : (doc first size : ℕ) (docs : List ℕ) → doc < first → AreRising first size docs → is_in doc docs ≡ false
unfolding is_in
is_in-before doc first size [] lt h = refl
is_in-before doc first size (d ∷ ds) lt h =
    let other : eqb d doc ≡ false = ne_eqb d doc (omega (arith, h.0)) in
    rw other (is_in-before doc (suc d) size ds (omega (arith, h.0)) h.2)

pub is_in-past : (doc first size : ℕ) (docs : List ℕ) → size ≤ doc → AreRising first size docs → is_in doc docs ≡ false
unfolding is_in
is_in-past doc first size [] le h = refl
is_in-past doc first size (d ∷ ds) le h =
    let other : eqb d doc ≡ false = ne_eqb d doc (omega (arith, h.1)) in
    rw other (is_in-past doc (suc d) size ds le h.2)

pub is_in-append : (doc : ℕ) (a b : List ℕ) → is_in doc (a ++ b) ≡ (is_in doc a || is_in doc b)
unfolding is_in
is_in-append doc [] b = refl
is_in-append doc (d ∷ ds) b = elim (cases_Bool (eqb d doc)) [
  | inl same ↦ rw same refl
  | inr other ↦ rw other (is_in-append doc ds b)
]

-- ---- documents to bits

pub length-flags_of : (first n : ℕ) (docs : List ℕ) → length (flags_of first n docs) ≡ n
unfolding flags_of
length-flags_of first zero docs = refl
length-flags_of first (suc n) docs = ap suc (length-flags_of (suc first) n docs)

pub flags_of-append : (first m n : ℕ) (docs : List ℕ) → flags_of first (m + n) docs ≡ flags_of first m docs ++ flags_of (first + m) n docs
unfolding flags_of
flags_of-append first zero n docs = ap (λ (k : ℕ). flags_of first k docs) (let e : zero + n ≡ n = omega arith in e) ∙ ap (λ (k : ℕ). flags_of k n docs) (let e : first ≡ first + 0 = omega arith in e)
flags_of-append first (suc m) n docs =
    ap (λ (k : ℕ). flags_of first k docs) (let e : suc m + n ≡ suc (m + n) = omega arith in e)
    ∙ ap (λ (t : List Bool). is_in first docs ∷ t) (flags_of-append (suc first) m n docs)
    ∙ ap (λ (k : ℕ). is_in first docs ∷ (flags_of (suc first) m docs ++ flags_of k n docs)) (let e : suc first + m ≡ first + suc m = omega arith in e)

-- a document before the first one that is asked for changes nothing
pub flags_of-before : (first n d : ℕ) (docs : List ℕ) → d < first → flags_of first n (d ∷ docs) ≡ flags_of first n docs
unfolding flags_of is_in
flags_of-before first zero d docs lt = refl
flags_of-before first (suc n) d docs lt =
    let other : eqb d first ≡ false = ne_eqb d first (omega arith) in
    rw other (ap (λ (t : List Bool). is_in first docs ∷ t) (flags_of-before (suc first) n d docs (omega arith)))

pub flags_of-places : (first : ℕ) (fs : List Bool) → flags_of first (length fs) (places first fs) ≡ fs
unfolding flags_of places is_in
flags_of-places first [] = refl
flags_of-places first (true ∷ fs) =
    let same : eqb first first ≡ true = eq-eqb first first refl in
    rw same (ap (λ (t : List Bool). true ∷ t) (flags_of-before (suc first) (length fs) first (places (suc first) fs) (omega arith) ∙ flags_of-places (suc first) fs))
flags_of-places first (false ∷ fs) =
    let none : is_in first (places (suc first) fs) ≡ false = is_in-before first (suc first) (suc first + length fs) (places (suc first) fs) (omega arith) (AreRising-places (suc first) fs) in
    ap (λ (f : Bool). f ∷ flags_of (suc first) (length fs) (places (suc first) fs)) none ∙ ap (λ (t : List Bool). false ∷ t) (flags_of-places (suc first) fs)

pub places-flags_of : (first n : ℕ) (docs : List ℕ) → AreRising first (first + n) docs → places first (flags_of first n docs) ≡ docs
unfolding flags_of places is_in
places-flags_of first zero [] h = refl
places-flags_of first zero (d ∷ ds) h = absurd (omega (arith, h.0, h.1))
places-flags_of first (suc n) [] h = places-flags_of (suc first) n [] tt
places-flags_of first (suc n) (d ∷ ds) h =
    elim (cases_eq d first) [
      | inl is ↦
          let same : eqb d first ≡ true = eq-eqb d first is in
          let rest : AreRising (suc first) (suc first + n) ds = subst (λ (m : ℕ). AreRising (suc first) m ds) (let e : first + suc n ≡ suc first + n = omega arith in e) (subst (λ (m : ℕ). AreRising (suc m) (first + suc n) ds) is h.2) in
          rw same (ap (λ (t : List Bool). first ∷ places (suc first) t) (flags_of-before (suc first) n d ds (omega arith)) ∙ ap (λ (t : List ℕ). first ∷ t) (places-flags_of (suc first) n ds rest) ∙ ap (λ (m : ℕ). m ∷ ds) (sym is))
      | inr not_first ↦
          let above : suc first ≤ d = omega (arith, h.0, not_first) in
          let other : eqb d first ≡ false = ne_eqb d first not_first in
          let none : is_in first ds ≡ false = is_in-before first (suc d) (first + suc n) ds (omega arith) h.2 in
          let rest : AreRising (suc first) (suc first + n) (d ∷ ds) = (above, omega (arith, h.1), subst (λ (m : ℕ). AreRising (suc d) m ds) (let e : first + suc n ≡ suc first + n = omega arith in e) h.2) in
          rw (other, none) (places-flags_of (suc first) n (d ∷ ds) rest)
    ]

-- ---- documents to bytes

byte-bits : (first : ℕ) (docs : List ℕ) → bits 8 (number_of_bits (flags_of first 8 docs)) ≡ flags_of first 8 docs
byte-bits first docs = ap (λ (n : ℕ). bits n (number_of_bits (flags_of first 8 docs))) (sym (length-flags_of first 8 docs)) ∙ bits-number_of_bits (flags_of first 8 docs)

pub length-marking : (first n : ℕ) (docs : List ℕ) → length (marking first n docs) ≡ n
unfolding marking
length-marking first zero docs = refl
length-marking first (suc n) docs = ap suc (length-marking (first + 8) n docs)

pub flags-marking : (first n : ℕ) (docs : List ℕ) → flags (marking first n docs) ≡ flags_of first (8 * n) docs
unfolding flags marking flags_of
flags-marking first zero docs = ap (λ (k : ℕ). flags_of first k docs) (let e : 0 ≡ 8 * zero = omega arith in e)
flags-marking first (suc n) docs =
    ap (λ (t : List Bool). t ++ flags (marking (first + 8) n docs)) (byte-bits first docs)
    ∙ ap (λ (t : List Bool). flags_of first 8 docs ++ t) (flags-marking (first + 8) n docs)
    ∙ sym (flags_of-append first 8 (8 * n) docs)
    ∙ ap (λ (k : ℕ). flags_of first k docs) (let e : 8 + 8 * n ≡ 8 * suc n = omega arith in e)

pub IsBytes-marking : (first n : ℕ) (docs : List ℕ) → IsBytes (marking first n docs)
unfolding marking
IsBytes-marking first zero docs i = omega arith
IsBytes-marking first (suc n) docs zero = omega (arith, number_of_bits-below (flags_of first 8 docs), ap (λ (k : ℕ). 2 ^ k) (length-flags_of first 8 docs))
IsBytes-marking first (suc n) docs (suc i) = IsBytes-marking (first + 8) n docs i

-- the bytes that mark rising documents mark exactly these
pub marked-marking : (n size : ℕ) (docs : List ℕ) → AreRising 0 size docs → size ≤ 8 * n → marked (marking 0 n docs) ≡ docs
marked-marking n size docs rise le = ap (places 0) (flags-marking 0 n docs) ∙ places-flags_of 0 (8 * n) docs (AreRising-wider 0 size (0 + 8 * n) docs (omega arith) rise)

same_front : (a b x y : List Bool) → length a ≡ length b → a ++ x ≡ b ++ y → (a ≡ b) × (x ≡ y)
same_front [] [] x y long e = (refl, e)
same_front [] (g ∷ b) x y long e = absurd (omega (arith, long))
same_front (f ∷ a) [] x y long e = absurd (omega (arith, long))
same_front (f ∷ a) (g ∷ b) x y long e =
    let heads : f ≡ g = cc in
    let tails : a ++ x ≡ b ++ y = cc in
    let more = same_front a b x y (omega (arith, long)) tails in
    (ap (λ (h : Bool). h ∷ a) heads ∙ ap (λ (t : List Bool). g ∷ t) more.0, more.1)

-- bytes are those that mark the documents that their bits are set for
pub marking-flags : (first : ℕ) (found docs : List ℕ) → IsBytes found → flags_of first (8 * length found) docs ≡ flags found → marking first (length found) docs ≡ found
unfolding marking flags
marking-flags first [] docs fits e = refl
marking-flags first (b ∷ bs) docs fits e =
    let split : flags_of first 8 docs ++ flags_of (first + 8) (8 * length bs) docs ≡ bits 8 b ++ flags bs =
    sym (flags_of-append first 8 (8 * length bs) docs) ∙ ap (λ (k : ℕ). flags_of first k docs) (let e : 8 + 8 * length bs ≡ 8 * suc (length bs) = omega arith in e) ∙ e in
    let parts = same_front (flags_of first 8 docs) (bits 8 b) (flags_of (first + 8) (8 * length bs) docs) (flags bs) (length-flags_of first 8 docs ∙ sym (length-bits 8 b)) split in
    let here : number_of_bits (flags_of first 8 docs) ≡ b = ap number_of_bits parts.0 ∙ number_of_bits-bits 8 b (fits 0) in
    ap (λ (n : ℕ). n ∷ marking (first + 8) (length bs) docs) here ∙ ap (λ (t : List ℕ). b ∷ t) (marking-flags (first + 8) bs docs (λ i. fits (suc i)) parts.1)

pub marking-marked : (found : List ℕ) → IsBytes found → marking 0 (length found) (marked found) ≡ found
marking-marked found fits =
    marking-flags 0 found (marked found) fits
    (ap (λ (n : ℕ). flags_of 0 n (marked found)) (sym (length-flags found)) ∙ flags_of-places 0 (flags found))

-- ---- what is not past the size

pub AreRising-not_past : (first larger size : ℕ) (docs : List ℕ) → AreRising first larger docs → list_any (λ doc. leb size doc) docs ≡ false → AreRising first size docs
AreRising-not_past first larger size [] h fine = tt
AreRising-not_past first larger size (d ∷ ds) h fine =
    elim (cases_Bool (leb size d)) [
      | inl past ↦ absurd (true≢false (rw past at fine))
      | inr below ↦ (h.0, leb-false size d below, AreRising-not_past (suc d) larger size ds h.2 (rw below at fine))
    ]
