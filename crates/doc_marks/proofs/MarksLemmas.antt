-- Marks that are set one by one.
use Rattle.std.proofs.Common.{◌≡◌, ℕ, zero, suc, ◌+◌, ◌-◌, ◌*◌, ◌/◌, ◌%◌, ◌^◌, ◌<◌, ◌≤◌, Bool, true, false, ◌||◌, leb, List, [], ◌∷◌, ◌++◌, length, take, drop, get_or, set, replicate, refl, sym, ap, subst, ◌∙◌, append_assoc, arith}
use mathlib.Core.Bool.{true≢false}
use Rattle.std.specs.List.{list_any}
use Rattle.std.proofs.Math.Seq.{take-set-lt}
use Rattle.std.proofs.lemmas.Bool.{lt-leb}
use Rattle.std.proofs.lemmas.List.{set-append_right, append-nil, length-append, take-append-drop, length-take, length-set, length-replicate, get_or-take, replicate-append-replicate, take-replicate}
use Rattle.std.proofs.lemmas.List.Folds.{list_any-append}
use Rattle.lu_grammar.specs.Bytes.{IsBytes}
use Rattle.doc_marks.specs.Marking.{bits, flags, flags_of, is_in, places, marked, documents_of, AreRising, AreMarks}
use Rattle.doc_marks.specs.Deletions.{is_past}
use Rattle.doc_marks.proofs.MarkLemmas.{length-flags_of, flags_of-append, length-flags, places-append, AreRising-places, AreRising-not_past}
use Rattle.doc_marks.proofs.FlagLemmas.{bits-set, bit-fits, get-flags, flags-set}

-- ---- the documents below the size

-- documents that are behind others and before them are none
no_documents : (first middle : ℕ) (larger : ℕ) (a b : List ℕ) → AreRising middle larger b → AreRising first middle (a ++ b) → b ≡ []
no_documents first middle larger [] [] high low = refl
no_documents first middle larger [] (d ∷ ds) high low = absurd (omega (arith, high.0, low.1))
no_documents first middle larger (x ∷ a) b high low = no_documents (suc x) middle larger a b high low.2

-- the flags past the last document are clear
pub documents-take : (size : ℕ) (fs : List Bool) → size ≤ length fs → AreRising 0 size (places 0 fs) → documents_of (take size fs) ≡ places 0 fs
documents-take size fs le rise =
    let front = take size fs in
    let rest = drop size fs in
    let long : length front ≡ size = omega (arith, length-take size fs) in
    let split : places 0 fs ≡ places 0 front ++ places size rest =
    ap (places 0) (sym (take-append-drop size fs)) ∙ places-append 0 front rest ∙ ap (λ (n : ℕ). places 0 front ++ places n rest) (let e : 0 + length front ≡ size = omega (arith, long) in e) in
    let none : places size rest ≡ [] = no_documents 0 size (size + length rest) (places 0 front) (places size rest) (AreRising-places size rest) (subst (AreRising 0 size) split rise) in
    sym (split ∙ ap (λ (t : List ℕ). places 0 front ++ t) none ∙ append-nil (places 0 front))

pub length-AreRising : (first size : ℕ) (docs : List ℕ) → first ≤ size → AreRising first size docs → first + length docs ≤ size
length-AreRising first size [] le h = omega arith
length-AreRising first size (d ∷ ds) le h = let more = length-AreRising (suc d) size ds (omega (arith, h.1)) h.2 in omega (arith, more, h.0)

pub not_past-AreRising : (first size : ℕ) (docs : List ℕ) → AreRising first size docs → is_past size docs ≡ false
not_past-AreRising first size [] h = refl
not_past-AreRising first size (d ∷ ds) h = let below : leb size d ≡ false = lt-leb size d h.1 in rw below (not_past-AreRising (suc d) size ds h.2)

-- ---- bytes

IsBytes-set : (found : List ℕ) (i b : ℕ) → IsBytes found → b < 256 → IsBytes (set found i b)
IsBytes-set [] i b fits low j = fits j
IsBytes-set (x ∷ found) zero b fits low zero = low
IsBytes-set (x ∷ found) zero b fits low (suc j) = fits (suc j)
IsBytes-set (x ∷ found) (suc i) b fits low zero = fits zero
IsBytes-set (x ∷ found) (suc i) b fits low (suc j) = IsBytes-set found i b (λ k. fits (suc k)) low j

IsBytes-zeros : (n : ℕ) → IsBytes (replicate n 0)
IsBytes-zeros zero j = omega arith
IsBytes-zeros (suc n) zero = omega arith
IsBytes-zeros (suc n) (suc j) = IsBytes-zeros n j

-- ---- one document more

-- a document among others
pub record Inserted (doc : ℕ) (old new : List ℕ) : Type 0 where
  pub before : List ℕ
  pub after : List ℕ
  pub was : old ≡ before ++ after
  pub is : new ≡ before ++ doc ∷ after

pub places-set : (first : ℕ) (fs : List Bool) (k : ℕ) → k < length fs → get_or fs k false ≡ false → Inserted (first + k) (places first fs) (places first (set fs k true))
unfolding places
places-set first [] k lt clear = absurd (omega arith)
places-set first (true ∷ fs) zero lt clear = absurd (true≢false clear)
places-set first (false ∷ fs) zero lt clear = record { before = []; after = places (suc first) fs; was = refl; is = ap (λ (n : ℕ). n ∷ places (suc first) fs) (let e : first ≡ first + zero = omega arith in e) }
places-set first (true ∷ fs) (suc k) lt clear =
    let more = places-set (suc first) fs k (omega arith) clear in
    record {
      before = first ∷ more.before;
      after = more.after;
      was = ap (λ (t : List ℕ). first ∷ t) more.was;
      is = ap (λ (t : List ℕ). first ∷ t) more.is ∙ ap (λ (n : ℕ). first ∷ (more.before ++ n ∷ more.after)) (let e : suc first + k ≡ first + suc k = omega arith in e);
    }
places-set first (false ∷ fs) (suc k) lt clear =
    let more = places-set (suc first) fs k (omega arith) clear in
    record { before = more.before; after = more.after; was = more.was; is = more.is ∙ ap (λ (n : ℕ). more.before ++ n ∷ more.after) (let e : suc first + k ≡ first + suc k = omega arith in e) }

length-Inserted : (doc : ℕ) (old new : List ℕ) → Inserted doc old new → length new ≡ length old + 1
length-Inserted doc old new h = omega (arith, ap length h.was, ap length h.is, length-append h.before h.after, length-append h.before (doc ∷ h.after))

not_past-Inserted : (size doc : ℕ) (old new : List ℕ) → doc < size → Inserted doc old new → is_past size old ≡ false → is_past size new ≡ false
not_past-Inserted size doc old new lt h fine =
    let p = λ (d : ℕ). leb size d in
    let below : leb size doc ≡ false = lt-leb size doc lt in
    let parts : (list_any p h.before || list_any p h.after) ≡ false = sym (list_any-append p h.before h.after) ∙ ap (is_past size) (sym h.was) ∙ fine in
    ap (is_past size) h.is ∙ list_any-append p h.before (doc ∷ h.after) ∙ rw below parts

-- ---- the bytes of marks

module _ (size count : ℕ) (found : List ℕ) (m : AreMarks size count found) where
  room : size ≤ length (flags found)
  room = omega (arith, length-flags found, m.long)

  pub length-marks : length (take size (flags found)) ≡ size
  length-marks = omega (arith, length-take size (flags found), room)

  pub documents-marks : documents_of (take size (flags found)) ≡ marked found
  documents-marks = documents-take size (flags found) room m.rise

  pub count-below : count < 2 ^ 31
  count-below = omega (arith, m.few, m.number, length-AreRising 0 size (marked found) (omega arith) m.rise)

  module _ (doc : ℕ) (lt : doc < size) where
    pub byte-within : doc / 8 < length found
    byte-within = omega (arith, m.long, lt)

    -- the flag of a document is the bit of its byte
    pub get-marks : get_or (take size (flags found)) doc false ≡ get_or (bits 8 (get_or found (doc / 8) 0)) (doc % 8) false
    get-marks =
        get_or-take size (flags found) doc false lt
        ∙ ap (λ (n : ℕ). get_or (flags found) n false) (let e : doc ≡ 8 * (doc / 8) + doc % 8 = omega arith in e)
        ∙ get-flags found (doc / 8) (doc % 8) byte-within (omega arith)

    module _ (clear : get_or (bits 8 (get_or found (doc / 8) 0)) (doc % 8) false ≡ false) where
      abbrev pub new-byte : ℕ
      new-byte = get_or found (doc / 8) 0 + 2 ^ (doc % 8)

      pub byte-below : new-byte < 256
      byte-below = bit-fits 8 (get_or found (doc / 8) 0) (doc % 8) (omega arith) (m.fits (doc / 8)) clear

      flags-new : flags (set found (doc / 8) new-byte) ≡ set (flags found) doc true
      flags-new =
          flags-set found (doc / 8) (doc % 8) new-byte byte-within (omega arith) (bits-set 8 (get_or found (doc / 8) 0) (doc % 8) (omega arith) clear)
          ∙ ap (λ (n : ℕ). set (flags found) n true) (let e : 8 * (doc / 8) + doc % 8 ≡ doc = omega arith in e)

      pub marks-set : take size (flags (set found (doc / 8) new-byte)) ≡ set (take size (flags found)) doc true
      marks-set = ap (take size) flags-new ∙ take-set-lt size (flags found) doc true lt

      inserted : Inserted doc (marked found) (marked (set found (doc / 8) new-byte))
      inserted =
          let flag : get_or (flags found) doc false ≡ false = sym (get_or-take size (flags found) doc false lt) ∙ get-marks ∙ clear in
          let h = places-set 0 (flags found) doc (omega (arith, room)) flag in
          record {
            before = h.before;
            after = h.after;
            was = h.was;
            is = ap (places 0) flags-new ∙ h.is ∙ ap (λ (n : ℕ). h.before ++ n ∷ h.after) (let e : 0 + doc ≡ doc = omega arith in e);
          }

      pub AreMarks-set : AreMarks size (count + 1) (set found (doc / 8) new-byte)
      AreMarks-set =
          let new = set found (doc / 8) new-byte in
          record {
            few = m.few;
            long = length-set found (doc / 8) new-byte ∙ m.long;
            rise = AreRising-not_past 0 (0 + length (flags new)) size (marked new) (AreRising-places 0 (flags new)) (not_past-Inserted size doc (marked found) (marked new) lt inserted (not_past-AreRising 0 size (marked found) m.rise));
            number = length-Inserted doc (marked found) (marked new) inserted ∙ ap (λ (n : ℕ). n + 1) m.number;
            fits = IsBytes-set found (doc / 8) new-byte m.fits byte-below;
          }

-- ---- no marks

pub flags-zeros : (n : ℕ) → flags (replicate n 0) ≡ replicate (8 * n) false
unfolding flags bits
flags-zeros zero = ap (λ (k : ℕ). replicate k false) (let e : 0 ≡ 8 * zero = omega arith in e)
flags-zeros (suc n) =
    ap (λ (t : List Bool). bits 8 0 ++ t) (flags-zeros n)
    ∙ replicate-append-replicate 8 (8 * n) false
    ∙ ap (λ (k : ℕ). replicate k false) (let e : 8 + 8 * n ≡ 8 * suc n = omega arith in e)

places-clear : (first n : ℕ) → places first (replicate n false) ≡ []
unfolding places
places-clear first zero = refl
places-clear first (suc n) = places-clear (suc first) n

pub marks-none : (size : ℕ) → take size (flags (replicate (size / 8 + 1) 0)) ≡ replicate size false
marks-none size = ap (take size) (flags-zeros (size / 8 + 1)) ∙ take-replicate size (8 * (size / 8 + 1)) false (omega arith)

pub AreMarks-none : (size : ℕ) → size < 2 ^ 31 → AreMarks size 0 (replicate (size / 8 + 1) 0)
AreMarks-none size few =
    let none : marked (replicate (size / 8 + 1) 0) ≡ [] = ap (places 0) (flags-zeros (size / 8 + 1)) ∙ places-clear 0 (8 * (size / 8 + 1)) in
    record { few = few; long = length-replicate (size / 8 + 1) 0; rise = subst (AreRising 0 size) (sym none) tt; number = ap length none; fits = IsBytes-zeros (size / 8 + 1) }

-- ---- one document after another

-- the next one is among the documents, or not
flag-set : (front : List Bool) (doc left : ℕ) → length front ≡ doc → set (front ++ replicate (suc left) false) doc true ≡ (front ++ true ∷ []) ++ replicate left false
flag-set front doc left is =
    set-append_right front (replicate (suc left) false) doc doc true is (omega arith)
    ∙ ap (λ (n : ℕ). front ++ set (replicate (suc left) false) n true) (let e : doc - doc ≡ 0 = omega arith in e)
    ∙ sym (append_assoc front (true ∷ []) (replicate left false))

flags-next : (doc : ℕ) (docs : List ℕ) → flags_of 0 (doc + 1) docs ≡ flags_of 0 doc docs ++ is_in doc docs ∷ []
unfolding flags_of
flags-next doc docs = flags_of-append 0 doc 1 docs ∙ ap (λ (n : ℕ). flags_of 0 doc docs ++ is_in n docs ∷ []) (let e : 0 + doc ≡ doc = omega arith in e)

more-left : (size doc : ℕ) → doc < size → replicate (size - doc) false ≡ replicate (suc (size - (doc + 1))) false
more-left size doc lt = ap (λ (n : ℕ). replicate n false) (let e : size - doc ≡ suc (size - (doc + 1)) = omega arith in e)

pub next-marked : (size doc : ℕ) (docs : List ℕ) → doc < size → is_in doc docs ≡ true → set (flags_of 0 doc docs ++ replicate (size - doc) false) doc true ≡ flags_of 0 (doc + 1) docs ++ replicate (size - (doc + 1)) false
next-marked size doc docs lt is =
    let left = size - (doc + 1) in
    ap (λ (t : List Bool). set (flags_of 0 doc docs ++ t) doc true) (more-left size doc lt)
    ∙ flag-set (flags_of 0 doc docs) doc left (length-flags_of 0 doc docs)
    ∙ ap (λ (f : Bool). (flags_of 0 doc docs ++ f ∷ []) ++ replicate left false) (sym is)
    ∙ ap (λ (t : List Bool). t ++ replicate left false) (sym (flags-next doc docs))

pub next-clear : (size doc : ℕ) (docs : List ℕ) → doc < size → is_in doc docs ≡ false → flags_of 0 doc docs ++ replicate (size - doc) false ≡ flags_of 0 (doc + 1) docs ++ replicate (size - (doc + 1)) false
next-clear size doc docs lt is =
    let left = size - (doc + 1) in
    ap (λ (t : List Bool). flags_of 0 doc docs ++ t) (more-left size doc lt)
    ∙ sym (append_assoc (flags_of 0 doc docs) (false ∷ []) (replicate left false))
    ∙ ap (λ (f : Bool). (flags_of 0 doc docs ++ f ∷ []) ++ replicate left false) (sym is)
    ∙ ap (λ (t : List Bool). t ++ replicate left false) (sym (flags-next doc docs))

pub all-marked : (size doc : ℕ) (docs : List ℕ) → doc ≡ size → flags_of 0 doc docs ++ replicate (size - doc) false ≡ flags_of 0 size docs
all-marked size doc docs is =
    ap (λ (n : ℕ). flags_of 0 doc docs ++ replicate n false) (let e : size - doc ≡ 0 = omega arith in e) ∙ append-nil (flags_of 0 doc docs) ∙ ap (λ (n : ℕ). flags_of 0 n docs) is
