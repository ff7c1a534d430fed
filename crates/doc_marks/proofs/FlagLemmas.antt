-- One bit of a byte, one flag of some bytes, and the document that it stands for.
use Rattle.std.proofs.Common.{◌≡◌, ◌≢◌, ℕ, zero, suc, ◌+◌, ◌-◌, ◌*◌, ◌/◌, ◌%◌, ◌^◌, ◌<◌, ◌≤◌, Bool, true, false, eqb, List, [], ◌∷◌, ◌++◌, length, get_or, set, refl, sym, ap, ◌∙◌, arith, inl, inr, pow-suc}
use Rattle.std.proofs.Math.Nat.{div-div-eq-div-mul}
use Rattle.std.proofs.lemmas.Bool.{eq-eqb, ne_eqb, eqb-false, cases_lt}
use Rattle.std.proofs.lemmas.List.{get_or_append_left, get_or-append_right, set-append_left, set-append_right}
use Rattle.doc_marks.specs.Marking.{bits, flags, places, marked, marked_at, is_in, AreRising}
use Rattle.doc_marks.proofs.MarkLemmas.{length-bits, length-flags, AreRising-places, is_in-before, is_in-past}

-- ---- a bit

pub get-bits : (n b k : ℕ) → k < n → get_or (bits n b) k false ≡ eqb (b / 2 ^ k % 2) 1
unfolding bits
get-bits zero b k lt = absurd (omega arith)
get-bits (suc n) b zero lt = ap (λ (m : ℕ). eqb (m % 2) 1) (let e : b ≡ b / 2 ^ 0 = omega arith in e)
get-bits (suc n) b (suc k) lt =
    get-bits n (b / 2) k (omega arith)
    ∙ ap (λ (m : ℕ). eqb (m % 2) 1) (div-div-eq-div-mul b 2 (2 ^ k) ∙ ap (λ (m : ℕ). b / m) (let e : 2 * 2 ^ k ≡ 2 ^ suc k = omega (arith, pow-suc 2 k) in e))

-- a clear bit is set by adding its value
pub bits-set : (n b k : ℕ) → k < n → get_or (bits n b) k false ≡ false → bits n (b + 2 ^ k) ≡ set (bits n b) k true
unfolding bits
bits-set zero b k lt clear = absurd (omega arith)
bits-set (suc n) b zero lt clear =
    let even : b % 2 ≢ 1 = eqb-false (b % 2) 1 clear in
    let odd : (b + 2 ^ 0) % 2 ≡ 1 = omega (arith, even) in
    let half : (b + 2 ^ 0) / 2 ≡ b / 2 = omega (arith, even) in
    let one : eqb ((b + 2 ^ 0) % 2) 1 ≡ true = eq-eqb _ 1 odd in
    rw (one, half) refl
bits-set (suc n) b (suc k) lt clear =
    let double : 2 ^ suc k ≡ 2 * 2 ^ k = omega (arith, pow-suc 2 k) in
    let low : (b + 2 ^ suc k) % 2 ≡ b % 2 = omega (arith, double) in
    let half : (b + 2 ^ suc k) / 2 ≡ b / 2 + 2 ^ k = omega (arith, double) in
    ap (λ (m : ℕ). eqb m 1 ∷ bits n ((b + 2 ^ suc k) / 2)) low ∙ ap (λ (m : ℕ). eqb (b % 2) 1 ∷ bits n m) half ∙ ap (λ (t : List Bool). eqb (b % 2) 1 ∷ t) (bits-set n (b / 2) k (omega arith) clear)

-- and the sum has as few bits
pub bit-fits : (n b k : ℕ) → k < n → b < 2 ^ n → get_or (bits n b) k false ≡ false → b + 2 ^ k < 2 ^ n
unfolding bits
bit-fits zero b k lt below clear = absurd (omega arith)
bit-fits (suc n) b zero lt below clear =
    let even : b % 2 ≢ 1 = eqb-false (b % 2) 1 clear in
    omega (arith, even, pow-suc 2 n)
bit-fits (suc n) b (suc k) lt below clear =
    let more = bit-fits n (b / 2) k (omega arith) (omega (arith, pow-suc 2 n)) clear in
    omega (arith, more, pow-suc 2 n, pow-suc 2 k)

-- ---- a flag of some bytes

pub get-flags : (found : List ℕ) (i k : ℕ) → i < length found → k < 8 → get_or (flags found) (8 * i + k) false ≡ get_or (bits 8 (get_or found i 0)) k false
unfolding flags
get-flags [] i k lt low = absurd (omega arith)
get-flags (b ∷ found) zero k lt low =
    ap (λ (n : ℕ). get_or (bits 8 b ++ flags found) n false) (let e : 8 * zero + k ≡ k = omega arith in e)
    ∙ get_or_append_left (bits 8 b) (flags found) false k (omega (arith, length-bits 8 b))
get-flags (b ∷ found) (suc i) k lt low =
    get_or-append_right (bits 8 b) (flags found) 8 (8 * suc i + k) false (length-bits 8 b) (omega arith)
    ∙ ap (λ (n : ℕ). get_or (flags found) n false) (let e : 8 * suc i + k - 8 ≡ 8 * i + k = omega arith in e)
    ∙ get-flags found i k (omega arith) low

pub flags-set : (found : List ℕ) (i k b : ℕ) → i < length found → k < 8 → bits 8 b ≡ set (bits 8 (get_or found i 0)) k true → flags (set found i b) ≡ set (flags found) (8 * i + k) true
unfolding flags
flags-set [] i k b lt low e = absurd (omega arith)
flags-set (a ∷ found) zero k b lt low e =
    ap (λ (t : List Bool). t ++ flags found) e
    ∙ sym (set-append_left (bits 8 a) (flags found) k true (omega (arith, length-bits 8 a)))
    ∙ ap (λ (n : ℕ). set (bits 8 a ++ flags found) n true) (let m : k ≡ 8 * zero + k = omega arith in m)
flags-set (a ∷ found) (suc i) k b lt low e =
    ap (λ (t : List Bool). bits 8 a ++ t) (flags-set found i k b (omega arith) low e)
    ∙ ap (λ (n : ℕ). bits 8 a ++ set (flags found) n true) (let m : 8 * i + k ≡ 8 * suc i + k - 8 = omega arith in m)
    ∙ sym (set-append_right (bits 8 a) (flags found) 8 (8 * suc i + k) true (length-bits 8 a) (omega arith))

-- ---- a document

pub is_in-places : (first k : ℕ) (fs : List Bool) → is_in (first + k) (places first fs) ≡ get_or fs k false
unfolding places is_in
is_in-places first k [] = refl
is_in-places first zero (true ∷ fs) = let same : eqb first (first + zero) ≡ true = eq-eqb _ _ (omega arith) in rw same refl
is_in-places first zero (false ∷ fs) = is_in-before (first + zero) (suc first) (suc first + length fs) (places (suc first) fs) (omega arith) (AreRising-places (suc first) fs)
is_in-places first (suc k) (true ∷ fs) =
    let other : eqb first (first + suc k) ≡ false = ne_eqb _ _ (omega arith) in
    rw other (ap (λ (n : ℕ). is_in n (places (suc first) fs)) (let e : first + suc k ≡ suc first + k = omega arith in e) ∙ is_in-places (suc first) k fs)
is_in-places first (suc k) (false ∷ fs) = ap (λ (n : ℕ). is_in n (places (suc first) fs)) (let e : first + suc k ≡ suc first + k = omega arith in e) ∙ is_in-places (suc first) k fs

-- the document of a byte, and of some bytes
pub is_in-marked_at : (index doc marks : ℕ) → index ≡ doc / 8 → is_in doc (marked_at index marks) ≡ get_or (bits 8 marks) (doc % 8) false
is_in-marked_at index doc marks is =
    ap (λ (n : ℕ). is_in n (marked_at index marks)) (let e : doc ≡ 8 * index + doc % 8 = omega (arith, is) in e) ∙ is_in-places (8 * index) (doc % 8) (bits 8 marks)

pub is_in-other_byte : (index doc marks : ℕ) → index ≢ doc / 8 → is_in doc (marked_at index marks) ≡ false
is_in-other_byte index doc marks other =
    let rise : AreRising (8 * index) (8 * index + length (bits 8 marks)) (marked_at index marks) = AreRising-places (8 * index) (bits 8 marks) in
    elim (cases_lt doc (8 * index)) [
      | inl lt ↦ is_in-before doc (8 * index) _ (marked_at index marks) lt rise
      | inr le ↦ is_in-past doc (8 * index) _ (marked_at index marks) (omega (arith, length-bits 8 marks, other)) rise
    ]

pub is_in-marked : (doc : ℕ) (found : List ℕ) → doc / 8 < length found → is_in doc (marked found) ≡ get_or (bits 8 (get_or found (doc / 8) 0)) (doc % 8) false
is_in-marked doc found lt =
    ap (λ (n : ℕ). is_in n (marked found)) (let e : doc ≡ 0 + doc = omega arith in e) ∙ is_in-places 0 doc (flags found) ∙ ap (λ (n : ℕ). get_or (flags found) n false) (let e : doc ≡ 8 * (doc / 8) + doc % 8 = omega arith in e) ∙ get-flags found (doc / 8) (doc % 8) lt (omega arith)

pub is_in-no_byte : (doc : ℕ) (found : List ℕ) → length found ≤ doc / 8 → is_in doc (marked found) ≡ false
is_in-no_byte doc found le = is_in-past doc 0 (0 + length (flags found)) (marked found) (omega (arith, length-flags found)) (AreRising-places 0 (flags found))
