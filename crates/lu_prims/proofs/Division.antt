-- The division eight bits at a time, by a register of 32 bits.
use Rattle.std.proofs.Common.{◌≡◌, ◌⊎◌, ℕ, zero, suc, ◌+◌, ◌*◌, ◌/◌, ◌%◌, ◌^◌, ◌<◌, ◌≤◌, Bool, true, false, not, cond, List, [], ◌∷◌, ◌++◌, length, map, refl, sym, ap, ◌∙◌, ⊎_elim, inl, inr, arith}
use Rattle.std.specs.Prelude.{replicate, bit_xor, ◌==◌}
use Rattle.std.proofs.Math.Nat.{pow-suc, pow-succ', mul_assoc}
use Rattle.std.proofs.lemmas.Bool.{cases_lt}
use Rattle.std.proofs.lemmas.Bool.Decides.{nat_tests}
use Rattle.std.proofs.lemmas.Nat.{xor_shr, xor_lt, xor_comm, shr_split, mod_below, pow_pos}
use Rattle.std.specs.Int.Bits.{xor_assoc, xor_zero_r, xor_shifted}
use Rattle.std.proofs.lemmas.Nat.Bits.{bit_at_xor}
use Rattle.lu_prims.specs.Checksum.{lowest_bits, number_of_bits, add_front, divisor, remainder}

-- ---- bits of numbers

-- the parity of a number as a bit
abbrev pub is_odd : ℕ → Bool
is_odd n = n % 2 == 1

odd_is : (n : ℕ) → (is_odd n ≡ true → n % 2 ≡ 1) × (is_odd n ≡ false → n % 2 ≡ 0)
odd_is n = (λ h. grind (arith, nat_tests), λ h. grind (arith, nat_tests))

odd_from : (n : ℕ) → (n % 2 ≡ 1 → is_odd n ≡ true) × (n % 2 ≡ 0 → is_odd n ≡ false)
odd_from n = (λ h. grind (arith, nat_tests), λ h. grind (arith, nat_tests))

parity : (n : ℕ) → (n % 2 ≡ 0) ⊎ (n % 2 ≡ 1)
parity n = ⊎_elim (λ (h : n % 2 < 1). inl (omega arith)) (λ (h : 1 ≤ n % 2). inr (omega arith)) (cases_lt (n % 2) 1)

-- the lowest bit of an exclusive or, and the others
xor_low : (a b : ℕ) → bit_xor a b % 2 ≡ (a % 2 + b % 2) % 2
xor_low a b = let e = bit_at_xor a b 0 in omega (arith, e)

odd_xor : (a b : ℕ) → is_odd (bit_xor a b) ≡ cond (is_odd a) (not (is_odd b)) (is_odd b)
odd_xor a b =
    let e = xor_low a b in
    ⊎_elim
    (λ (ha : a % 2 ≡ 0). ⊎_elim
    (λ (hb : b % 2 ≡ 0). (odd_from (bit_xor a b)).1 (omega arith) ∙ sym (cond_at (is_odd a) (is_odd b) false false ((odd_from a).1 ha) ((odd_from b).1 hb)))
    (λ (hb : b % 2 ≡ 1). (odd_from (bit_xor a b)).0 (omega arith) ∙ sym (cond_at (is_odd a) (is_odd b) false true ((odd_from a).1 ha) ((odd_from b).0 hb)))
    (parity b))
    (λ (ha : a % 2 ≡ 1). ⊎_elim
    (λ (hb : b % 2 ≡ 0). (odd_from (bit_xor a b)).0 (omega arith) ∙ sym (cond_at (is_odd a) (is_odd b) true false ((odd_from a).0 ha) ((odd_from b).1 hb)))
    (λ (hb : b % 2 ≡ 1). (odd_from (bit_xor a b)).1 (omega arith) ∙ sym (cond_at (is_odd a) (is_odd b) true true ((odd_from a).0 ha) ((odd_from b).0 hb)))
    (parity b))
    (parity a)
  where
    cond_at : (p q x y : Bool) → p ≡ x → q ≡ y → cond p (not q) q ≡ cond x (not y) y
    cond_at p q x y e f = ap (λ t. cond t (not q) q) e ∙ ap (λ t. cond x (not t) t) f

half_xor : (a b : ℕ) → bit_xor a b / 2 ≡ bit_xor (a / 2) (b / 2)
half_xor a b = xor_shr a b 1

-- ---- lists of bits

-- to add two numbers' bits is to add those of their exclusive or
add_twice : (k a b : ℕ) (ys : List Bool) → add_front (lowest_bits k a) (add_front (lowest_bits k b) ys) ≡ add_front (lowest_bits k (bit_xor a b)) ys
unfolding lowest_bits add_front
add_twice zero a b ys = refl
add_twice (suc k) a b [] = refl
add_twice (suc k) a b (y ∷ ys) =
    let low = three (is_odd a) (is_odd b) y ∙ ap (λ t. cond t (not y) y) (sym (odd_xor a b)) in
    ap (λ (t : Bool). t ∷ add_front (lowest_bits k (a / 2)) (add_front (lowest_bits k (b / 2)) ys)) low
    ∙ ap (λ (t : List Bool). cond (is_odd (bit_xor a b)) (not y) y ∷ t) (add_twice k (a / 2) (b / 2) ys ∙ ap (λ (n : ℕ). add_front (lowest_bits k n) ys) (sym (half_xor a b)))
  where
    three : (p q y : Bool) → cond p (not (cond q (not y) y)) (cond q (not y) y) ≡ cond (cond p (not q) q) (not y) y
    three true true true = refl
    three true true false = refl
    three true false y = refl
    three false q y = refl

-- zeros add nothing
add_zeros : (k : ℕ) (ys : List Bool) → add_front (lowest_bits k 0) ys ≡ ys
unfolding lowest_bits add_front
add_zeros zero ys = refl
add_zeros (suc k) [] = refl
add_zeros (suc k) (y ∷ ys) = ap (λ (t : List Bool). y ∷ t) (add_zeros k ys)

-- a bit more of a number that has no more adds nothing
add_wider : (k n : ℕ) (ys : List Bool) → n < 2 ^ k → add_front (lowest_bits (suc k) n) ys ≡ add_front (lowest_bits k n) ys
unfolding lowest_bits add_front
add_wider zero n [] h = refl
add_wider zero n (y ∷ ys) h = let e : n ≡ 0 = omega arith in ap (λ (t : ℕ). cond (is_odd t) (not y) y ∷ ys) e
add_wider (suc k) n [] h = refl
add_wider (suc k) n (y ∷ ys) h = ap (λ (t : List Bool). cond (is_odd n) (not y) y ∷ t) (add_wider k (n / 2) ys (half_below n k h))
  where
    half_below : (n k : ℕ) → n < 2 ^ suc k → n / 2 < 2 ^ k
    half_below n k h = omega arith

-- bits added to zeros are themselves
add_to_zeros : (k n : ℕ) → add_front (lowest_bits k n) (replicate k false) ≡ lowest_bits k n
unfolding lowest_bits add_front
add_to_zeros zero n = refl
add_to_zeros (suc k) n = ap (λ (t : Bool). t ∷ add_front (lowest_bits k (n / 2)) (replicate k false)) (with_false (is_odd n)) ∙ ap (λ (t : List Bool). is_odd n ∷ t) (add_to_zeros k (n / 2))
  where
    with_false : (p : Bool) → cond p true false ≡ p
    with_false true = refl
    with_false false = refl

-- ---- the register

-- one step of the division: what leaves the register is subtracted from what stays
unfoldable pub shifted : ℕ → ℕ
shifted r = bit_xor (r / 2) (cond (is_odd r) 0xEDB8_8320 0)

-- so many steps
abbrev pub shifts : ℕ → ℕ → ℕ
shifts zero r = r
shifts (suc n) r = shifts n (shifted r)

unfoldable pub bit_number : Bool → ℕ
bit_number b = cond b 1 0

-- the register after bits of the message
unfoldable pub fed : List Bool → ℕ → ℕ
fed [] r = r
fed (b ∷ bs) r = fed bs (shifted (bit_xor r (bit_number b)))

pub fed-append : (bs cs : List Bool) (r : ℕ) → fed (bs ++ cs) r ≡ fed cs (fed bs r)
unfolding fed
fed-append [] cs r = refl
fed-append (b ∷ bs) cs r = fed-append bs cs (shifted (bit_xor r (bit_number b)))

shifted_below : (r : ℕ) → r < 2 ^ 32 → shifted r < 2 ^ 32
unfolding shifted
shifted_below r h = xor_lt 32 (r / 2) (cond (is_odd r) 0xEDB8_8320 0) (omega arith) (small (is_odd r))
  where
    small : (b : Bool) → cond b 0xEDB8_8320 0 < 2 ^ 32
    small true = omega arith
    small false = omega arith

fed_bit_below : (r : ℕ) (b : Bool) → r < 2 ^ 32 → bit_xor r (bit_number b) < 2 ^ 32
unfolding bit_number
fed_bit_below r b h = xor_lt 32 r (cond b 1 0) h (small b)
  where
    small : (b : Bool) → cond b 1 0 < 2 ^ 32
    small true = omega arith
    small false = omega arith

pub fed_below : (bs : List Bool) (r : ℕ) → r < 2 ^ 32 → fed bs r < 2 ^ 32
unfolding fed
fed_below [] r h = h
fed_below (b ∷ bs) r h = fed_below bs (shifted (bit_xor r (bit_number b))) (shifted_below (bit_xor r (bit_number b)) (fed_bit_below r b h))

-- the parity and the half of a number with its lowest bit changed
odd_changed : (r : ℕ) (b : Bool) → is_odd (bit_xor r (bit_number b)) ≡ cond (is_odd r) (not b) b
unfolding bit_number
odd_changed r true = odd_xor r 1
odd_changed r false = odd_xor r 0

half_changed : (r : ℕ) (b : Bool) → bit_xor r (bit_number b) / 2 ≡ r / 2
unfolding bit_number
half_changed r true = half_xor r 1 ∙ xor_zero_r (r / 2)
half_changed r false = half_xor r 0 ∙ xor_zero_r (r / 2)

-- one step of the long division is one step of the register
divide_step : (r : ℕ) (b : Bool) (ys : List Bool) → r < 2 ^ 32
    → cond (cond (is_odd r) (not b) b) (add_front (lowest_bits 32 0xEDB8_8320) (add_front (lowest_bits 31 (r / 2)) ys)) (add_front (lowest_bits 31 (r / 2)) ys)
    ≡ add_front (lowest_bits 32 (shifted (bit_xor r (bit_number b)))) ys
unfolding shifted
divide_step r b ys h =
    let t = cond (is_odd r) (not b) b in
    let wide : add_front (lowest_bits 32 (r / 2)) ys ≡ add_front (lowest_bits 31 (r / 2)) ys = add_wider 31 (r / 2) ys (omega arith) in
    let next : bit_xor (r / 2) (cond t 0xEDB8_8320 0) ≡ bit_xor (bit_xor r (bit_number b) / 2) (cond (is_odd (bit_xor r (bit_number b))) 0xEDB8_8320 0) =
    ap (λ (n : ℕ). bit_xor n (cond t 0xEDB8_8320 0)) (sym (half_changed r b)) ∙ ap (λ (s : Bool). bit_xor (bit_xor r (bit_number b) / 2) (cond s 0xEDB8_8320 0)) (sym (odd_changed r b)) in
    by t (r / 2) ys wide ∙ ap (λ (n : ℕ). add_front (lowest_bits 32 n) ys) next
  where
    by : (t : Bool) (n : ℕ) (ys : List Bool) → add_front (lowest_bits 32 n) ys ≡ add_front (lowest_bits 31 n) ys
        → cond t (add_front (lowest_bits 32 0xEDB8_8320) (add_front (lowest_bits 31 n) ys)) (add_front (lowest_bits 31 n) ys) ≡ add_front (lowest_bits 32 (bit_xor n (cond t 0xEDB8_8320 0))) ys
    by true n ys wide = ap (add_front (lowest_bits 32 0xEDB8_8320)) (sym wide) ∙ add_twice 32 0xEDB8_8320 n ys ∙ ap (λ (m : ℕ). add_front (lowest_bits 32 m) ys) (xor_comm 0xEDB8_8320 n)
    by false n ys wide = sym wide ∙ ap (λ (m : ℕ). add_front (lowest_bits 32 m) ys) (sym (xor_zero_r n))

zeros : List Bool
zeros = replicate 32 false

first_step : (n r : ℕ) (b : Bool) (ys : List Bool) → remainder (suc n) (add_front (lowest_bits 32 r) (b ∷ ys)) ≡ remainder n (cond (cond (is_odd r) (not b) b) (add_front (lowest_bits 32 0xEDB8_8320) (add_front (lowest_bits 31 (r / 2)) ys)) (add_front (lowest_bits 31 (r / 2)) ys))
unfolding remainder lowest_bits add_front divisor
first_step n r b ys = refl

stays : (ys : List Bool) → remainder 0 ys ≡ ys
unfolding remainder
stays ys = refl

pub divides : (bs : List Bool) (r : ℕ) → r < 2 ^ 32 → remainder (length bs) (add_front (lowest_bits 32 r) (bs ++ replicate 32 false)) ≡ lowest_bits 32 (fed bs r)
unfolding fed
divides [] r h = stays (add_front (lowest_bits 32 r) (replicate 32 false)) ∙ add_to_zeros 32 r
divides (b ∷ bs) r h =
    first_step (length bs) r b (bs ++ replicate 32 false)
    ∙ ap (remainder (length bs)) (divide_step r b (bs ++ replicate 32 false) h)
    ∙ divides bs (shifted (bit_xor r (bit_number b))) (shifted_below (bit_xor r (bit_number b)) (fed_bit_below r b h))

-- ---- eight bits at once

-- a step of an exclusive or is the exclusive or of the steps
four : (a b c d : ℕ) → bit_xor (bit_xor a b) (bit_xor c d) ≡ bit_xor (bit_xor a c) (bit_xor b d)
four a b c d =
    xor_assoc a b (bit_xor c d) ∙ ap (bit_xor a) (sym (xor_assoc b c d) ∙ ap (λ (n : ℕ). bit_xor n d) (xor_comm b c) ∙ xor_assoc c b d) ∙ sym (xor_assoc a c (bit_xor b d))

taken : (p q : Bool) → cond (cond p (not q) q) 0xEDB8_8320 0 ≡ bit_xor (cond p 0xEDB8_8320 0) (cond q 0xEDB8_8320 0)
taken true true = refl
taken true false = refl
taken false true = refl
taken false false = refl

shifted_xor : (a b : ℕ) → shifted (bit_xor a b) ≡ bit_xor (shifted a) (shifted b)
unfolding shifted
shifted_xor a b =
    ap (λ (n : ℕ). bit_xor n (cond (is_odd (bit_xor a b)) 0xEDB8_8320 0)) (half_xor a b)
    ∙ ap (λ (t : Bool). bit_xor (bit_xor (a / 2) (b / 2)) (cond t 0xEDB8_8320 0)) (odd_xor a b)
    ∙ ap (bit_xor (bit_xor (a / 2) (b / 2))) (taken (is_odd a) (is_odd b))
    ∙ four (a / 2) (b / 2) (cond (is_odd a) 0xEDB8_8320 0) (cond (is_odd b) 0xEDB8_8320 0)

shifts_xor : (n a b : ℕ) → shifts n (bit_xor a b) ≡ bit_xor (shifts n a) (shifts n b)
shifts_xor zero a b = refl
shifts_xor (suc n) a b = ap (shifts n) (shifted_xor a b) ∙ shifts_xor n (shifted a) (shifted b)

-- a step over a bit 0 is a shift alone
shifted_even : (a : ℕ) → shifted (a * 2) ≡ a
unfolding shifted
shifted_even a =
    let half : a * 2 / 2 ≡ a = omega arith in
    let even = (odd_from (a * 2)).1 (omega arith) in
    ap (λ (t : Bool). bit_xor (a * 2 / 2) (cond t 0xEDB8_8320 0)) even ∙ xor_zero_r (a * 2 / 2) ∙ half

shifts_zeros : (n a : ℕ) → shifts n (a * 2 ^ n) ≡ a
shifts_zeros zero a = omega arith
shifts_zeros (suc n) a = ap (shifts n) (ap shifted (twice a n) ∙ shifted_even (a * 2 ^ n)) ∙ shifts_zeros n a
  where
    twice : (a n : ℕ) → a * 2 ^ suc n ≡ a * 2 ^ n * 2
    twice a n = ap (λ (m : ℕ). a * m) (pow-suc 2 n) ∙ sym (mul_assoc a (2 ^ n) 2)

-- so many steps are those over the low bits, and a shift of the others
shifts_split : (n x : ℕ) → shifts n x ≡ bit_xor (shifts n (x % 2 ^ n)) (x / 2 ^ n)
shifts_split n x =
    ap (shifts n) (sym (shr_split x n) ∙ sym (xor_shifted (x / 2 ^ n) n (x % 2 ^ n) (mod_below x (2 ^ n) (pow_pos n))))
    ∙ shifts_xor n (x / 2 ^ n * 2 ^ n) (x % 2 ^ n)
    ∙ ap (λ (m : ℕ). bit_xor m (shifts n (x % 2 ^ n))) (shifts_zeros n (x / 2 ^ n))
    ∙ xor_comm (x / 2 ^ n) (shifts n (x % 2 ^ n))

-- to feed the bits of a number is to add it and then to step
lowest : (b : ℕ) → bit_number (is_odd b) ≡ b % 2
unfolding bit_number
lowest b = ⊎_elim
    (λ (h : b % 2 ≡ 0). ap (λ t. cond t 1 0) ((odd_from b).1 h) ∙ sym h)
    (λ (h : b % 2 ≡ 1). ap (λ t. cond t 1 0) ((odd_from b).0 h) ∙ sym h)
    (parity b)

step_ahead : (r b : ℕ) → bit_xor (shifted (bit_xor r (bit_number (is_odd b)))) (b / 2) ≡ shifted (bit_xor r b)
unfolding shifted
step_ahead r b =
    let t = cond (is_odd r) (not (is_odd b)) (is_odd b) in
    ap (λ (n : ℕ). bit_xor (bit_xor n (cond (is_odd (bit_xor r (bit_number (is_odd b)))) 0xEDB8_8320 0)) (b / 2)) (half_changed r (is_odd b))
    ∙ ap (λ (s : Bool). bit_xor (bit_xor (r / 2) (cond s 0xEDB8_8320 0)) (b / 2)) (odd_changed r (is_odd b) ∙ sym (odd_xor r b))
    ∙ turned (r / 2) (cond (is_odd (bit_xor r b)) 0xEDB8_8320 0) (b / 2)
    ∙ ap (λ (n : ℕ). bit_xor n (cond (is_odd (bit_xor r b)) 0xEDB8_8320 0)) (sym (half_xor r b))
  where
    turned : (x y z : ℕ) → bit_xor (bit_xor x y) z ≡ bit_xor (bit_xor x z) y
    turned x y z = xor_assoc x y z ∙ ap (bit_xor x) (xor_comm y z) ∙ sym (xor_assoc x z y)

fed_bits : (n b r : ℕ) → b < 2 ^ n → fed (lowest_bits n b) r ≡ shifts n (bit_xor r b)
unfolding fed lowest_bits
fed_bits zero b r h = let e : b ≡ 0 = omega arith in sym (xor_zero_r r) ∙ ap (bit_xor r) (sym e)
fed_bits (suc n) b r h =
    fed_bits n (b / 2) (shifted (bit_xor r (bit_number (is_odd b)))) (half_below b n h) ∙ ap (shifts n) (step_ahead r b)
  where
    half_below : (b n : ℕ) → b < 2 ^ suc n → b / 2 < 2 ^ n
    half_below b n h = omega arith

-- a byte of the message in one step
pub fed_byte : (b r : ℕ) → b < 256 → fed (lowest_bits 8 b) r ≡ bit_xor (shifts 8 (bit_xor r b % 256)) (r / 256)
fed_byte b r h =
    let none : b / 256 ≡ 0 = omega arith in
    fed_bits 8 b r h ∙ shifts_split 8 (bit_xor r b)
    ∙ ap (bit_xor (shifts 8 (bit_xor r b % 256))) (xor_shr r b 8 ∙ ap (bit_xor (r / 256)) none ∙ xor_zero_r (r / 256))

-- a bit and its complement
low_complement : (n : ℕ) → cond {A = ℕ} (not (is_odd n)) 1 0 + n % 2 ≡ 1
low_complement n = ⊎_elim
    (λ (e : n % 2 ≡ 0). ap (λ (t : Bool). cond {A = ℕ} (not t) 1 0 + n % 2) ((odd_from n).1 e) ∙ ap (λ (m : ℕ). 1 + m) e)
    (λ (e : n % 2 ≡ 1). ap (λ (t : Bool). cond {A = ℕ} (not t) 1 0 + n % 2) ((odd_from n).0 e) ∙ ap (λ (m : ℕ). 0 + m) e)
    (parity n)

-- the number of complemented bits
pub complement : (k n : ℕ) → n < 2 ^ k → number_of_bits (map not (lowest_bits k n)) + n + 1 ≡ 2 ^ k
unfolding number_of_bits lowest_bits
complement zero n h = omega arith
complement (suc k) n h =
    let others = complement k (n / 2) (half_below n k h) in
    joined (cond (not (is_odd n)) 1 0) (number_of_bits (map not (lowest_bits k (n / 2)))) n (2 ^ k) (low_complement n) others ∙ sym (pow-succ' 2 k)
  where
    half_below : (b n : ℕ) → b < 2 ^ suc n → b / 2 < 2 ^ n
    half_below b n h = omega arith

    joined : (low high n p : ℕ) → low + n % 2 ≡ 1 → high + n / 2 + 1 ≡ p → low + 2 * high + n + 1 ≡ 2 * p
    joined low high n p e f = omega arith
