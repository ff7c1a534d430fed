-- Long division leaves the one remainder.
use Rattle.std.proofs.Common.{◌≡◌, ℕ, zero, suc, ◌+◌, ◌≤◌, Bool, true, false, not, cond, List, [], ◌∷◌, ◌++◌, length, refl, sym, ap, ◌∙◌, length-append, arith}
use Rattle.std.specs.Prelude.{replicate}
use Rattle.lu_prims.specs.Checksum.{lowest_bits, add_front, divisor, remainder, times_divisor, IsRemainder}

length-replicate_bits : (n : ℕ) → length (replicate n false) ≡ n
length-replicate_bits zero = refl
length-replicate_bits (suc n) = ap suc (length-replicate_bits n)

-- what is added to keeps its length
length-add : (ps bs : List Bool) → length (add_front ps bs) ≡ length bs
unfolding add_front
length-add [] bs = refl
length-add (p ∷ ps) [] = refl
length-add (p ∷ ps) (b ∷ bs) = ap suc (length-add ps bs)

add_nothing : (n : ℕ) (bs : List Bool) → add_front (replicate n false) bs ≡ bs
unfolding add_front
add_nothing zero bs = refl
add_nothing (suc n) [] = refl
add_nothing (suc n) (b ∷ bs) = ap (λ (x : List Bool). b ∷ x) (add_nothing n bs)

-- to add twice is to add nothing
add_again : (ps bs : List Bool) → add_front ps (add_front ps bs) ≡ bs
unfolding add_front
add_again [] bs = refl
add_again (p ∷ ps) [] = refl
add_again (p ∷ ps) (b ∷ bs) = ap (λ (x : Bool). x ∷ add_front ps (add_front ps bs)) (undone p b) ∙ ap (λ (x : List Bool). b ∷ x) (add_again ps bs)
  where
    undone : (p b : Bool) → cond p (not (cond p (not b) b)) (cond p (not b) b) ≡ b
    undone true true = refl
    undone true false = refl
    undone false b = refl

add_assoc_front : (ps ts bs : List Bool) → length ps ≤ length ts → add_front (add_front ps ts) bs ≡ add_front ps (add_front ts bs)
unfolding add_front
add_assoc_front [] ts bs h = refl
add_assoc_front (p ∷ ps) [] bs h = absurd (omega arith)
add_assoc_front (p ∷ ps) (t ∷ ts) [] h = refl
add_assoc_front (p ∷ ps) (t ∷ ts) (b ∷ bs) h =
    ap (λ (x : Bool). x ∷ add_front (add_front ps ts) bs) (three p t b) ∙ ap (λ (x : List Bool). cond p (not (cond t (not b) b)) (cond t (not b) b) ∷ x) (add_assoc_front ps ts bs (omega arith))
  where
    three : (p q y : Bool) → cond (cond p (not q) q) (not y) y ≡ cond p (not (cond q (not y) y)) (cond q (not y) y)
    three true true true = refl
    three true true false = refl
    three true false y = refl
    three false q y = refl

length-divisor : length divisor ≡ 32
unfolding divisor lowest_bits
length-divisor = refl

length-times : (qs : List Bool) → length (times_divisor qs) ≡ length qs + 32
unfolding times_divisor
length-times [] = length-replicate_bits 32
length-times (q ∷ qs) = length-add (cond q (true ∷ divisor) []) (false ∷ times_divisor qs) ∙ ap suc (length-times qs) ∙ omega arith

-- the divisor added to a product and more is added to their sum
divisor_over : (qs bs : List Bool) → add_front (add_front divisor (times_divisor qs)) bs ≡ add_front divisor (add_front (times_divisor qs) bs)
divisor_over qs bs = add_assoc_front divisor (times_divisor qs) bs (omega (arith, length-divisor, length-times qs))

-- a product by one more bit, with more
more_times : (q : Bool) (qs bs : List Bool) → add_front (times_divisor (q ∷ qs)) (false ∷ bs) ≡ q ∷ cond q (add_front divisor (add_front (times_divisor qs) bs)) (add_front (times_divisor qs) bs)
unfolding times_divisor add_front
more_times true qs bs = ap (λ (x : List Bool). true ∷ x) (divisor_over qs bs)
more_times false qs bs = refl

divided : (n : ℕ) (b : Bool) (bs : List Bool) → remainder (suc n) (b ∷ bs) ≡ remainder n (cond b (add_front divisor bs) bs)
unfolding remainder
divided n b bs = refl

divided_none : (bs : List Bool) → remainder 0 bs ≡ bs
unfolding remainder
divided_none bs = refl

subtracted : (b : Bool) (bs : List Bool) → cond b (add_front divisor (cond b (add_front divisor bs) bs)) (cond b (add_front divisor bs) bs) ≡ bs
subtracted true bs = add_again divisor bs
subtracted false bs = refl

subtracted-length : (b : Bool) (bs : List Bool) → length (cond b (add_front divisor bs) bs) ≡ length bs
subtracted-length true bs = length-add divisor bs
subtracted-length false bs = refl

no_product : (left : List Bool) → add_front (times_divisor []) left ≡ left
unfolding times_divisor
no_product left = add_nothing 32 left

pub leaves : (n : ℕ) (bs : List Bool) → length bs ≡ n + 32 → IsRemainder bs (remainder n bs)
leaves zero bs h = ([], ap length (divided_none bs) ∙ h ∙ omega arith, sym (no_product (remainder 0 bs) ∙ divided_none bs))
leaves (suc n) [] h = absurd (omega arith)
leaves (suc n) (b ∷ bs) h =
    let rest : List Bool = cond b (add_front divisor bs) bs in
    let before = leaves n rest (subtracted-length b bs ∙ omega arith) in
    let qs : List Bool = before.0 in
    let step = divided n b bs in
    let whole : b ∷ bs ≡ add_front (times_divisor (b ∷ qs)) (false ∷ (replicate (length qs) false ++ remainder n rest)) =
    sym (more_times b qs (replicate (length qs) false ++ remainder n rest) ∙ ap (λ (x : List Bool). b ∷ cond b (add_front divisor x) x) (sym before.2) ∙ ap (λ (x : List Bool). b ∷ x) (subtracted b bs)) in
    (b ∷ qs, ap length step ∙ before.1, whole ∙ ap (λ (x : List Bool). add_front (times_divisor (b ∷ qs)) (false ∷ (replicate (length qs) false ++ x))) (sym step))

-- what was added below a multiple is what is left
left_again : (qs left : List Bool) → length left ≡ 32 → remainder (length qs) (add_front (times_divisor qs) (replicate (length qs) false ++ left)) ≡ left
left_again [] left h = divided_none (add_front (times_divisor []) left) ∙ no_product left
left_again (q ∷ qs) left h =
    let below = replicate (length qs) false ++ left in
    let sum = add_front (times_divisor qs) below in
    ap (remainder (suc (length qs))) (more_times q qs below)
    ∙ divided (length qs) q (cond q (add_front divisor sum) sum)
    ∙ ap (remainder (length qs)) (subtracted q sum)
    ∙ left_again qs left h

pub only_one : (n : ℕ) (bs left : List Bool) → length bs ≡ n + 32 → IsRemainder bs left → left ≡ remainder n bs
only_one n bs left h r =
    let qs : List Bool = r.0 in
    let long = ap length r.2 ∙ length-add (times_divisor qs) (replicate (length qs) false ++ left) ∙ length-append (replicate (length qs) false) left in
    let count : length qs ≡ n = omega (arith, long, h, r.1, length-replicate_bits (length qs)) in
    sym (left_again qs left r.1) ∙ ap (remainder (length qs)) (sym r.2) ∙ ap (λ (m : ℕ). remainder m bs) count
