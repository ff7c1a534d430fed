-- The table of remainders, and the register over whole bytes.
use Rattle.std.proofs.Common.{◌≡◌, ℕ, zero, suc, ◌+◌, ◌-◌, ◌/◌, ◌%◌, ◌^◌, ◌<◌, Bool, true, false, not, List, [], ◌∷◌, ◌++◌, length, get_or, take, map, refl, sym, ap, ◌∙◌, arith}
use Rattle.std.specs.Prelude.{replicate, bit_xor, bit_and, slice_index, ◌==◌, ◌&&◌}
use Rattle.std.specs.List.{flat_map}
use Rattle.std.proofs.lemmas.Bool.{eqb-true}
use Rattle.std.proofs.lemmas.List.{append-nil, take_more}
use Rattle.std.proofs.lemmas.List.Concat.{flat_map-append}
use Rattle.std.proofs.lemmas.Nat.{and_mask}
use Rattle.lu_prims.specs.Checksum.{lowest_bits, number_of_bits, add_front, remainder, message, checksum}
use Rattle.lu_prims.specs.declared.checksum.TheConstants.{REMAINDERS}
use Rattle.lu_prims.proofs.Division.{shifted, shifts, fed, fed-append, fed_below, fed_byte, divides, complement}

-- each entry is what eight steps leave of its place
are_remainders : ℕ → List ℕ → Bool
are_remainders n [] = true
are_remainders n (x ∷ xs) = (x == shifts 8 n) && are_remainders (suc n) xs

table_holds : are_remainders 0 REMAINDERS ≡ true
unfolding are_remainders shifted
table_holds = refl

both : (p q : Bool) → (p && q) ≡ true → (p ≡ true) × (q ≡ true)
both true q e = (refl, e)
both false q e = absurd cc

entry_from : (n : ℕ) (xs : List ℕ) (i : ℕ) → are_remainders n xs ≡ true → i < length xs → get_or xs i 0 ≡ shifts 8 (n + i)
unfolding are_remainders
entry_from n [] i e h = absurd (omega arith)
entry_from n (x ∷ xs) zero e h = eqb-true x (shifts 8 n) (both _ _ e).0 ∙ ap (shifts 8) {x = n} {y = n + 0} (omega arith)
entry_from n (x ∷ xs) (suc i) e h = entry_from (suc n) xs i (both (x == shifts 8 n) _ e).1 (omega arith) ∙ ap (shifts 8) {x = suc n + i} {y = n + suc i} (omega arith)

entry : (i : ℕ) → i < 256 → slice_index REMAINDERS i ≡ shifts 8 i
entry i h = entry_from 0 REMAINDERS i table_holds h ∙ ap (shifts 8) {x = 0 + i} {y = i} (omega arith)

-- the message of one byte more
message_more : (bytes : List ℕ) (i : ℕ) → i < length bytes → message (take (i + 1) bytes) ≡ message (take i bytes) ++ lowest_bits 8 (get_or bytes i 0)
unfolding message
message_more bytes i h =
    let b = get_or bytes i 0 in
    ap (flat_map (lowest_bits 8)) (take_more bytes i 0 h) ∙ flat_map-append (lowest_bits 8) (take i bytes) (b ∷ []) ∙ ap (λ (x : List Bool). flat_map (lowest_bits 8) (take i bytes) ++ x) (append-nil (lowest_bits 8 b))

-- the loop's step
pub register_more : (bytes : List ℕ) (i r b n : ℕ) → i < length bytes → b ≡ get_or bytes i 0 → b < 256 → r ≡ fed (message (take i bytes)) 0xFFFF_FFFF
    → n ≡ slice_index REMAINDERS (bit_and (bit_xor r b) 255)
    → bit_xor n (r / 256) ≡ fed (message (take (i + 1) bytes)) 0xFFFF_FFFF
register_more bytes i r b n h is small before entry_is =
    let low : bit_and (bit_xor r b) 255 ≡ bit_xor r b % 256 = and_mask (bit_xor r b) 8 in
    let least : bit_xor r b % 256 < 256 = omega arith in
    ap (λ (m : ℕ). bit_xor m (r / 256)) (entry_is ∙ ap (slice_index REMAINDERS) low ∙ entry (bit_xor r b % 256) least)
    ∙ sym (fed_byte b r small)
    ∙ ap (λ (m : ℕ). fed (lowest_bits 8 m) r) is
    ∙ ap (fed (lowest_bits 8 (get_or bytes i 0))) before
    ∙ sym (fed-append (message (take i bytes)) (lowest_bits 8 (get_or bytes i 0)) 0xFFFF_FFFF)
    ∙ ap (λ (x : List Bool). fed x 0xFFFF_FFFF) (sym (message_more bytes i h))

ones : replicate 32 true ≡ lowest_bits 32 0xFFFF_FFFF
unfolding lowest_bits
ones = refl

-- what the register holds in the end
pub checksum_is : (bytes : List ℕ) (r : ℕ) → r ≡ fed (message bytes) 0xFFFF_FFFF → 0xFFFF_FFFF - r ≡ checksum bytes
unfolding checksum
checksum_is bytes r e =
    let small : 0xFFFF_FFFF < 2 ^ 32 = omega arith in
    let below = fed_below (message bytes) 0xFFFF_FFFF small in
    let left : remainder (length (message bytes)) (add_front (replicate 32 true) (message bytes ++ replicate 32 false)) ≡ lowest_bits 32 (fed (message bytes) 0xFFFF_FFFF) =
    ap (λ (x : List Bool). remainder (length (message bytes)) (add_front x (message bytes ++ replicate 32 false))) ones ∙ divides (message bytes) 0xFFFF_FFFF small in
    let whole = complement 32 (fed (message bytes) 0xFFFF_FFFF) below in
    ap (λ (m : ℕ). 0xFFFF_FFFF - m) e ∙ difference (number_of_bits (map not (lowest_bits 32 (fed (message bytes) 0xFFFF_FFFF)))) (fed (message bytes) 0xFFFF_FFFF) whole ∙ ap (λ (x : List Bool). number_of_bits (map not x)) (sym left)
  where
    difference : (n m : ℕ) → n + m + 1 ≡ 2 ^ 32 → 0xFFFF_FFFF - m ≡ n
    difference n m e = omega arith

pub register_first : 0xFFFF_FFFF ≡ fed (message []) 0xFFFF_FFFF
unfolding message fed
register_first = refl
