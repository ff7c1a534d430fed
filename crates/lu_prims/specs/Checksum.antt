-- The CRC-32, by long division of polynomials whose coefficients are bits, the highest power first.
use Rattle.std.specs.Prelude.{◌≡◌, ℕ, zero, suc, ◌+◌, ◌*◌, ◌/◌, ◌%◌, Bool, true, false, not, cond, ◌==◌, List, [], ◌∷◌, ◌++◌, length, map, replicate}
use Rattle.std.specs.List.{flat_map}

-- so many bits of a number, the lowest first
unfoldable pub lowest_bits : ℕ → ℕ → List Bool
lowest_bits zero n = []
lowest_bits (suc k) n = (n % 2 == 1) ∷ lowest_bits k (n / 2)

-- the number that has these bits, the lowest first
unfoldable pub number_of_bits : List Bool → ℕ
number_of_bits [] = 0
number_of_bits (b ∷ bs) = cond b 1 0 + 2 * number_of_bits bs

-- a polynomial with another added to its highest powers; to add is to subtract
unfoldable pub add_front : List Bool → List Bool → List Bool
add_front [] bs = bs
add_front (p ∷ ps) [] = []
add_front (p ∷ ps) (b ∷ bs) = cond p (not b) b ∷ add_front ps bs

-- x^26 + x^23 + x^22 + x^16 + x^12 + x^11 + x^10 + x^8 + x^7 + x^5 + x^4 + x^2 + x + 1, which with x^32 is the divisor
unfoldable pub divisor : List Bool
divisor = lowest_bits 32 0xEDB8_8320

-- what so many steps of the division leave: each takes off the leading bit, and where it is 1 subtracts the divisor from what follows
unfoldable pub remainder : ℕ → List Bool → List Bool
remainder zero bs = bs
remainder (suc n) [] = []
remainder (suc n) (b ∷ bs) = remainder n (cond b (add_front divisor bs) bs)

-- the bits of all bytes, of each byte the lowest first
unfoldable pub message : List ℕ → List Bool
message bytes = flat_map (lowest_bits 8) bytes

-- the checksum: the message with its first 32 bits complemented and 32 zeros appended is divided, and the remainder complemented
unfoldable pub checksum : List ℕ → ℕ
checksum bytes =
    number_of_bits (map not (remainder (length (message bytes)) (add_front (replicate 32 true) (message bytes ++ replicate 32 false))))

-- the product of a polynomial and the divisor
unfoldable pub times_divisor : List Bool → List Bool
times_divisor [] = replicate 32 false
times_divisor (q ∷ qs) = add_front (cond q (true ∷ divisor) []) (false ∷ times_divisor qs)

-- a polynomial is a multiple of the divisor and these 32 bits
abbrev pub IsRemainder : List Bool → List Bool → Type 0
IsRemainder bs left = (qs : List Bool) × (length left ≡ 32) × (bs ≡ add_front (times_divisor qs) (replicate (length qs) false ++ left))
