-- Reading a number in groups, one byte after another.
use Rattle.std.proofs.Common.{◌≡◌, ℕ, zero, suc, ◌+◌, ◌-◌, ◌*◌, ◌^◌, ◌<◌, ◌≤◌, Bool, true, false, eqb, ltb, List, [], ◌∷◌, length, get_or, drop, add-one, Result, Ok, Err, refl, sym, ap, ◌∙◌, arith}
use Rattle.std.proofs.lemmas.Bool.{le-ltb, lt-ltb, ne_eqb, eq-eqb}
use Rattle.std.proofs.lemmas.List.{drop_more, drop_all}
use Rattle.std.proofs.Math.Nat.{pow-suc, mul-le-mul_right}
use Rattle.lu_grammar.specs.declared.bad.Bad.{Bad}
use Rattle.lu_grammar.specs.declared.bad.Bad.TheVariants.{Ends, LongNumber}
use Rattle.lu_grammar.specs.Reading.{◌>>=◌, last_group, with_group, read_groups}

-- a number with the groups in front of it, whose next group has this weight, and how many bytes it takes with them
abbrev pub behind : ℕ → ℕ → ℕ → Result (ℕ × ℕ) Bad → Result (ℕ × ℕ) Bad
behind value weight i read = read >>= λ x. Ok (value + weight * x.0, i + x.1)

-- what is left to read at a byte
abbrev pub groups_from : ℕ → ℕ → List ℕ → Result (ℕ × ℕ) Bad
groups_from more i bs = read_groups (more - i) (eqb i 0) (drop i bs)

abbrev answer : ℕ → ℕ → Result (ℕ × ℕ) Bad
answer value taken = Ok (value, taken)

behind-with_group : (value weight i b : ℕ) (r : Result (ℕ × ℕ) Bad) → behind value weight i (with_group b r) ≡ behind (value + (b - 128) * weight) (weight * 128) (i + 1) r
behind-with_group value weight i b (Ok x) =
    let number : value + weight * (b - 128 + 128 * x.0) ≡ value + (b - 128) * weight + weight * 128 * x.0 = omega arith in
    let taken : i + suc x.1 ≡ i + 1 + x.1 = omega arith in
    ap (λ (n : ℕ). answer n (i + suc x.1)) number ∙ ap (answer (value + (b - 128) * weight + weight * 128 * x.0)) taken
behind-with_group value weight i b (Err bad) = refl

-- what is left to read begins with this byte
from-byte : (more i : ℕ) (bs : List ℕ) (b : ℕ) → i < length bs → get_or bs i 0 ≡ b → groups_from more i bs ≡ read_groups (more - i) (eqb i 0) (b ∷ drop (i + 1) bs)
from-byte more i bs b here is = ap (read_groups (more - i) (eqb i 0)) (drop_more bs i 0 here ∙ ap (λ (x : ℕ). x ∷ drop (i + 1) bs) is)

-- the last byte is answered, whatever may still come
read-last : (more : ℕ) (alone : Bool) (b : ℕ) (rest : List ℕ) → b < 128 → read_groups more alone (b ∷ rest) ≡ last_group alone b
unfolding read_groups
read-last zero alone b rest low = let t : ltb b 128 ≡ true = lt-ltb b 128 low in rw t refl
read-last (suc more) alone b rest low = let t : ltb b 128 ≡ true = lt-ltb b 128 low in rw t refl

read-further : (more : ℕ) (alone : Bool) (b : ℕ) (rest : List ℕ) → 128 ≤ b → read_groups (suc more) alone (b ∷ rest) ≡ with_group b (read_groups more false rest)
unfolding read_groups
read-further more alone b rest high = let t : ltb b 128 ≡ false = le-ltb b 128 high in rw t refl

read-too_long : (alone : Bool) (b : ℕ) (rest : List ℕ) → 128 ≤ b → read_groups 0 alone (b ∷ rest) ≡ Err LongNumber
unfolding read_groups
read-too_long alone b rest high = let t : ltb b 128 ≡ false = le-ltb b 128 high in rw t refl

last_group-ok : (i b : ℕ) → (0 < i → b ≡ 0 → ⊥) → last_group (eqb i 0) b ≡ Ok (b, 1)
last_group-ok zero b last = refl
last_group-ok (suc i) b last =
    let behind_one : eqb (suc i) 0 ≡ false = ne_eqb (suc i) 0 (λ e. absurd cc) in
    let not_zero : eqb b 0 ≡ false = ne_eqb b 0 (last (omega arith)) in
    rw (behind_one, not_zero) refl

module _ (more i : ℕ) (bs : List ℕ) (b : ℕ) (here : i < length bs) (is : get_or bs i 0 ≡ b) where
  -- a byte with the high bit is one group more in front
  pub groups-more : (value weight : ℕ) (total : Result (ℕ × ℕ) Bad) → 128 ≤ b → i < more → behind value weight i (groups_from more i bs) ≡ total
      → behind (value + (b - 128) * weight) (weight * 128) (i + 1) (groups_from more (i + 1) bs) ≡ total
  groups-more value weight total high lt so_far =
      let count : more - i ≡ suc (more - (i + 1)) = omega arith in
      let later : eqb (i + 1) 0 ≡ false = ne_eqb (i + 1) 0 (λ e. omega arith) in
      let step : groups_from more i bs ≡ with_group b (groups_from more (i + 1) bs) =
      from-byte more i bs b here is ∙ ap (λ (m : ℕ). read_groups m (eqb i 0) (b ∷ drop (i + 1) bs)) count ∙ read-further (more - (i + 1)) (eqb i 0) b (drop (i + 1) bs) high
      ∙ ap (λ (t : Bool). with_group b (read_groups (more - (i + 1)) t (drop (i + 1) bs))) (sym later) in
      sym (behind-with_group value weight i b (groups_from more (i + 1) bs)) ∙ ap (behind value weight i) (sym step) ∙ so_far

  -- a byte with the high bit where none may come
  pub groups-too_long : (value weight : ℕ) (total : Result (ℕ × ℕ) Bad) → 128 ≤ b → i ≡ more → behind value weight i (groups_from more i bs) ≡ total → total ≡ Err LongNumber
  groups-too_long value weight total high e so_far =
      let none : more - i ≡ 0 = omega arith in
      sym so_far ∙ ap (behind value weight i) (from-byte more i bs b here is ∙ ap (λ (m : ℕ). read_groups m (eqb i 0) (b ∷ drop (i + 1) bs)) none ∙ read-too_long (eqb i 0) b (drop (i + 1) bs) high)

  -- the last byte, and a needless 0
  pub groups-last : (value weight : ℕ) (total : Result (ℕ × ℕ) Bad) → b < 128 → (0 < i → b ≡ 0 → ⊥) → behind value weight i (groups_from more i bs) ≡ total → total ≡ Ok (value + b * weight, i + 1)
  groups-last value weight total low last so_far =
      let number : value + weight * b ≡ value + b * weight = omega arith in
      sym so_far ∙ ap (behind value weight i) (from-byte more i bs b here is ∙ read-last (more - i) (eqb i 0) b (drop (i + 1) bs) low ∙ last_group-ok i b last)
      ∙ ap (λ (n : ℕ). answer n (i + 1)) number

  pub groups-zero : (value weight : ℕ) (total : Result (ℕ × ℕ) Bad) → 0 < i → b ≡ 0 → behind value weight i (groups_from more i bs) ≡ total → total ≡ Err LongNumber
  groups-zero value weight total positive is_zero so_far =
      let later : eqb i 0 ≡ false = ne_eqb i 0 (λ e. omega arith) in
      let nothing : eqb b 0 ≡ true = eq-eqb b 0 is_zero in
      let last : last_group (eqb i 0) b ≡ Err LongNumber = rw (later, nothing) refl in
      sym so_far ∙ ap (behind value weight i) (from-byte more i bs b here is ∙ read-last (more - i) (eqb i 0) b (drop (i + 1) bs) (omega arith) ∙ last)

-- before the first byte
pub groups-start : (more : ℕ) (bs : List ℕ) → behind 0 1 0 (groups_from more 0 bs) ≡ read_groups more true bs
groups-start more bs = ap (λ (m : ℕ). behind 0 1 0 (read_groups m true bs)) (let e : more - 0 ≡ more = omega arith in e) ∙ same (read_groups more true bs)
  where
    same : (r : Result (ℕ × ℕ) Bad) → behind 0 1 0 r ≡ r
    same (Ok x) = ap (λ (n : ℕ). answer n (0 + x.1)) (let e : 0 + 1 * x.0 ≡ x.0 = omega arith in e) ∙ ap (answer x.0) (let e : 0 + x.1 ≡ x.1 = omega arith in e)
    same (Err bad) = refl

-- no byte is left
pub groups-end : (more i : ℕ) (bs : List ℕ) (value weight : ℕ) (total : Result (ℕ × ℕ) Bad) → length bs ≤ i → behind value weight i (groups_from more i bs) ≡ total → total ≡ Err Ends
unfolding read_groups
groups-end more i bs value weight total le so_far = let e : drop i bs ≡ [] = drop_all i bs le in sym so_far ∙ rw e refl

-- what the next group is worth, and that the groups in front stay below it
pub weight-more : (w i r : ℕ) → w ≡ 128 ^ i → r ≡ 128 → w * r ≡ 128 ^ (i + 1)
weight-more w i r is high = rw (is, high, add-one) (sym (pow-suc 128 i))

pub below-more : (v f w r : ℕ) → v < w → f < 128 → r ≡ 128 → v + f * w < w * r
below-more v f w r below low high =
    let most : f * w ≤ 127 * w = mul-le-mul_right w (let le : f ≤ 127 = omega arith in le) in
    rw high (omega (arith, most))
