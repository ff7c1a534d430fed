-- Writing a number in groups, one byte after another.
use Rattle.std.proofs.Common.{◌≡◌, ℕ, zero, suc, ◌+◌, ◌-◌, ◌/◌, ◌%◌, ◌^◌, ◌<◌, ◌≤◌, true, false, ltb, List, [], ◌∷◌, ◌++◌, length, set, take, refl, sym, ap, ◌∙◌, append_assoc, arith, inl, inr}
use Rattle.std.proofs.lemmas.Bool.{cases_lt, le-ltb, lt-ltb}
use Rattle.std.proofs.lemmas.List.{take_more_set, length-set}
use Rattle.std.proofs.Math.Nat.{pow-suc, div-add-mod}
use Rattle.lu_grammar.specs.Parts.{groups}

groups-one : (more n : ℕ) → n < 128 → groups more n ≡ n ∷ []
unfolding groups
groups-one zero n low = refl
groups-one (suc more) n low = let t : ltb n 128 ≡ true = lt-ltb n 128 low in rw t refl

groups-high : (more n : ℕ) → 128 ≤ n → groups (suc more) n ≡ (128 + n % 128) ∷ groups more (n / 128)
unfolding groups
groups-high more n high = let t : ltb n 128 ≡ false = le-ltb n 128 high in rw t refl

-- room for more groups changes nothing
pub groups-room : (more room n : ℕ) → n < 128 ^ suc more → groups (more + room) n ≡ groups more n
groups-room zero room n lt = let low : n < 128 = omega (arith, pow-suc 128 0) in groups-one (zero + room) n low ∙ sym (groups-one zero n low)
groups-room (suc more) room n lt =
    elim (cases_lt n 128) [
      | inl low ↦ groups-one (suc more + room) n low ∙ sym (groups-one (suc more) n low)
      | inr high ↦
          let less : n / 128 < 128 ^ suc more = omega (arith, pow-suc 128 (suc more), div-add-mod n 128) in
          ap (λ (k : ℕ). groups k n) (let k : suc more + room ≡ suc (more + room) = omega arith in k) ∙ groups-high (more + room) n high
          ∙ ap (λ (t : List ℕ). (128 + n % 128) ∷ t) (groups-room more room (n / 128) less) ∙ sym (groups-high more n high)
    ]

-- what a loop that writes the groups keeps
pub record IsWriting (value : ℕ) (bytes : List ℕ) (count rest : ℕ) : Type 0 where
  pub so_far : take count bytes ++ groups (8 - count) rest ≡ groups 8 value
  pub below : rest < 128 ^ suc (8 - count)
  pub within : count ≤ 8
  pub long : length bytes ≡ 9

-- a group that others follow
pub room-left : (value : ℕ) (bytes : List ℕ) (count rest : ℕ) → IsWriting value bytes count rest → 128 ≤ rest → count < 8
room-left value bytes count rest w high = elim (cases_lt count 8) [
  | inl lt ↦ lt
  | inr le ↦ let none : 8 - count ≡ 0 = omega arith in let below : rest < 128 ^ suc 0 = rw none at w.below in absurd (omega (arith, pow-suc 128 0))
]

pub writing-more : (value : ℕ) (bytes : List ℕ) (count rest : ℕ) → IsWriting value bytes count rest → 128 ≤ rest
    → IsWriting value (set bytes count (128 + rest % 128)) (count + 1) (rest / 128)
writing-more value bytes count rest w high =
    let lt : count < 8 = room-left value bytes count rest w high in
    let m = 8 - (count + 1) in
    let room : 8 - count ≡ suc m = omega arith in
    let below : rest < 128 ^ suc (suc m) = rw room at w.below in
    record {
      so_far =
          ap (λ (t : List ℕ). t ++ groups m (rest / 128)) (take_more_set bytes count (128 + rest % 128) (omega (arith, w.long)))
          ∙ append_assoc (take count bytes) ((128 + rest % 128) ∷ []) (groups m (rest / 128))
          ∙ ap (λ (t : List ℕ). take count bytes ++ t) (sym (groups-high m rest high))
          ∙ ap (λ (k : ℕ). take count bytes ++ groups k rest) (sym room)
          ∙ w.so_far;
      below = omega (arith, below, pow-suc 128 (suc m), div-add-mod rest 128);
      within = omega arith;
      long = length-set bytes count (128 + rest % 128) ∙ w.long;
    }

-- the last group
pub writing-last : (value : ℕ) (bytes : List ℕ) (count rest : ℕ) → IsWriting value bytes count rest → rest < 128 → take (count + 1) (set bytes count rest) ≡ groups 8 value
writing-last value bytes count rest w low =
    take_more_set bytes count rest (omega (arith, w.long, w.within)) ∙ ap (λ (t : List ℕ). take count bytes ++ t) (sym (groups-one (8 - count) rest low)) ∙ w.so_far
