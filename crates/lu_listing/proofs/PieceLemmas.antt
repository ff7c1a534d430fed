-- Pieces of lines, printed in parts.
use Rattle.std.proofs.Common.{◌≡◌, ℕ, suc, ◌+◌, ◌-◌, ◌/◌, ◌%◌, ◌<◌, ◌≤◌, ◌||◌, ◌==◌, Bool, false, nat_lt, List, [], ◌∷◌, ◌++◌, length, get_or, take, drop, refl, sym, ap, ◌∙◌, append_assoc, arith, length-drop, drop-cons}
use Rattle.std.specs.List.{flat_map}
use Rattle.std.proofs.lemmas.List.{take-append-drop, take_more, get_or-drop, drop-drop}
use Rattle.std.proofs.lemmas.List.Concat.{flat_map-append}
use Rattle.std.proofs.lemmas.Bool.Decides.{nat_tests}
use Rattle.hex.specs.Hex.{encode_with}
use Rattle.lu_prims.specs.Quoted.{escaped}

-- ---- hexadecimal digits

encode_with-append : (table xs ys : List ℕ) → encode_with table (xs ++ ys) ≡ encode_with table xs ++ encode_with table ys
unfolding encode_with
encode_with-append table [] ys = refl
encode_with-append table (x ∷ xs) ys = ap (λ (t : List ℕ). get_or table (x / 16) 0 ∷ get_or table (x % 16) 0 ∷ t) (encode_with-append table xs ys)

-- the digits of the front and those of the rest
pub encode_with-split : (table bytes front back : List ℕ) (count : ℕ) → front ≡ take count bytes → back ≡ drop count bytes → encode_with table bytes ≡ encode_with table front ++ encode_with table back
encode_with-split table bytes front back count f b =
    ap (encode_with table) (sym (take-append-drop count bytes))
    ∙ encode_with-append table (take count bytes) (drop count bytes)
    ∙ ap (λ (t : List ℕ). encode_with table t ++ encode_with table (drop count bytes)) (sym f)
    ∙ ap (λ (t : List ℕ). encode_with table front ++ encode_with table t) (sym b)

-- ---- quoted texts

-- whether a byte does not stand for itself
abbrev pub is_escaped : ℕ → Bool
is_escaped b = (b == 34 || b == 92) || nat_lt b 32

-- the bytes from one place to another
abbrev pub run : List ℕ → ℕ → ℕ → List ℕ
run bytes from at = take (at - from) (drop from bytes)

-- a run is longer by the byte behind it
run_more : (bytes : List ℕ) (from at : ℕ) → from ≤ at → at < length bytes → run bytes from (at + 1) ≡ run bytes from at ++ get_or bytes at 0 ∷ []
run_more bytes from at le lt =
    ap (λ (n : ℕ). take n (drop from bytes)) (let e : at + 1 - from ≡ (at - from) + 1 = omega arith in e)
    ∙ take_more (drop from bytes) (at - from) 0 (omega (arith, length-drop from bytes))
    ∙ ap (λ (b : ℕ). run bytes from at ++ b ∷ []) (get_or-drop from bytes (at - from) 0 ∙ ap (λ (n : ℕ). get_or bytes n 0) (let e : from + (at - from) ≡ at = omega arith in e))

escaped-plain : (b : ℕ) → is_escaped b ≡ false → escaped b ≡ b ∷ []
escaped-plain b plain = grind (arith, nat_tests)

-- no bytes stand for themselves
pub stands-none : (bytes : List ℕ) (at : ℕ) → flat_map escaped (run bytes at at) ≡ run bytes at at
stands-none bytes at = ap (λ (n : ℕ). flat_map escaped (take n (drop at bytes))) none ∙ sym (ap (λ (n : ℕ). take n (drop at bytes)) none)
  where
    none : at - at ≡ 0
    none = omega arith

-- a run of bytes that stand for themselves goes on with one more of them
pub stands-more : (bytes : List ℕ) (from at : ℕ) → from ≤ at → at < length bytes → is_escaped (get_or bytes at 0) ≡ false → flat_map escaped (run bytes from at) ≡ run bytes from at → flat_map escaped (run bytes from (at + 1)) ≡ run bytes from (at + 1)
stands-more bytes from at le lt plain stands =
    ap (flat_map escaped) (run_more bytes from at le lt)
    ∙ flat_map-append escaped (run bytes from at) (get_or bytes at 0 ∷ [])
    ∙ ap (λ (t : List ℕ). t ++ flat_map escaped (get_or bytes at 0 ∷ [])) stands
    ∙ ap (λ (t : List ℕ). run bytes from at ++ (t ++ [])) (escaped-plain (get_or bytes at 0) plain)
    ∙ sym (run_more bytes from at le lt)

-- what is left is a run that stands for itself, an escaped byte, and what is left behind it
pub left-escaped : (bytes behind : List ℕ) (from at : ℕ) → from ≤ at → at < length bytes → flat_map escaped (run bytes from at) ≡ run bytes from at
    → flat_map escaped (drop from bytes) ++ behind ≡ (run bytes from at ++ escaped (get_or bytes at 0)) ++ (flat_map escaped (drop (at + 1) bytes) ++ behind)
left-escaped bytes behind from at le lt stands =
    ap (λ (t : List ℕ). flat_map escaped t ++ behind) split
    ∙ ap (λ (t : List ℕ). t ++ behind) (flat_map-append escaped (run bytes from at) (get_or bytes at 0 ∷ drop (at + 1) bytes))
    ∙ ap (λ (t : List ℕ). (t ++ (escaped (get_or bytes at 0) ++ flat_map escaped (drop (at + 1) bytes))) ++ behind) stands
    ∙ simp append_assoc
  where
    split : drop from bytes ≡ run bytes from at ++ get_or bytes at 0 ∷ drop (at + 1) bytes
    split =
        sym (take-append-drop (at - from) (drop from bytes))
        ∙ ap (λ (t : List ℕ). run bytes from at ++ t) (drop-drop (at - from) from bytes ∙ ap (λ (n : ℕ). drop n bytes) (let e : from + (at - from) ≡ at = omega arith in e) ∙ drop-cons bytes at 0 lt ∙ ap (λ (n : ℕ). get_or bytes at 0 ∷ drop n bytes) (let e : suc at ≡ at + 1 = omega arith in e))
