-- Numbers of four and of eight bytes.
use Rattle.std.proofs.Common.{◌≡◌, ℕ, ◌<◌, ◌≤◌, true, false, ltb, List, length, Result, Ok, Err, refl, sym, ap, ◌∙◌, ℤ, inl, inr}
use Rattle.std.proofs.lemmas.Bool.{cases_lt, lt-ltb, le-ltb}
use Rattle.lu_grammar.specs.declared.bad.Bad.{Bad}
use Rattle.lu_grammar.specs.declared.bad.Bad.TheVariants.{Ends}
use Rattle.lu_grammar.specs.Bytes.{Cursor, moved}
use Rattle.lu_grammar.specs.Parts.{int32, int64}
use Rattle.lu_grammar.specs.Reading.{◌>>=◌, read, read_part, signed_of}
use Rattle.std.specs.Int.{w32, w64}
use Rattle.std.proofs.Common.{take}
use Rattle.lu_grammar.proofs.Records.{ok_pair, same_pair}
use Rattle.lu_grammar.proofs.Plans.{err_is_not_ok}

-- where there are eight bytes they are a number
pub int64_there : (bs : List ℕ) → 8 ≤ length bs → read int64 bs ≡ Ok (signed_of w64 (take 8 bs), 8)
unfolding read
int64_there bs le = let long : ltb (length bs) 8 ≡ false = le-ltb (length bs) 8 le in rw long refl

-- and where there are fewer they are none
pub int64_short : (bs : List ℕ) → length bs < 8 → (z : ℤ) (n : ℕ) → read int64 bs ≡ ok_pair z n → ⊥
unfolding read
int64_short bs lt z n e =
    let short : ltb (length bs) 8 ≡ true = lt-ltb (length bs) 8 lt in
    let bad : read int64 bs ≡ Err Ends = rw short refl in
    err_is_not_ok (sym bad ∙ e)

-- what a number of eight bytes that was read says
pub int64_read : (c d : Cursor) (z : ℤ) → read_part int64 c ≡ ok_pair z d → (8 ≤ length c.rest) × (read int64 c.rest ≡ Ok (z, 8)) × (d ≡ moved 8 c)
int64_read c d z e = elim (cases_lt (length c.rest) 8) [
  | inl lt ↦ absurd (none lt)
  | inr le ↦
      let there = int64_there c.rest le in
      let w = signed_of w64 (take 8 c.rest) in
      let same : ok_pair {E = Bad} w (moved 8 c) ≡ ok_pair z d = sym (ap (λ (r : Result (ℤ × ℕ) Bad). r >>= λ x. ok_pair x.0 (moved x.1 c)) there) ∙ e in
      let parts = same_pair w z (moved 8 c) d same in
      (le, there ∙ ap (λ (x : ℤ). ok_pair x 8) parts.0, sym parts.1)
]
  where
    none : length c.rest < 8 → ⊥
    none lt = go (read int64 c.rest) refl e
      where
        go : (r : Result (ℤ × ℕ) Bad) → read int64 c.rest ≡ r → (r >>= λ x. ok_pair x.0 (moved x.1 c)) ≡ ok_pair z d → ⊥
        go (Ok x) is h = int64_short c.rest lt x.0 x.1 is
        go (Err bad) is h = err_is_not_ok h

-- where there are eight bytes reading does not fail
pub int64_not_bad : (c : Cursor) (bad : Bad) → 8 ≤ length c.rest → read_part int64 c ≡ Err bad → ⊥
int64_not_bad c bad le e =
    let there = int64_there c.rest le in
    let w = signed_of w64 (take 8 c.rest) in
    let ok : read_part int64 c ≡ ok_pair w (moved 8 c) = ap (λ (r : Result (ℤ × ℕ) Bad). r >>= λ x. ok_pair x.0 (moved x.1 c)) there in
    err_is_not_ok (sym e ∙ ok)

-- where four bytes were read as a number they are behind
pub int32_read : (c d : Cursor) (z : ℤ) → read_part int32 c ≡ ok_pair z d → (4 ≤ length c.rest) × (d ≡ moved 4 c)
unfolding read
int32_read c d z e = elim (cases_lt (length c.rest) 4) [
  | inl lt ↦
      let short : ltb (length c.rest) 4 ≡ true = lt-ltb (length c.rest) 4 lt in
      let bad : read_part int32 c ≡ Err Ends = rw short refl in
      absurd (err_is_not_ok (sym bad ∙ e))
  | inr le ↦
      let long : ltb (length c.rest) 4 ≡ false = le-ltb (length c.rest) 4 le in
      let there : read_part int32 c ≡ ok_pair (signed_of w32 (take 4 c.rest)) (moved 4 c) = rw long refl in
      (le, sym (same_pair (signed_of w32 (take 4 c.rest)) z (moved 4 c) d (sym there ∙ e)).1)
]
