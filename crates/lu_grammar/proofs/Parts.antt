-- What is spelled is read, what is read is spelled so, and what is not read is wrong as the page says.
use Rattle.std.proofs.Common.{lit≤, ◌≡◌, ℕ, ◌+◌, ◌^◌, ◌<◌, ◌≤◌, true, false, ltb, List, [], ◌∷◌, ◌++◌, length, take, drop, Result, Ok, Err, refl, sym, ap, ◌∙◌, append_assoc, arith, inl, inr, ◌⊎◌}
use Rattle.std.specs.Prelude.{MatchResult, ℤ, FitsSigned}
use Rattle.std.specs.Int.{Width, w32, w64, byte_len, from_be_bytes, to_be_bytes, cast_signed, cast_unsigned}
use mir.Val.{bits, Fits}
use Rattle.std.proofs.Math.Facts.{sfits_to_z, Fits-of_z}
use Rattle.std.specs.Str.{IsUtf8, is_utf8}
use Rattle.std.proofs.lemmas.Bool.{cases_lt, le-ltb, lt-ltb, cases_Bool, false_from_ne_true}
use Rattle.std.proofs.lemmas.List.{take_at, drop_at, take-append-drop, length-append, length-take, get_or-drop, get_or-take, get_or_past, drop-drop}
use Rattle.std.proofs.lemmas.Nat.{be_bytes_4, be_bytes_8, from_be_bytes-to_be_bytes_4, from_be_bytes-to_be_bytes_8}
use Rattle.std.proofs.lemmas.Int.{to_z-of_z, of_z-to_z}
use Rattle.std.proofs.lemmas.Str.{IsUtf8-from_is_utf8, is_utf8-from_IsUtf8}
use Rattle.lu_grammar.specs.declared.bad.Bad.{Bad}
use Rattle.lu_grammar.specs.declared.bad.Bad.TheVariants.{Ends}
use Rattle.lu_grammar.specs.Bytes.{IsBytes}
use Rattle.lu_grammar.specs.Parts.{Part, byte, int32, int64, vint, num, vlong, bytes, text, Value, IsValue, spelling, groups, HasNone, IsWrong, IsWrongText, bad_number}
use Rattle.lu_grammar.specs.Reading.{◌>>=◌, read, read_front, read_number, read_utf8, signed_of}
use Rattle.lu_grammar.proofs.Numbers.{read_number-spelled, read_number-judges, TakesNumber}

pub IsBytes-drop : (n : ℕ) (bs : List ℕ) → IsBytes bs → IsBytes (drop n bs)
IsBytes-drop n bs h i = rw get_or-drop (h (n + i))

pub IsBytes-take : (n : ℕ) (bs : List ℕ) → IsBytes bs → IsBytes (take n bs)
IsBytes-take n bs h i =
    elim (cases_lt i n) [
      | inl lt ↦ rw (get_or-take n bs i 0 lt) (h i)
      | inr le ↦ rw (get_or_past (take n bs) i 0 (omega (arith, length-take n bs))) (omega arith)
    ]

pub IsBytes-back : (front bs back : List ℕ) → bs ≡ front ++ back → IsBytes bs → IsBytes back
IsBytes-back front bs back e h i = rw (← drop_at front back (length front) refl, ← e) (IsBytes-drop (length front) bs h i)

-- ---- the first so many bytes

read_front-at : {A : Type 0} (f : List ℕ → A) (n : ℕ) (front rest : List ℕ) → length front ≡ n → read_front f n (front ++ rest) ≡ Ok (f front, n)
read_front-at f n front rest len =
    let long : ltb (length (front ++ rest)) n ≡ false = le-ltb _ _ (omega (arith, length-append front rest)) in
    rw (long, take_at front rest n len) refl

-- what the front of the bytes is, or that there are too few
read_front-is : {A : Type 0} (f : List ℕ → A) (n : ℕ) (bs : List ℕ) → ((length bs < n) × (read_front f n bs ≡ Err Ends)) ⊎ ((n ≤ length bs) × (read_front f n bs ≡ Ok (f (take n bs), n)))
read_front-is f n bs = elim (cases_lt (length bs) n) [
  | inl lt ↦ let short : ltb (length bs) n ≡ true = lt-ltb _ _ lt in inl (lt, rw short refl)
  | inr le ↦ let long : ltb (length bs) n ≡ false = le-ltb _ _ le in inr (le, rw long refl)
]

-- ---- whole numbers with a sign, at any width

pub record IsWide (w : Width) : Type 0 where
  pub len : (n : ℕ) → length (to_be_bytes w n) ≡ byte_len w
  pub back : (bs : List ℕ) → length bs ≡ byte_len w → IsBytes bs → to_be_bytes w (from_be_bytes w bs) ≡ bs
  pub again : (n : ℕ) → n < 2 ^ bits w → from_be_bytes w (to_be_bytes w n) ≡ n
  pub below : (bs : List ℕ) → IsBytes bs → from_be_bytes w bs < 2 ^ bits w
  pub unsigned : (z : ℤ) → FitsSigned w z → cast_unsigned w z < 2 ^ bits w
  pub signed : (n : ℕ) → n < 2 ^ bits w → FitsSigned w (cast_signed w n)

unsigned_below : (w : Width) (z : ℤ) → FitsSigned w z → cast_unsigned w z < 2 ^ bits w
unsigned_below w z h = (Fits-of_z {w = w} {z = z} h).fits

signed_fits : (w : Width) (n : ℕ) → n < 2 ^ bits w → FitsSigned w (cast_signed w n)
signed_fits w n lt = let f : Fits w n = record { fits = lt } in sfits_to_z f

wide32 : IsWide w32
wide32 = record {
  len = λ n. refl;
  back = λ bs len fits. be_bytes_4 bs _ len fits refl;
  again = λ n lt. from_be_bytes-to_be_bytes_4 n lt;
  below = λ bs fits. omega (arith, fits 0, fits 1, fits 2, fits 3);
  unsigned = λ z h. unsigned_below w32 z h;
  signed = λ n lt. signed_fits w32 n lt;
}

wide64 : IsWide w64
wide64 = record {
  len = λ n. refl;
  back = λ bs len fits. be_bytes_8 bs _ len fits refl;
  again = λ n lt. from_be_bytes-to_be_bytes_8 n lt;
  below = λ bs fits. omega (arith, fits 0, fits 1, fits 2, fits 3, fits 4, fits 5, fits 6, fits 7);
  unsigned = λ z h. unsigned_below w64 z h;
  signed = λ n lt. signed_fits w64 n lt;
}

signed-read : (w : Width) (wide : IsWide w) (z : ℤ) (rest : List ℕ) → FitsSigned w z
    → read_front (signed_of w) (byte_len w) (to_be_bytes w (cast_unsigned w z) ++ rest) ≡ Ok (z, length (to_be_bytes w (cast_unsigned w z)))
signed-read w wide z rest fits =
    let n = cast_unsigned w z in
    read_front-at (signed_of w) (byte_len w) (to_be_bytes w n) rest (wide.len n)
    ∙ rw (wide.again n (wide.unsigned z fits), to_z-of_z w z fits, wide.len n) refl

-- what was taken for a value of the part
pub record Takes (p : Part) (bs : List ℕ) (v : Value p) (n : ℕ) : Type 0 where
  pub value : IsValue p v
  pub front : bs ≡ spelling p v ++ drop n bs

-- ---- every part

pub read-spelling : (p : Part) (v : Value p) (rest : List ℕ) → IsValue p v → read p (spelling p v ++ rest) ≡ Ok (v, length (spelling p v))
unfolding read
read-spelling byte n rest h = refl
read-spelling int32 z rest h = signed-read w32 wide32 z rest h
read-spelling int64 z rest h = signed-read w64 wide64 z rest h
read-spelling vint n rest h = read_number-spelled 4 (2 ^ 32) n rest (lit≤ tt) h
read-spelling num n rest h = read_number-spelled 4 (2 ^ 31) n rest (lit≤ tt) h
read-spelling vlong n rest h = read_number-spelled 8 (2 ^ 63) n rest (lit≤ tt) h
read-spelling (bytes n) bs rest h = read_front-at (λ front. front) n bs rest h.0 ∙ ap (λ (k : ℕ). Ok (bs, k)) (sym h.0)
read-spelling text bs rest h =
    let n = length bs in
    let again = read_number-spelled 4 (2 ^ 31) n (bs ++ rest) (lit≤ tt) h.0 in
    let valid : is_utf8 bs ≡ true = is_utf8-from_IsUtf8 bs h.1 in
    rw (append_assoc (groups 4 n) bs rest, again, drop_at (groups 4 n) (bs ++ rest) (length (groups 4 n)) refl, read_front-at (λ front. front) n bs rest refl, valid)
    (ap (λ (k : ℕ). Ok (bs, k)) (sym (length-append (groups 4 n) bs)))

-- where reading fails no spelling begins the bytes
HasNone-from_err : (p : Part) (bs : List ℕ) (bad : Bad) → read p bs ≡ Err bad → HasNone p bs
HasNone-from_err p bs bad e v back value front =
    let again : read p bs ≡ Ok (v, length (spelling p v)) = ap (read p) front ∙ read-spelling p v back value in
    absurd cc

-- what is read is spelled so, and what is not read is wrong
abbrev pub Judges : (p : Part) (bs : List ℕ) → Result (Value p × ℕ) Bad → Type 0
Judges p bs r = MatchResult r (λ x. Takes p bs x.0 x.1) (λ bad. IsWrong p bs bad)

front-judges : {A : Type 0} (f : List ℕ → A) (n : ℕ) (bs : List ℕ) → MatchResult (read_front f n bs) (λ x. (n ≤ length bs) × (x.0 ≡ f (take n bs)) × (x.1 ≡ n)) (λ bad. (length bs < n) × (bad ≡ Ends))
front-judges f n bs = elim (read_front-is f n bs) [
  | inl (lt, e) ↦ rw e (lt, refl)
  | inr (le, e) ↦ rw e (le, refl, refl)
]

-- the number that was read, and that it is a value
signed-judges : (w : Width) (wide : IsWide w) (bs : List ℕ) (z : ℤ) (n : ℕ) → IsBytes bs → byte_len w ≤ length bs → z ≡ signed_of w (take (byte_len w) bs) → n ≡ byte_len w
    → FitsSigned w z × (bs ≡ to_be_bytes w (cast_unsigned w z) ++ drop n bs)
signed-judges w wide bs z n fits long z-is n-is =
    let front = take (byte_len w) bs in
    let len : length front ≡ byte_len w = omega (arith, length-take (byte_len w) bs) in
    let m = from_be_bytes w front in
    let below : m < 2 ^ bits w = wide.below front (IsBytes-take (byte_len w) bs fits) in
    let unsigned : cast_unsigned w (cast_signed w m) ≡ m = of_z-to_z w m below in
    let spelled : to_be_bytes w (cast_unsigned w z) ≡ front = rw (z-is, unsigned) (wide.back front len (IsBytes-take (byte_len w) bs fits)) in
    (rw z-is (wide.signed m below), rw (spelled, n-is) (sym (take-append-drop (byte_len w) bs)))

-- what a reading says of its value and of its failure decides
judge : (p : Part) (bs : List ℕ) (P : Value p × ℕ → Type 0) (Q : Bad → Type 0) → MatchResult (read p bs) P Q → ((x : Value p × ℕ) → P x → Takes p bs x.0 x.1)
    → ((bad : Bad) → HasNone p bs → Q bad → IsWrong p bs bad) → Judges p bs (read p bs)
judge p bs P Q h taken wrong = go (read p bs) refl h
  where
    go : (r : Result (Value p × ℕ) Bad) → read p bs ≡ r → MatchResult r P Q → Judges p bs r
    go (Ok x) e k = taken x k
    go (Err bad) e k = wrong bad (HasNone-from_err p bs bad e) k

signed-part : (w : Width) (wide : IsWide w) (bs : List ℕ) (x : ℤ × ℕ) → IsBytes bs → (byte_len w ≤ length bs) × (x.0 ≡ signed_of w (take (byte_len w) bs)) × (x.1 ≡ byte_len w)
    → FitsSigned w x.0 × (bs ≡ to_be_bytes w (cast_unsigned w x.0) ++ drop x.1 bs)
signed-part w wide bs x fits h = signed-judges w wide bs x.0 x.1 fits h.0 h.1 h.2

-- a text that was read, or what is wrong with it
text-judges : (n : ℕ) (bs : List ℕ) → MatchResult (read_utf8 n bs) (λ x. (length x.0 ≡ n) × IsUtf8 x.0 × (bs ≡ x.0 ++ drop n bs) × (x.1 ≡ n)) (λ bad. IsWrongText n bs bad)
text-judges n bs =
    elim (read_front-is (λ front. front) n bs) [
      | inl (lt, e) ↦ rw e (inl (lt, refl))
      | inr (le, e) ↦ rw e (elim (cases_Bool (is_utf8 (take n bs))) [
        | inl valid ↦ rw valid (omega (arith, length-take n bs), IsUtf8-from_is_utf8 (take n bs) valid, sym (take-append-drop n bs), refl)
        | inr not_valid ↦ rw not_valid (inr (le, (λ u. let t : is_utf8 (take n bs) ≡ true = is_utf8-from_IsUtf8 (take n bs) u in absurd cc), refl))
      ])
    ]

bytes-part : (n : ℕ) (bs : List ℕ) (x : List ℕ × ℕ) → IsBytes bs → (n ≤ length bs) × (x.0 ≡ take n bs) × (x.1 ≡ n) → Takes (bytes n) bs x.0 x.1
bytes-part n bs x fits h =
    let len : length x.0 ≡ n = rw h.1 (omega (arith, length-take n bs, h.0)) in
    let fit : IsBytes x.0 = λ i. rw h.1 (IsBytes-take n bs fits i) in
    record { value = (len, fit); front = rw (h.1, h.2) (sym (take-append-drop n bs)) }

text-step : (bs : List ℕ) (n : ℕ × ℕ) (r : Result (List ℕ × ℕ) Bad) → TakesNumber 4 (2 ^ 31) bs n.0 n.1
    → MatchResult r (λ x. (length x.0 ≡ n.0) × IsUtf8 x.0 × (drop n.1 bs ≡ x.0 ++ drop n.0 (drop n.1 bs)) × (x.1 ≡ n.0)) (λ bad. IsWrongText n.0 (drop n.1 bs) bad)
    → Judges text bs (r >>= λ x. Ok (x.0, n.1 + x.1))
text-step bs n (Ok x) number h =
    let below : length x.0 < 2 ^ 31 = omega (arith, number.below, h.0) in
    let whole : bs ≡ (groups 4 (length x.0) ++ x.0) ++ drop (n.1 + x.1) bs =
    number.front ∙ ap (λ (t : List ℕ). groups 4 n.0 ++ t) h.2 ∙ sym (append_assoc (groups 4 n.0) x.0 (drop n.0 (drop n.1 bs)))
    ∙ ap (λ (m : ℕ). (groups 4 m ++ x.0) ++ drop n.0 (drop n.1 bs)) (sym h.0) ∙ ap (λ (t : List ℕ). (groups 4 (length x.0) ++ x.0) ++ t) (drop-drop n.0 n.1 bs)
    ∙ ap (λ (m : ℕ). (groups 4 (length x.0) ++ x.0) ++ drop (n.1 + m) bs) (sym h.3) in
    record { value = (below, h.1); front = whole }
text-step bs n (Err bad) number h = inr (n.0, drop n.1 bs, number.below, number.front, h)

text-whole : (bs : List ℕ) (r : Result (ℕ × ℕ) Bad) → read_number 4 (2 ^ 31) bs ≡ r → MatchResult r (λ x. TakesNumber 4 (2 ^ 31) bs x.0 x.1) (λ bad. bad ≡ bad_number 5 bs)
    → Judges text bs (r >>= λ n. read_utf8 n.0 (drop n.1 bs) >>= λ x. Ok (x.0, n.1 + x.1))
unfolding read
text-whole bs (Ok n) e number = text-step bs n (read_utf8 n.0 (drop n.1 bs)) number (text-judges n.0 (drop n.1 bs))
text-whole bs (Err bad) e h = inl (HasNone-from_err num bs bad e, h)

pub read-judges : (p : Part) (bs : List ℕ) → IsBytes bs → Judges p bs (read p bs)
unfolding read
read-judges byte [] fits = (HasNone-from_err byte [] Ends refl, refl)
read-judges byte (b ∷ bs) fits = record { value = fits 0; front = refl }
read-judges int32 bs fits = judge int32 bs _ _ (front-judges (signed_of w32) 4 bs) (λ x h. let s = signed-part w32 wide32 bs x fits h in record { value = s.0; front = s.1 }) (λ bad none h. (none, h.1))
read-judges int64 bs fits = judge int64 bs _ _ (front-judges (signed_of w64) 8 bs) (λ x h. let s = signed-part w64 wide64 bs x fits h in record { value = s.0; front = s.1 }) (λ bad none h. (none, h.1))
read-judges vint bs fits = judge vint bs _ _ (read_number-judges 4 (2 ^ 32) bs fits) (λ x h. record { value = h.below; front = h.front }) (λ bad none h. (none, h))
read-judges num bs fits = judge num bs _ _ (read_number-judges 4 (2 ^ 31) bs fits) (λ x h. record { value = h.below; front = h.front }) (λ bad none h. (none, h))
read-judges vlong bs fits = judge vlong bs _ _ (read_number-judges 8 (2 ^ 63) bs fits) (λ x h. record { value = h.below; front = h.front }) (λ bad none h. (none, h))
read-judges (bytes n) bs fits = judge (bytes n) bs _ _ (front-judges (λ front. front) n bs) (λ x h. bytes-part n bs x fits h) (λ bad none h. (none, h.1))
read-judges text bs fits = text-whole bs (read_number 4 (2 ^ 31) bs) refl (read_number-judges 4 (2 ^ 31) bs fits)

-- what is wrong by the page is what reading answers
wrong-read-simple : (p : Part) (bs : List ℕ) (bad right : Bad) → IsBytes bs → HasNone p bs → bad ≡ right → ((e : Bad) → IsWrong p bs e → e ≡ right) → read p bs ≡ Err bad
wrong-read-simple p bs bad right fits none is only = go (read p bs) refl (read-judges p bs fits)
  where
    go : (r : Result (Value p × ℕ) Bad) → read p bs ≡ r → Judges p bs r → r ≡ Err bad
    go (Ok x) e taken = absurd (none x.0 (drop x.1 bs) taken.value taken.front)
    go (Err e) was wrong = ap (λ (b : Bad). Err b) (only e wrong ∙ sym is)

text-wrong-read : (n : ℕ) (back : List ℕ) (bad : Bad) → IsWrongText n back bad → read_utf8 n back ≡ Err bad
text-wrong-read n back bad (inl (short, is)) = let t : ltb (length back) n ≡ true = lt-ltb _ _ short in rw t (ap (λ (b : Bad). Err b) (sym is))
text-wrong-read n back bad (inr (long, not_valid, is)) =
    let f : ltb (length back) n ≡ false = le-ltb _ _ long in
    let v : is_utf8 (take n back) ≡ false = false_from_ne_true (is_utf8 (take n back)) (λ t. not_valid (IsUtf8-from_is_utf8 (take n back) t)) in
    rw (f, v) (ap (λ (b : Bad). Err b) (sym is))

text-wrong : (bs : List ℕ) (bad : Bad) → IsBytes bs → IsWrong text bs bad → read text bs ≡ Err bad
unfolding read
text-wrong bs bad fits (inl (none, is)) =
    let e : read_number 4 (2 ^ 31) bs ≡ Err bad = wrong-read-simple num bs bad (bad_number 5 bs) fits none is (λ e w. w.1) in
    rw e refl
text-wrong bs bad fits (inr (n, back, lt, front, h)) =
    let again = read_number-spelled 4 (2 ^ 31) n back (lit≤ tt) lt in
    ap (read text) front ∙ rw (again, drop_at (groups 4 n) back (length (groups 4 n)) refl, text-wrong-read n back bad h) refl

pub wrong-read : (p : Part) (bs : List ℕ) (bad : Bad) → IsBytes bs → IsWrong p bs bad → read p bs ≡ Err bad
wrong-read byte bs bad fits wrong = wrong-read-simple byte bs bad Ends fits wrong.0 wrong.1 (λ e w. w.1)
wrong-read int32 bs bad fits wrong = wrong-read-simple int32 bs bad Ends fits wrong.0 wrong.1 (λ e w. w.1)
wrong-read int64 bs bad fits wrong = wrong-read-simple int64 bs bad Ends fits wrong.0 wrong.1 (λ e w. w.1)
wrong-read vint bs bad fits wrong = wrong-read-simple vint bs bad (bad_number 5 bs) fits wrong.0 wrong.1 (λ e w. w.1)
wrong-read num bs bad fits wrong = wrong-read-simple num bs bad (bad_number 5 bs) fits wrong.0 wrong.1 (λ e w. w.1)
wrong-read vlong bs bad fits wrong = wrong-read-simple vlong bs bad (bad_number 9 bs) fits wrong.0 wrong.1 (λ e w. w.1)
wrong-read (bytes n) bs bad fits wrong = wrong-read-simple (bytes n) bs bad Ends fits wrong.0 wrong.1 (λ e w. w.1)
wrong-read text bs bad fits wrong = text-wrong bs bad fits wrong
