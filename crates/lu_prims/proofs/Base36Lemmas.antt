-- Base 36: a spelling gives back its number, and a plain text its spelling.
use Rattle.std.proofs.Common.{◌≡◌, ◌≢◌, ◌⊎◌, ℕ, zero, suc, ◌+◌, ◌*◌, ◌/◌, ◌%◌, ◌<◌, ◌≤◌, Bool, false, cond, eqb, List, [], ◌∷◌, ◌++◌, length, drop, map, get_or, ⊎_elim, inl, inr, refl, sym, ap, subst, ◌∙◌, append_assoc, arith}
use Rattle.std.specs.Prelude.{slice_index}
use Rattle.std.specs.Char.{digit_char, digit_value, encode_utf8}
use Rattle.std.specs.Int.Digits.{digits_of, number_from_digits, number_from_digits_after, AllBelowBase}
use Rattle.std.specs.Str.Parse.{digits_value, AllDigits, IsNumeral, without_leading_plus}
use Rattle.std.proofs.lemmas.Bool.{ne_eqb}
use Rattle.std.proofs.lemmas.Bool.Decides.{nat_tests}
use Rattle.std.proofs.lemmas.Int.Digits.{all_below_base_from_digits, number_after_ge, digits_of_step, all_below_base_digits_of, first_digits_of, number_digits_of, digits_value_is}
use Rattle.std.proofs.lemmas.Str.{digit_value-digit_char}
use Rattle.std.proofs.lemmas.List.{append-nil, map-append}
use Rattle.lu_prims.specs.Base36.{base36, IsPlain, IsPlainByte}

-- the quotient and the rest of what a digit is appended to
quotient : (n d : ℕ) → d < 36 → ((n * 36 + d) / 36 ≡ n) × ((n * 36 + d) % 36 ≡ d)
quotient n d h = (omega arith, omega arith)

-- the digits of a number that digits extend are its digits and those
digits_after : (n : ℕ) (ds : List ℕ) → 0 < n → AllBelowBase 36 ds → digits_of 36 (number_from_digits_after 36 n ds) ≡ digits_of 36 n ++ ds
digits_after n [] h a = sym (append-nil (digits_of 36 n))
digits_after n (d ∷ ds) h a =
    let q = quotient n d a.0 in
    let step : digits_of 36 (n * 36 + d) ≡ digits_of 36 n ++ (d ∷ []) =
    digits_of_step 36 (n * 36 + d) (omega arith) (omega arith) ∙ ap (λ (x : ℕ). digits_of 36 x ++ ((n * 36 + d) % 36 ∷ [])) q.0 ∙ ap (λ (x : ℕ). digits_of 36 n ++ (x ∷ [])) q.1 in
    digits_after (n * 36 + d) ds (omega arith) a.1 ∙ ap (λ (x : List ℕ). x ++ ds) step ∙ append_assoc (digits_of 36 n) (d ∷ []) ds

-- digits that no zero leads are the digits of their number
digits_again : (d : ℕ) (ds : List ℕ) → 0 < d → AllBelowBase 36 (d ∷ ds) → digits_of 36 (number_from_digits 36 (d ∷ ds)) ≡ d ∷ ds
digits_again d ds h a =
    let q = quotient 0 d a.0 in
    let one : digits_of 36 (0 * 36 + d) ≡ d ∷ [] =
    digits_of_step 36 (0 * 36 + d) (omega arith) (omega arith) ∙ ap (λ (x : ℕ). digits_of 36 x ++ ((0 * 36 + d) % 36 ∷ [])) q.0 ∙ ap (λ (x : ℕ). x ∷ []) q.1 in
    digits_after (0 * 36 + d) ds (omega arith) a.1 ∙ ap (λ (x : List ℕ). x ++ ds) one

-- the spelling of a number over 0 is its digits, each as a character
spelled_digits : (n : ℕ) → 0 < n → base36 n ≡ map digit_char (digits_of 36 n)
spelled_digits n h = ap (λ t. cond t (48 ∷ []) (map digit_char (digits_of 36 n))) (ne_eqb n 0 (λ e. omega arith))

-- a plain byte is the character of its value
plain_byte : (c : ℕ) → IsPlainByte c → (digit_value c < 36) × (digit_char (digit_value c) ≡ c)
plain_byte c h = grind (arith, nat_tests)

-- the values of plain bytes are digits, and their characters are the bytes
plain_bytes : (bs : List ℕ) → ((k : ℕ) → k < length bs → IsPlainByte (slice_index bs k)) → AllDigits 36 bs × (map digit_char (map digit_value bs) ≡ bs)
plain_bytes [] h = (tt, refl)
plain_bytes (c ∷ cs) h =
    let first = plain_byte c (h 0 (omega arith)) in
    let others = plain_bytes cs (λ k l. h (suc k) (omega arith)) in
    ((first.0, others.0), ap (λ x. x ∷ map digit_char (map digit_value cs)) first.1 ∙ ap (λ (x : List ℕ). c ∷ x) others.1)

-- what plain bytes over 0 spell is the spelling of their number
spelled_again : (c : ℕ) (cs : List ℕ) → 0 < digit_value c → AllDigits 36 (c ∷ cs) → map digit_char (map digit_value (c ∷ cs)) ≡ c ∷ cs → base36 (digits_value 36 (c ∷ cs)) ≡ c ∷ cs
spelled_again c cs h a e =
    let below = all_below_base_from_digits 36 (c ∷ cs) a in
    let is = digits_value_is 36 (c ∷ cs) in
    let again = digits_again (digit_value c) (map digit_value cs) h below in
    let grows : digit_value c ≤ number_from_digits_after 36 (digit_value c) (map digit_value cs) = number_after_ge 36 (digit_value c) (map digit_value cs) (omega arith) in
    let over : 0 < number_from_digits 36 (map digit_value (c ∷ cs)) = let from : digit_value c ≡ 0 * 36 + digit_value c = omega arith in let least : 0 < number_from_digits_after 36 (digit_value c) (map digit_value cs) = omega arith in subst (λ (x : ℕ). 0 < number_from_digits_after 36 x (map digit_value cs)) from least in
    ap base36 is ∙ spelled_digits (number_from_digits 36 (map digit_value (c ∷ cs))) over ∙ ap (map digit_char) again ∙ e

-- a plain byte of value 0 is the digit 0
zero_byte : (c : ℕ) → IsPlainByte c → digit_value c ≡ 0 → c ≡ 48
zero_byte c h e = let p = plain_byte c h in sym p.1 ∙ ap digit_char e

pos_or_zero : (n : ℕ) → (0 < n) ⊎ (n ≡ 0)
pos_or_zero zero = inr refl
pos_or_zero (suc n) = inl (omega arith)

lone_zero : (c : ℕ) (cs : List ℕ) → c ≡ 48 → (1 < length (c ∷ cs) → c ≢ 48) → base36 (digits_value 36 (c ∷ cs)) ≡ c ∷ cs
lone_zero c [] e h = ap (λ (x : ℕ). base36 (digits_value 36 (x ∷ []))) e ∙ ap (λ (x : ℕ). x ∷ []) (sym e)
lone_zero c (d ∷ cs) e h = absurd (h (omega arith) e)

-- a plain text that is not empty is the spelling of its number
pub plain_spells : (bs : List ℕ) → 0 < length bs → IsPlain bs → base36 (digits_value 36 bs) ≡ bs
plain_spells [] h p = absurd (omega arith)
plain_spells (c ∷ cs) h p =
    let is = plain_bytes (c ∷ cs) p.1 in
    let first = p.1 0 (omega arith) in
    ⊎_elim
    (λ (leads : 0 < digit_value c). spelled_again c cs leads is.0 is.1)
    (λ (leads : digit_value c ≡ 0). lone_zero c cs (zero_byte c first leads) p.0)
    (pos_or_zero (digit_value c))

-- a digit is below 36, and its character has its value and is plain
digit_byte : (d : ℕ) → d < 36 → IsPlainByte (digit_char d)
digit_byte d h = grind (arith, nat_tests)

values_of_digits : (ds : List ℕ) → AllBelowBase 36 ds → map digit_value (map digit_char ds) ≡ ds
values_of_digits [] a = refl
values_of_digits (d ∷ ds) a =
    ap (λ x. x ∷ map digit_value (map digit_char ds)) (digit_value-digit_char d a.0) ∙ ap (λ (x : List ℕ). d ∷ x) (values_of_digits ds a.1)

digits_plain : (ds : List ℕ) → AllBelowBase 36 ds → (k : ℕ) → k < length (map digit_char ds) → IsPlainByte (slice_index (map digit_char ds) k)
digits_plain [] a k h = absurd (omega arith)
digits_plain (d ∷ ds) a zero h = digit_byte d a.0
digits_plain (d ∷ ds) a (suc k) h = digits_plain ds a.1 k (omega arith)

-- a spelling's number
pub spelled_value : (n : ℕ) → digits_value 36 (base36 n) ≡ n
spelled_value zero = refl
spelled_value (suc m) =
    let n = suc m in
    let below = all_below_base_digits_of 36 n (omega arith) in
    ap (digits_value 36) (spelled_digits n (omega arith)) ∙ digits_value_is 36 (map digit_char (digits_of 36 n)) ∙ ap (number_from_digits 36) (values_of_digits (digits_of 36 n) below) ∙ number_digits_of 36 n (omega arith)

-- numbers with one spelling are one
pub base36_same : (m n : ℕ) → base36 m ≡ base36 n → m ≡ n
base36_same m n e = sym (spelled_value m) ∙ ap (digits_value 36) e ∙ spelled_value n

digit_leads : (d : ℕ) → d < 36 → digit_char d ≡ 48 → d ≡ 0
digit_leads d h e = sym (digit_value-digit_char d h) ∙ ap digit_value e

lead_is : (ds : List ℕ) → 0 < get_or ds 0 0 → AllBelowBase 36 ds → slice_index (map digit_char ds) 0 ≢ 48
lead_is [] h a e = omega arith
lead_is (d ∷ ds) h a e = let zero_is = digit_leads d a.0 e in omega arith

some_digit : (ds : List ℕ) → 0 < get_or ds 0 0 → 0 < length (map digit_char ds)
some_digit [] h = absurd (omega arith)
some_digit (d ∷ ds) h = omega arith

one_plain : (k : ℕ) → k < length (base36 0) → IsPlainByte (slice_index (base36 0) k)
one_plain zero h = inl (omega arith, omega arith)
one_plain (suc k) h = absurd (omega arith)

not_plus : (c : ℕ) → IsPlainByte c → eqb c 43 ≡ false
not_plus c h = grind (arith, nat_tests)

-- a spelling is plain and not empty
pub spelled_plain : (n : ℕ) → IsPlain (base36 n) × (0 < length (base36 n))
spelled_plain zero = ((λ h. absurd (omega arith), λ k h. one_plain k h), omega arith)
spelled_plain (suc m) =
    let n = suc m in
    let two : 2 ≤ 36 = omega arith in
    let below = all_below_base_digits_of 36 n two in
    let is = spelled_digits n (omega arith) in
    let leads = first_digits_of 36 n two (omega arith) in
    let plain : IsPlain (map digit_char (digits_of 36 n)) × (0 < length (map digit_char (digits_of 36 n))) = ((λ h. lead_is (digits_of 36 n) leads below, digits_plain (digits_of 36 n) below), some_digit (digits_of 36 n) leads) in
    subst (λ (x : List ℕ). IsPlain x × (0 < length x)) (sym is) plain

no_plus : (bs : List ℕ) → IsPlain bs → without_leading_plus bs ≡ bs
no_plus [] p = refl
no_plus (c ∷ cs) p = let sign = not_plus c (p.1 0 (omega arith)) in ap (λ (t : Bool). drop (cond t 1 0) (c ∷ cs)) sign

-- a plain text that is not empty reads as a numeral
pub plain_reads : (bs : List ℕ) → IsPlain bs → 0 < length bs → IsNumeral 36 (without_leading_plus bs) × (digits_value 36 (without_leading_plus bs) ≡ digits_value 36 bs)
plain_reads bs p h =
    let same = no_plus bs p in
    let numeral : IsNumeral 36 bs × (digits_value 36 bs ≡ digits_value 36 bs) = ((h, (plain_bytes bs p.1).0), refl) in
    subst (λ (x : List ℕ). IsNumeral 36 x × (digits_value 36 x ≡ digits_value 36 bs)) (sym same) numeral

-- so does each spelling, as its number
pub spelled_reads : (bs : List ℕ) (n : ℕ) → bs ≡ base36 n → IsPlain bs × IsNumeral 36 (without_leading_plus bs) × (digits_value 36 (without_leading_plus bs) ≡ n)
spelled_reads bs n e =
    let plain = spelled_plain n in
    let reads = plain_reads (base36 n) plain.0 plain.1 in
    let all : IsPlain (base36 n) × IsNumeral 36 (without_leading_plus (base36 n)) × (digits_value 36 (without_leading_plus (base36 n)) ≡ n) = (plain.0, reads.0, reads.1 ∙ spelled_value n) in
    subst (λ (x : List ℕ). IsPlain x × IsNumeral 36 (without_leading_plus x) × (digits_value 36 (without_leading_plus x) ≡ n)) (sym e) all

-- a spelling digit by digit
pub spelled_one : (n : ℕ) → n < 36 → base36 n ≡ digit_char n ∷ []
spelled_one zero h = refl
spelled_one (suc m) h =
    let n = suc m in
    let two : 2 ≤ 36 = omega arith in
    let q : n / 36 ≡ 0 = omega arith in
    let r : n % 36 ≡ n = omega arith in
    spelled_digits n (omega arith) ∙ ap (map digit_char) (digits_of_step 36 n two (omega arith) ∙ ap (λ (x : ℕ). digits_of 36 x ++ (n % 36 ∷ [])) q ∙ ap (λ (x : ℕ). x ∷ []) r)

pub spelled_more : (n : ℕ) → 36 ≤ n → base36 n ≡ base36 (n / 36) ++ digit_char (n % 36) ∷ []
spelled_more n h =
    let two : 2 ≤ 36 = omega arith in
    let over : 0 < n / 36 = omega arith in
    spelled_digits n (omega arith) ∙ ap (map digit_char) (digits_of_step 36 n two (omega arith)) ∙ map-append digit_char (digits_of 36 (n / 36)) (n % 36 ∷ []) ∙ ap (λ (x : List ℕ). x ++ digit_char (n % 36) ∷ []) (sym (spelled_digits (n / 36) over))

digit_ascii : (d : ℕ) → d < 36 → digit_char d < 128
digit_ascii d h = grind (arith, nat_tests)

-- one digit more, pushed as a character
pub pushed_digit : (front next : List ℕ) (n d : ℕ) → d ≡ digit_char (n % 36) → (d < 128 → encode_utf8 d ≡ d ∷ []) → next ≡ front ++ encode_utf8 d → next ≡ front ++ digit_char (n % 36) ∷ []
pushed_digit front next n d is ascii e =
    let least : n % 36 < 36 = omega arith in
    let small : d < 128 = subst (λ (x : ℕ). x < 128) (sym is) (digit_ascii (n % 36) least) in
    e ∙ ap (λ (x : List ℕ). front ++ x) (ascii small) ∙ ap (λ (x : ℕ). front ++ x ∷ []) is

pub pushed_last : (old front next : List ℕ) (n : ℕ) → n < 36 → front ≡ old → next ≡ front ++ digit_char (n % 36) ∷ [] → next ≡ old ++ base36 n
pushed_last old front next n h f e =
    let r : n % 36 ≡ n = omega arith in
    e ∙ ap (λ (x : List ℕ). x ++ digit_char (n % 36) ∷ []) f ∙ ap (λ (x : ℕ). old ++ digit_char x ∷ []) r ∙ ap (λ (x : List ℕ). old ++ x) (sym (spelled_one n h))

pub pushed_more : (old front next : List ℕ) (n : ℕ) → 36 ≤ n → front ≡ old ++ base36 (n / 36) → next ≡ front ++ digit_char (n % 36) ∷ [] → next ≡ old ++ base36 n
pushed_more old front next n h f e =
    e ∙ ap (λ (x : List ℕ). x ++ digit_char (n % 36) ∷ []) f ∙ append_assoc old (base36 (n / 36)) (digit_char (n % 36) ∷ []) ∙ ap (λ (x : List ℕ). old ++ x) (sym (spelled_more n h))

-- a plain text that reads as a numeral is the spelling of what it reads as
pub plain_numeral : (bs : List ℕ) (v : ℕ) → IsPlain bs → IsNumeral 36 (without_leading_plus bs) → v ≡ digits_value 36 (without_leading_plus bs) → bs ≡ base36 v
plain_numeral bs v p n e =
    let same = no_plus bs p in
    let some : 0 < length bs = subst (λ (x : List ℕ). 0 < length x) same n.0 in
    sym (plain_spells bs some p) ∙ ap base36 (sym (e ∙ ap (digits_value 36) same))
