-- The number of a field, as the extension of its norms has it.
use Rattle.std.proofs.Common.{◌≡◌, ◌≢◌, ℕ, zero, suc, ◌^◌, ◌<◌, ◌≤◌, List, [], ◌∷◌, length, get_or, Result, Ok, Err, refl, sym, ap, subst, ◌∙◌, arith}
use Rattle.std.specs.Prelude.{decimal, OkIff}
use Rattle.std.specs.Int.{IsInRange}
use Rattle.std.specs.Str.Parse.{digits_value, without_leading_plus, ParsesUnsigned}
use Rattle.std.proofs.lemmas.Fmt.{first_decimal, decimal_digit, digits_decimal, decimal-digits_value, decimal_injective, parse-decimal}
use Rattle.std.proofs.lemmas.Str.Parse.{IsNumeralModel, numerals_by_value, tells_by_index, parse_digits}
use Rattle.segment_infos.specs.Parsing.{IsDecimal}

-- each byte is a digit
abbrev AreDigits : List ℕ → Type 0
AreDigits ds = (i : ℕ) → i < length ds → IsInRange 48 57 (get_or ds i 0)

own : IsNumeralModel AreDigits (digits_value 10)
own = numerals_by_value AreDigits tells_by_index

-- the digits of a number are decimal digits with no zero before another
pub decimal-IsDecimal : (n : ℕ) → n < 2 ^ 64 → IsDecimal (decimal n)
decimal-IsDecimal zero small = (λ long. absurd (let one : length (decimal 0) ≡ 1 = ap length (decimal_digit 0 (omega arith)) in omega arith), digits_decimal own 0 small)
decimal-IsDecimal (suc m) small = (λ long same. absurd (let first : 48 < get_or (decimal (suc m)) 0 0 = first_decimal (suc m) (omega arith) small in omega arith), digits_decimal own (suc m) small)

lone : (ds : List ℕ) → 0 < length ds → (1 < length ds → get_or ds 0 0 ≢ 48) → get_or ds 0 0 ≡ 48 → length ds ≡ 1
lone [] some lead zero_first = absurd (omega arith)
lone (d ∷ []) some lead zero_first = refl
lone (d ∷ e ∷ ds) some lead zero_first = absurd (lead (omega arith) zero_first)

-- what reads as a number is its digits
pub decimal_read : (ds : List ℕ) (n : ℕ) → IsDecimal ds → ParsesUnsigned {E = ℕ} 32 10 ds (Ok n) → ds ≡ decimal n
decimal_read ds n is parsed =
    let read : OkIff {E = ℕ} (Ok n) ((0 < length ds) × (digits_value 10 ds < 2 ^ 32)) (digits_value 10 ds) = parse_digits own {E = ℕ} 32 ds (Ok n) parsed is.1 in
    let small : digits_value 10 ds < 2 ^ 64 = let below : digits_value 10 ds < 2 ^ 32 = read.0.1 in omega arith in
    sym (decimal-digits_value own ds is.1 read.0.0 (lone ds read.0.0 is.0) small) ∙ ap decimal (sym read.1)

abbrev failed : (E : Type 0) → E → Result ℕ E
failed E e = Err e

-- what does not read is none of them
pub decimal_unread : {E : Type 0} (ds : List ℕ) (e : E) (n : ℕ) → n < 2 ^ 31 → ParsesUnsigned 32 10 ds (Err e) → ds ≡ decimal n → ⊥
decimal_unread {E} ds e n small parsed same =
    let fits : n < 2 ^ 32 = omega arith in
    let wide : n < 2 ^ 64 = omega arith in
    let bad : failed E e ≡ Ok n = parse-decimal 32 n ds (Err e) fits wide same parsed in
    cc

-- two numbers of the same digits are one
pub decimal_great : (m n : ℕ) → m < 2 ^ 32 → 2 ^ 31 ≤ m → n < 2 ^ 31 → decimal m ≡ decimal n → ⊥
decimal_great m n fits great small same =
    let one : m ≡ n = decimal_injective m n (omega arith) (omega arith) same in
    omega arith

-- ---- the text of a field's extension, `s` and digits

same_rest : (ds es text : List ℕ) → text ≡ 115 ∷ ds → text ≡ 115 ∷ es → ds ≡ es
same_rest ds es text one other = cc

pub field-not_decimal : (text ds : List ℕ) (field : ℕ) → text ≡ 115 ∷ ds → (IsDecimal ds → ⊥) → field < 2 ^ 31 → text ≡ 115 ∷ decimal field → ⊥
field-not_decimal text ds field split none small same =
    let is : IsDecimal (decimal field) = decimal-IsDecimal field (omega arith) in
    none (subst IsDecimal (sym (same_rest ds (decimal field) text split same)) is)

pub field-unread : {E : Type 0} (text ds : List ℕ) (e : E) (field : ℕ) → text ≡ 115 ∷ ds → ParsesUnsigned 32 10 ds (Err e) → field < 2 ^ 31 → text ≡ 115 ∷ decimal field → ⊥
field-unread text ds e field split parsed small same = decimal_unread ds e field small parsed (same_rest ds (decimal field) text split same)

pub field-read : (text ds : List ℕ) (n : ℕ) → text ≡ 115 ∷ ds → IsDecimal ds → ParsesUnsigned {E = ℕ} 32 10 ds (Ok n) → text ≡ 115 ∷ decimal n
field-read text ds n split is parsed = split ∙ ap (λ (rest : List ℕ). 115 ∷ rest) (decimal_read ds n is parsed)

pub field-great : (text ds : List ℕ) (n field : ℕ) → text ≡ 115 ∷ ds → IsDecimal ds → ParsesUnsigned {E = ℕ} 32 10 ds (Ok n) → 2 ^ 31 ≤ n → field < 2 ^ 31 → text ≡ 115 ∷ decimal field → ⊥
field-great text ds n field split is parsed great small same =
    let whole : digits_value 10 (without_leading_plus ds) < 2 ^ 32 = parsed.0.1 in
    let value : n ≡ digits_value 10 (without_leading_plus ds) = parsed.1 in
    decimal_great n field (omega arith) great small (same_rest (decimal n) (decimal field) text (field-read text ds n split is parsed) same)
