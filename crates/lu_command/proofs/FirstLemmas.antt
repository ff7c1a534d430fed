-- The number of a first document, as a word has it.
use Rattle.std.proofs.Common.{ℕ, ◌^◌, ◌<◌, List, length, Err, arith}
use Rattle.std.specs.Prelude.{OkIff}
use Rattle.std.specs.Str.Parse.{digits_value, ParsesUnsigned}
use Rattle.std.proofs.lemmas.Str.Parse.{IsNumeralModel, numerals_by_value, tells_by_index, parse_digits}
use Rattle.lu_command.specs.Words.{AreDigits, IsFirst}

own : IsNumeralModel AreDigits (digits_value 10)
own = numerals_by_value AreDigits tells_by_index

-- what does not read is no first document
pub first-unread : {E : Type 0} (text : List ℕ) (e : E) (from : ℕ) → ParsesUnsigned {E = E} 32 10 text (Err e) → IsFirst text from → ⊥
first-unread {E} text e from parsed first =
    let read : OkIff {E = E} (Err e) ((0 < length text) × (digits_value 10 text < 2 ^ 32)) (digits_value 10 text) = parse_digits own {E = E} 32 text (Err e) parsed first.number.digits in
    let small : digits_value 10 text < 2 ^ 32 = omega (arith, first.small, first.value) in
    read (first.number.some, small)
