-- Worked rows on the definitions: spellings, and what reading answers at chosen bytes.
use Rattle.std.proofs.Common.{◌≡◌, [], ◌∷◌, Ok, Err, refl, pos, negsuc}
use Rattle.std.specs.Prelude.{replicate}
use Rattle.lu_grammar.specs.declared.bad.Bad.TheVariants.{Ends, LongNumber, TooGreat, NotUtf8}
use Rattle.lu_grammar.specs.Parts.{int32, int64, vint, num, vlong, text, spelling, groups, first_low, bad_number}
use Rattle.lu_grammar.specs.Reading.{read, read_groups}
use Rattle.std.specs.Str.{is_utf8, chars}

-- ---- numbers in groups

vint_0 : groups 4 0 ≡ 0 ∷ []
unfolding groups
vint_0 = refl

vint_127 : groups 4 127 ≡ 0x7F ∷ []
unfolding groups
vint_127 = refl

vint_128 : groups 4 128 ≡ 0x80 ∷ 0x01 ∷ []
unfolding groups
vint_128 = refl

vint_16383 : groups 4 16383 ≡ 0xFF ∷ 0x7F ∷ []
unfolding groups
vint_16383 = refl

vint_16384 : groups 4 16384 ≡ 0x80 ∷ 0x80 ∷ 0x01 ∷ []
unfolding groups
vint_16384 = refl

vint_three_full : groups 4 2097151 ≡ 0xFF ∷ 0xFF ∷ 0x7F ∷ []
unfolding groups
vint_three_full = refl

vint_four : groups 4 2097152 ≡ 0x80 ∷ 0x80 ∷ 0x80 ∷ 0x01 ∷ []
unfolding groups
vint_four = refl

vint_four_full : groups 4 268435455 ≡ 0xFF ∷ 0xFF ∷ 0xFF ∷ 0x7F ∷ []
unfolding groups
vint_four_full = refl

vint_five : groups 4 268435456 ≡ 0x80 ∷ 0x80 ∷ 0x80 ∷ 0x80 ∷ 0x01 ∷ []
unfolding groups
vint_five = refl

-- a format number of -2, modulo 2 ^ 32
vint_minus_two : groups 4 4294967294 ≡ 0xFE ∷ 0xFF ∷ 0xFF ∷ 0xFF ∷ 0x0F ∷ []
unfolding groups
vint_minus_two = refl

vlong_greatest : groups 8 9223372036854775807 ≡ 0xFF ∷ 0xFF ∷ 0xFF ∷ 0xFF ∷ 0xFF ∷ 0xFF ∷ 0xFF ∷ 0xFF ∷ 0x7F ∷ []
unfolding groups
vlong_greatest = refl

needless_zero : read vint (0x80 ∷ 0x00 ∷ []) ≡ Err LongNumber
unfolding read read_groups
needless_zero = refl

needless_zero_of_one : read vint (0x81 ∷ 0x00 ∷ 0x01 ∷ []) ≡ Err LongNumber
unfolding read read_groups
needless_zero_of_one = refl

fifth_too_great : read vint (0xFF ∷ 0xFF ∷ 0xFF ∷ 0xFF ∷ 0x10 ∷ []) ≡ Err TooGreat
unfolding read read_groups
fifth_too_great = refl

no_last_of_five : read vint (0xFF ∷ 0xFF ∷ 0xFF ∷ 0xFF ∷ 0xFF ∷ []) ≡ Err LongNumber
unfolding read read_groups
no_last_of_five = refl

no_last : read vint (0xFF ∷ []) ≡ Err Ends
unfolding read read_groups
no_last = refl

greatest : read vint (0xFF ∷ 0xFF ∷ 0xFF ∷ 0xFF ∷ 0x0F ∷ 7 ∷ []) ≡ Ok (4294967295, 5)
unfolding read read_groups
greatest = refl

num_too_great : read num (0x80 ∷ 0x80 ∷ 0x80 ∷ 0x80 ∷ 0x08 ∷ []) ≡ Err TooGreat
unfolding read read_groups
num_too_great = refl

num_greatest : read num (0xFF ∷ 0xFF ∷ 0xFF ∷ 0xFF ∷ 0x07 ∷ []) ≡ Ok (2147483647, 5)
unfolding read read_groups
num_greatest = refl

vlong_no_last : read vlong (replicate 9 0xFF) ≡ Err LongNumber
unfolding read read_groups
vlong_no_last = refl

-- the page's own words for what is wrong agree
wrong_needless : bad_number 5 (0x80 ∷ 0x00 ∷ []) ≡ LongNumber
unfolding first_low
wrong_needless = refl

wrong_fifth : bad_number 5 (0xFF ∷ 0xFF ∷ 0xFF ∷ 0xFF ∷ 0x10 ∷ []) ≡ TooGreat
unfolding first_low
wrong_fifth = refl

wrong_end : bad_number 5 (0xFF ∷ []) ≡ Ends
unfolding first_low
wrong_end = refl

wrong_nine : bad_number 9 (replicate 9 0xFF) ≡ LongNumber
unfolding first_low
wrong_nine = refl

-- ---- fixed numbers and texts

int32_minus_one : spelling int32 (negsuc 0) ≡ 0xFF ∷ 0xFF ∷ 0xFF ∷ 0xFF ∷ []
int32_minus_one = refl

int32_least : spelling int32 (negsuc 2147483647) ≡ 0x80 ∷ 0 ∷ 0 ∷ 0 ∷ []
int32_least = refl

int64_minus_one : spelling int64 (negsuc 0) ≡ replicate 8 0xFF
int64_minus_one = refl

int64_greatest : spelling int64 (pos 9223372036854775807) ≡ 0x7F ∷ replicate 7 0xFF
int64_greatest = refl

not_utf8 : read text (0x02 ∷ 0xC3 ∷ 0x28 ∷ []) ≡ Err NotUtf8
unfolding read read_groups is_utf8 chars lib.Utf8.encode
not_utf8 = refl

text_ends : read text (0x02 ∷ 0x61 ∷ []) ≡ Err Ends
unfolding read read_groups
text_ends = refl

a_text : read text (0x01 ∷ 0x61 ∷ 0x01 ∷ []) ≡ Ok (0x61 ∷ [], 2)
unfolding read read_groups is_utf8 chars lib.Utf8.encode
a_text = refl
