-- Numbers with a sign that stand for numbers, for generations or for nothing, and the number in a segment's name (docs/FORMAT.md, "segments_N").
use Rattle.std.specs.Prelude.{ℕ, Bool, true, false, not, ◌==◌, ◌&&◌, List, drop, Option, Some, None, ℤ, pos, negsuc, nat_le, if◌then◌else◌, bytes_eq}
use Rattle.std.specs.Str.Parse.{digits_value}
use Rattle.lu_types.specs.Names.{greatest_segment, segment_name}

-- the number is below 0
abbrev pub is_negative : ℤ → Bool
is_negative (pos n) = false
is_negative (negsuc n) = true

-- the number is below -1
abbrev pub is_below_none : ℤ → Bool
is_below_none (pos n) = false
is_below_none (negsuc n) = not (n == 0)

-- the number is -1, which stands for nothing
abbrev pub is_none_number : ℤ → Bool
is_none_number (pos n) = false
is_none_number (negsuc n) = n == 0

-- the number is neither -1 nor that of a generation, which is at least 1
abbrev pub is_no_generation : ℤ → Bool
is_no_generation (pos n) = n == 0
is_no_generation (negsuc n) = not (n == 0)

-- how many, where the number is not below 0
abbrev pub count_or_zero : ℤ → ℕ
count_or_zero (pos n) = n
count_or_zero (negsuc n) = 0

-- the number, where it is not below 0
abbrev pub given : ℤ → Option ℕ
given (pos n) = Some n
given (negsuc n) = None

-- the number that stands for this one, or for nothing
abbrev pub number_or_none : Option ℕ → ℤ
number_or_none (Some n) = pos n
number_or_none None = negsuc 0

-- the number, if it is the one that the name spells
abbrev pub if_spelled : List ℕ → ℕ → Option ℕ
if_spelled name n = if nat_le n greatest_segment && bytes_eq name (segment_name n) then Some n else None

-- the number of the segment that has the name; none where it is no segment name
abbrev pub segment_number_in : List ℕ → Option ℕ
segment_number_in name = if_spelled name (digits_value 36 (drop 1 name))
