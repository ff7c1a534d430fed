-- The header that the terms and their index begin with.
use Rattle.std.specs.Prelude.{ℕ, ℤ, pos, negsuc, Bool, not, ◌||◌, List, [], ◌∷◌, int_lt, unsigned_abs}
use Rattle.std.specs.Ordering.{int_eq}
use Rattle.lu_grammar.specs.Parts.{int32, int64}
use Rattle.lu_grammar.specs.Records.{Shape, whole, part, followed, Condition}
use Rattle.lu_types.specs.RuleNumbers as number
use Rattle.term_dict.specs.declared.heading.Heading.{Heading}
use Rattle.lu_types.specs.declared.term.TermNumbers.{TermNumbers}

-- the header's parts
abbrev pub heading_shape : Shape Heading
heading_shape =
    part int32 (λ format. part int64 (λ count. part int32 (λ index_interval. part int32 (λ skip_interval. part int32 (λ max_levels.
    whole (record { format = format; count = count; index_interval = index_interval; skip_interval = skip_interval; max_levels = max_levels }))))))

-- the format number is not -4
abbrev pub is_other_format : Heading → Bool
is_other_format h = not (int_eq h.format (negsuc 3))

-- the number is below the least that is allowed
abbrev pub is_below : ℕ → ℤ → Bool
is_below least z = int_lt z (pos least)

-- the conditions against the header of the terms
abbrev pub heading_conditions : Heading → List Condition
heading_conditions h =
    record { rule = number.tis_format; broken = is_other_format h } ∷
    record { rule = number.term_count; broken = is_below 0 h.count || int_lt (pos 2147483647) h.count } ∷
    record { rule = number.index_interval; broken = is_below 1 h.index_interval } ∷
    record { rule = number.skip_interval; broken = is_below 2 h.skip_interval } ∷
    record { rule = number.skip_levels; broken = is_below 1 h.max_levels } ∷
    []

-- the numbers of a header without a sign
abbrev pub numbers_of : Heading → TermNumbers
numbers_of h = record { count = unsigned_abs h.count; index_interval = unsigned_abs h.index_interval; skip_interval = unsigned_abs h.skip_interval; max_levels = unsigned_abs h.max_levels }

-- a record of a file of terms: its header, or an entry
pub data Line (E : Type 0) : Type 0 where
  heading : Heading → Line E
  entry : E → Line E

-- where no header stands
abbrev pub no_heading : Heading
no_heading = record { format = pos 0; count = pos 0; index_interval = pos 0; skip_interval = pos 0; max_levels = pos 0 }

-- what a header says
abbrev pub heading_of : {E : Type 0} → Line E → Heading
heading_of (heading h) = h
heading_of (entry e) = no_heading

-- what comes of an entry; other lines leave the first
abbrev pub on_entry : {E A : Type 0} → A → (E → A) → Line E → A
on_entry otherwise f (heading h) = otherwise
on_entry otherwise f (entry e) = f e

-- the record of a header
abbrev pub header : {E : Type 0} → Shape (Line E)
header = followed heading_shape (λ h. whole (heading h))
