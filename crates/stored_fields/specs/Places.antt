-- The records of `.fdx`: its header, and the place of each document in `.fdt` (format page, "Stored documents").
use Rattle.std.specs.Prelude.{ℕ, ◌+◌, Bool, not, ◌||◌, List, [], ◌∷◌, ◌++◌, Option, Some, None, ℤ, pos, int_lt, int_le, nat_lt}
use Rattle.std.specs.List.{last_or}
use Rattle.std.specs.Ordering.{int_eq}
use Rattle.lu_types.specs.declared.stored.Window.{Window}
use Rattle.lu_types.specs.RuleNumbers as rules
use Rattle.lu_grammar.specs.Parts.{int64}
use Rattle.lu_grammar.specs.Records.{Shape, whole, part, Condition}
use Rattle.lu_grammar.specs.Plans.{Plan, due, Kind, times}
use Rattle.lu_types.specs.Stores.{header_length, greatest_place}
use Rattle.stored_fields.specs.Format.{format_shape, is_other_store_format}

-- the window reaches past the documents of the store
abbrev pub is_past_store : ℕ → Window → Bool
is_past_store total window = nat_lt total (window.offset + window.count)

-- what the header of a store of so many documents must not be
abbrev pub fdx_header_conditions : ℕ → Window → ℤ → List Condition
fdx_header_conditions total window z =
    record { rule = rules.fdx_format; broken = is_other_store_format z }
    ∷ record { rule = rules.store_range; broken = is_past_store total window } ∷ []

-- where a place may not be after the place before it, if there is one: the first is not just after the header,
-- a later one is not above the one before, or over the greatest
abbrev pub is_misplaced : Option ℤ → ℤ → Bool
is_misplaced None z = not (int_eq z (pos header_length))
is_misplaced (Some before) z = int_le z before || int_lt (pos greatest_place) z

-- a place
abbrev pub place_shape : Shape ℤ
place_shape = part int64 (λ z. whole z)

-- what a place after another, if there is one, must not be
abbrev pub fdx_place_conditions : Option ℤ → ℤ → List Condition
fdx_place_conditions before z = record { rule = rules.fdx_place; broken = is_misplaced before z } ∷ []

-- the places, after those so far
abbrev pub places_kind : Kind (List ℤ) ℤ
places_kind = record {
  shape = λ _. place_shape;
  conditions = λ places _ z. fdx_place_conditions (last_or None places) z;
  after = λ places _ z. places ++ z ∷ [];
}

-- `.fdx` of a store of so many documents, of which a segment takes those in the window: its header, and the place of each document
abbrev pub fdx_plan : ℕ → Window → Plan (List ℤ) ℤ
fdx_plan total window = due format_shape (λ _ z. fdx_header_conditions total window z) (λ _ _. times places_kind total [])
