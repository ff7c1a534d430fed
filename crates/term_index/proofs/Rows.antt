-- Worked rows: digits, and the terms that a search reads.
use Rattle.std.proofs.Common.{◌≡◌, ℕ, [], ◌∷◌, refl}
use Rattle.term_dict.specs.Terms.{no_term}
use Rattle.term_dict.specs.Dictionary.{Dictionary}
use Rattle.lu_prims.specs.Steps.{ticked}
use Rattle.term_index.specs.Seeking.{halvings, digits, interval_of, terms_read, most_seek_steps}

-- binary digits
pub digits-rows : (digits 0 ≡ 0) × (digits 1 ≡ 1) × (digits 2 ≡ 2) × (digits 3 ≡ 2) × (digits 250 ≡ 8)
unfolding halvings
digits-rows = (refl, refl, refl, refl, refl)

-- three terms with an index of every second one
abbrev three : Dictionary
three = record { numbers = record { count = 3; index_interval = 2; skip_interval = 16; max_levels = 10 }; terms = no_term ∷ no_term ∷ no_term ∷ []; starts = 24 ∷ 34 ∷ 44 ∷ []; size = 54 }

-- the interval of the first term that is not below, and how many terms are read there
pub interval-rows : (interval_of three 0 ≡ 0) × (interval_of three 1 ≡ 0) × (interval_of three 2 ≡ 1) × (interval_of three 3 ≡ 1)
interval-rows = (refl, refl, refl, refl)

pub read-rows : (terms_read three 0 ≡ 1) × (terms_read three 1 ≡ 2) × (terms_read three 2 ≡ 1) × (terms_read three 3 ≡ 1)
read-rows = (refl, refl, refl, refl)

-- the most steps, and a count that stays
pub steps-rows : (most_seek_steps three ≡ 5) × (ticked 2 5 ≡ 7) × (ticked 2 18446744073709551614 ≡ 18446744073709551615)
unfolding halvings
steps-rows = (refl, refl, refl)
