-- The fields of the vectors of a document that were passed, as the code keeps them.
use Rattle.std.specs.Prelude.{◌≡◌, ℕ, List, Ok}
use Rattle.std.specs.BTreeSet.{BTreeSet, contains}
use Rattle.std.specs.Ordering.{nat_cmp}
use Rattle.lu_grammar.specs.Bytes.{Cursor, place_in}
use Rattle.lu_grammar.specs.Records.{read_shape}
use Rattle.term_vectors.specs.declared.layout.DocumentPlaces.{DocumentPlaces}
use Rattle.term_vectors.specs.Places.{TvxRecord, places_shape, stated_places}
use Rattle.term_vectors.specs.Fields.{is_among}

-- the set has these numbers
abbrev pub HasFieldNumbers : BTreeSet ℕ → List ℕ → Type 0
HasFieldNumbers numbers before = (q : ℕ) → contains nat_cmp numbers q ≡ is_among q before

-- these are the places of the document that stands at this place of `.tvx`
abbrev pub IsStatedAt : List ℕ → ℕ → DocumentPlaces → Type 0
IsStatedAt tvx place places = (r : TvxRecord) × (d : Cursor) × (read_shape places_shape (place_in tvx place) ≡ Ok (r, d)) × (places ≡ stated_places r)
