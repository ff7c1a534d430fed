-- Which outcome is due of `show`: the current commit of the folder, then its segments, and then the listing of what they stand for
-- (docs/FORMAT.md, "Printed texts").
use Rattle.std.specs.Prelude.{◌≡◌, ℕ, List, map, Option}
use Rattle.lu_dir.specs.Files.{Files}
use Rattle.check_index.specs.Segments.{SegmentValue}
use Rattle.lu_listing.specs.Listing.{listing}
use Rattle.lu_outcomes.specs.declared.outcome.Outcome.{Outcome}
use Rattle.lu_outcomes.specs.Outcomes.{printing}
use Rattle.lu_reads.specs.Current.{CurrentDue}

-- the listing of segments that stand for these, from the first on
abbrev pub listing_of : List SegmentValue → List ℕ
listing_of xs = listing 0 (map (λ x. x.index) xs)

-- the outcome prints it
abbrev pub Lists : List SegmentValue → Outcome → Type 0
Lists xs outcome = outcome ≡ printing (listing_of xs)

-- the outcome of `show` that is due: what is said of the folder, of the commit or of its segments; or their listing
abbrev pub ShowDue : Option Files → Outcome → Type 0
ShowDue files outcome = CurrentDue Lists files outcome
