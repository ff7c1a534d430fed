-- The segments that were read so far, as the code keeps them.
use Rattle.std.specs.Prelude.{◌≡◌, ℕ, ◌≤◌, List}
use Rattle.std.specs.BTreeSet.{BTreeSet, contains}
use Rattle.std.specs.Ordering.{nat_cmp}
use Rattle.segment_infos.specs.declared.infos.SegInfo.{SegInfo}
use Rattle.segment_infos.specs.declared.record.TheConstants.{MOST_DOCUMENTS}
use Rattle.segment_infos.specs.Values.{total_size}
use Rattle.segment_infos.specs.Conditions.{has_number}

-- the set has the numbers of the segments
abbrev pub HasSegmentNumbers : BTreeSet ℕ → List SegInfo → Type 0
HasSegmentNumbers numbers segments = (q : ℕ) → contains nat_cmp numbers q ≡ has_number segments q

-- the number is that of all documents, which are no more than may be
abbrev pub IsTotal : ℕ → List SegInfo → Type 0
IsTotal total segments = (total ≡ total_size segments) × (total ≤ MOST_DOCUMENTS)
