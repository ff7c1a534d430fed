-- What becomes of segments that were read.
use Rattle.std.specs.Prelude.{◌≡◌, ℕ, List, Option}
use Rattle.lu_dir.specs.Files.{Files}
use Rattle.segment_infos.specs.declared.infos.SegInfo.{SegInfo}
use Rattle.check_index.specs.Segments.{SegmentValue}
use Rattle.lu_changes.specs.declared.marking.Marking.{Marking}
use Rattle.lu_reads.specs.Segments.{AreReadAs}
use Rattle.lu_changes.specs.Deleting.{markings_of}

-- the segments stand, and this becomes of them where the documents of the term are deleted
abbrev pub AreMarked : Option Files → List (List ℕ) → List ℕ → List ℕ → List SegInfo → List Marking → Type 0
AreMarked files names field text lines markings = (xs : List SegmentValue) × AreReadAs files lines xs × (markings ≡ markings_of names field text lines xs)
