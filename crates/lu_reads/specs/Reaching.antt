-- Which outcome is due of `postings`: the current commit of the folder, then its segments, and then the documents of the term in each
-- (docs/FORMAT.md, "Printed texts").
use Rattle.std.specs.Prelude.{◌≡◌, ℕ, ◌+◌, List, [], ◌∷◌, ◌++◌, Option}
use Rattle.lu_dir.specs.Files.{Files}
use Rattle.check_index.specs.Segments.{SegmentValue}
use Rattle.lu_listing.specs.Reached.{IsReachedText}
use Rattle.lu_outcomes.specs.declared.outcome.Outcome.{Outcome}
use Rattle.lu_outcomes.specs.Outcomes.{printing}
use Rattle.lu_reads.specs.Current.{CurrentDue}

-- what is printed of segments for a field, a text and a first document, one after another, the first of them having this place
abbrev pub AreReachedTexts : List ℕ → List ℕ → ℕ → ℕ → List SegmentValue → List ℕ → Type 0
AreReachedTexts field text from place [] lines = lines ≡ []
AreReachedTexts field text from place (x ∷ xs) lines =
    (first : List ℕ) × (rest : List ℕ) × IsReachedText x place field text from first × AreReachedTexts field text from (place + 1) xs rest
    × (lines ≡ first ++ rest)

-- the outcome prints it of these segments
abbrev pub Reaches : List ℕ → List ℕ → ℕ → List SegmentValue → Outcome → Type 0
Reaches field text from xs outcome = (lines : List ℕ) × AreReachedTexts field text from 0 xs lines × (outcome ≡ printing lines)

-- the outcome of `postings` that is due: what is said of the folder, of the commit or of its segments; or, segment by segment, the documents of the term
-- from one on. Of the numbers of steps in these lines only bounds are said
abbrev pub PostingsDue : List ℕ → List ℕ → ℕ → Option Files → Outcome → Type 0
PostingsDue field text from files outcome = CurrentDue (Reaches field text from) files outcome
