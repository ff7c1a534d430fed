-- The texts that names are read from, part by part.
use Rattle.std.specs.Prelude.{◌≢◌, ℕ, ◌<◌, List, ◌∷◌, ◌++◌, length, slice_index, Option, MatchOption}
use Rattle.std.specs.Int.{IsInRange}
use Rattle.segment_infos.specs.declared.naming.LuceneName.{LuceneName}
use Rattle.segment_infos.specs.declared.naming.LuceneName.TheVariants.{Commit, Part, Del, Sep}
use Rattle.segment_infos.specs.LuceneNames.{SpellsName, IsLuceneName}

-- the text has no `.`
abbrev pub HasNoDot : List ℕ → Type 0
HasNoDot text = (i : ℕ) → i < length text → slice_index text i ≢ 46

-- the text has no `.` and no `_`
abbrev pub HasNeither : List ℕ → Type 0
HasNeither text = (i : ℕ) → i < length text → (slice_index text i ≢ 46) × (slice_index text i ≢ 95)

-- the name of a file of the segment that these digits spell, with this extension
abbrev pub file_text : List ℕ → List ℕ → List ℕ
file_text segment extension = 95 ∷ (segment ++ (46 ∷ extension))

-- the same of a segment and a generation
abbrev pub generation_text : List ℕ → List ℕ → List ℕ → List ℕ
generation_text segment generation extension = 95 ∷ (segment ++ (95 ∷ (generation ++ (46 ∷ extension))))

-- the name that the text spells; or none, where it spells none
abbrev pub TellsName : List ℕ → Option LuceneName → Type 0
TellsName text found = MatchOption found (¬ IsLuceneName text) (SpellsName text)

-- the name is that of a file of a segment
abbrev pub IsFile : LuceneName → Type 0
IsFile (Commit generation) = ⊥
IsFile (Part segment kind) = Unit {0}
IsFile (Del segment generation) = Unit {0}
IsFile (Sep segment generation field) = Unit {0}

-- decimal digits alone, with no zero before another
abbrev pub IsDecimal : List ℕ → Type 0
IsDecimal text = (1 < length text → slice_index text 0 ≢ 48) × ((k : ℕ) → k < length text → IsInRange 48 57 (slice_index text k))
