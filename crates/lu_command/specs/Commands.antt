-- What words mean.
use Rattle.std.specs.Prelude.{◌≡◌, ℕ, Bool, List, ◌∷◌, codes}
use Rattle.lu_command.specs.Words.{HasDir, HasDirAndSegment, HasDirAndTerm, HasDirAndCompound, HasDirTermAndFrom}

-- what a call asks for: the field table of a segment in a folder, its stored documents, whether the newest commit of a folder stands, what the segments
-- of its current one mean, a new segment in it of the documents of the input, as one file or in parts, that the documents of a term are deleted: the
-- folder, the name of the field and the text; the documents of a term from one on; or one segment, as one file or in parts, in place of all
pub data Meaning : Type 0 where
  fields : List ℕ → List ℕ → Meaning
  docs : List ℕ → List ℕ → Meaning
  check : List ℕ → Meaning
  show : List ℕ → Meaning
  build : List ℕ → Bool → Meaning
  delete : List ℕ → List ℕ → List ℕ → Meaning
  postings : List ℕ → List ℕ → List ℕ → ℕ → Meaning
  merge : List ℕ → Bool → Meaning

-- the words after the program's name mean this
abbrev pub Means : List (List ℕ) → Meaning → Type 0
Means words (fields dir segment) = (rest : List (List ℕ)) × (words ≡ codes "fields" ∷ rest) × HasDirAndSegment rest dir segment
Means words (docs dir segment) = (rest : List (List ℕ)) × (words ≡ codes "docs" ∷ rest) × HasDirAndSegment rest dir segment
Means words (check dir) = (rest : List (List ℕ)) × (words ≡ codes "check" ∷ rest) × HasDir rest dir
Means words (show dir) = (rest : List (List ℕ)) × (words ≡ codes "show" ∷ rest) × HasDir rest dir
Means words (build dir compound) = (rest : List (List ℕ)) × (words ≡ codes "build" ∷ rest) × HasDirAndCompound rest dir compound
Means words (delete dir field text) = (rest : List (List ℕ)) × (words ≡ codes "delete" ∷ rest) × HasDirAndTerm rest dir field text
Means words (postings dir field text from) = (rest : List (List ℕ)) × (words ≡ codes "postings" ∷ rest) × HasDirTermAndFrom rest dir field text from
Means words (merge dir compound) = (rest : List (List ℕ)) × (words ≡ codes "merge" ∷ rest) × HasDirAndCompound rest dir compound
