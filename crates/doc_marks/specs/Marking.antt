-- Documents marked by bits (format page, "Deletions"): document d is bit d mod 8, the lowest first, of byte d / 8.
use Rattle.std.specs.Prelude.{◌≡◌, ◌^◌, length, ℕ, zero, suc, ◌+◌, ◌*◌, ◌/◌, ◌%◌, ◌<◌, ◌≤◌, Bool, true, false, ◌||◌, List, [], ◌∷◌, ◌++◌, ◌==◌}
use Rattle.lu_grammar.specs.Bytes.{IsBytes}

-- so many bits of a number, the lowest first
unfoldable pub bits : ℕ → ℕ → List Bool
bits zero n = []
bits (suc more) n = (n % 2 == 1) ∷ bits more (n / 2)

-- the bits of some bytes, one byte after another
unfoldable pub flags : List ℕ → List Bool
flags [] = []
flags (byte ∷ bytes) = bits 8 byte ++ flags bytes

-- the places of the bits that are set, the first bit at this place
unfoldable pub places : ℕ → List Bool → List ℕ
places first [] = []
places first (true ∷ more) = first ∷ places (suc first) more
places first (false ∷ more) = places (suc first) more

-- the documents that some bytes mark
abbrev pub marked : List ℕ → List ℕ
marked bytes = places 0 (flags bytes)

-- the documents that one byte marks, by its index
abbrev pub marked_at : ℕ → ℕ → List ℕ
marked_at index byte = places (8 * index) (bits 8 byte)

-- the document is among these
unfoldable pub is_in : ℕ → List ℕ → Bool
is_in doc [] = false
is_in doc (d ∷ ds) = (d == doc) || is_in doc ds

-- for each of so many documents from the first on, whether it is among these
unfoldable pub flags_of : ℕ → ℕ → List ℕ → List Bool
flags_of first zero docs = []
flags_of first (suc more) docs = is_in first docs ∷ flags_of (suc first) more docs

-- the number that has these bits, the lowest first
unfoldable pub number_of_bits : List Bool → ℕ
number_of_bits [] = 0
number_of_bits (true ∷ more) = 1 + 2 * number_of_bits more
number_of_bits (false ∷ more) = 2 * number_of_bits more

-- so many bytes that mark these documents, the first bit standing for the first
unfoldable pub marking : ℕ → ℕ → List ℕ → List ℕ
marking first zero docs = []
marking first (suc more) docs = number_of_bits (flags_of first 8 docs) ∷ marking (first + 8) more docs

-- rising documents, none before the first and all below the size
abbrev pub AreRising : ℕ → ℕ → List ℕ → Type 0
AreRising first size [] = Unit {0}
AreRising first size (d ∷ ds) = (first ≤ d) × (d < size) × AreRising (suc d) size ds

-- the documents that are flagged
abbrev pub documents_of : List Bool → List ℕ
documents_of fs = places 0 fs

-- some bytes mark so many documents of so many, and no bit past the last
pub record AreMarks (size count : ℕ) (bytes : List ℕ) : Type 0 where
  pub few : size < 2 ^ 31
  pub long : length bytes ≡ size / 8 + 1
  pub rise : AreRising 0 size (marked bytes)
  pub number : length (marked bytes) ≡ count
  pub fits : IsBytes bytes
