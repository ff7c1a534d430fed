-- Norms (format page, "Norms"): one byte a document, for each field that has them.
use Rattle.std.specs.Prelude.{◌≡◌, ℕ, zero, suc, ◌<◌, not, List, [], ◌∷◌, ◌++◌, length, take, drop, get_or}
use Rattle.std.specs.List.{flat_map}
use Rattle.std.specs.Str.{bytes_eq}
use Rattle.lu_grammar.specs.Parts.{bytes}
use Rattle.lu_grammar.specs.Records.{Shape, whole, part, Condition}
use Rattle.lu_grammar.specs.Plans.{Plan, done, due, Kind, times}
use Rattle.lu_types.specs.RuleNumbers as number

-- what `.nrm` begins with: `NRM`, and the number of the format
abbrev pub norm_header : List ℕ
norm_header = 0x4E ∷ 0x52 ∷ 0x4D ∷ 0xFF ∷ []

-- so many bytes
abbrev pub bytes_shape : ℕ → Shape (List ℕ)
bytes_shape n = part (bytes n) (λ found. whole found)

-- what a header may not be
abbrev pub header_conditions : List ℕ → List Condition
header_conditions found = record { rule = number.norm_header; broken = not (bytes_eq found norm_header) } ∷ []

-- the norms of one field: a byte a document, after the columns before
abbrev pub one_column : ℕ → Kind (List (List ℕ)) (List ℕ)
one_column documents = record { shape = λ _. bytes_shape documents; conditions = λ columns place found. []; after = λ columns place found. columns ++ found ∷ [] }

-- `.nrm`: the header, and so many columns of so many documents
abbrev pub nrm_plan : ℕ → ℕ → Plan (List (List ℕ)) (List ℕ)
nrm_plan columns documents = due (bytes_shape 4) (λ place found. header_conditions found) (λ place found. times (one_column documents) columns [])

-- `.sN`: the norms of one field alone
abbrev pub separate_plan : ℕ → Plan (List ℕ) (List ℕ)
separate_plan documents = due (bytes_shape documents) (λ place found. []) (λ place found. done found)

-- the column with this number, from 0; none: no bytes
abbrev pub column_of : List (List ℕ) → ℕ → List ℕ
column_of columns number = get_or columns number []

-- so many columns, each with a byte for each of so many documents
pub record AreColumns (count documents : ℕ) (columns : List (List ℕ)) : Type 0 where
  pub number : length columns ≡ count
  pub each : (k : ℕ) → k < count → length (column_of columns k) ≡ documents

-- ---- written

-- the bytes of `.nrm` with these norms, one column after another
abbrev pub nrm_bytes : List ℕ → List ℕ
nrm_bytes norms = norm_header ++ norms

-- the one spelling of some columns
abbrev pub nrm_spelling : List (List ℕ) → List ℕ
nrm_spelling columns = nrm_bytes (flat_map (λ column. column) columns)

-- ---- lent

-- the bytes cut into so many columns of so many documents
unfoldable pub columns_in : ℕ → ℕ → List ℕ → List (List ℕ)
columns_in zero documents found = []
columns_in (suc n) documents found = take documents found ∷ columns_in n documents (drop documents found)
