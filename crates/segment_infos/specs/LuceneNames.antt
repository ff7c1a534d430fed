-- Lucene names: what they say, their one spelling, and the name that a text spells (docs/FORMAT.md, "Names of files").
use Rattle.std.specs.Prelude.{◌≡◌, ℕ, ◌^◌, ◌<◌, ◌≤◌, Bool, ◌&&◌, ◌==◌, List, ◌++◌, drop, find, Option, Some, None, codes, nat_lt, nat_le, is_some, if◌then◌else◌, bytes_eq, slice_index}
use Rattle.std.specs.List.{before_first, after_first}
use Rattle.std.specs.Str.Parse.{digits_value}
use Rattle.lu_prims.specs.Base36.{base36}
use Rattle.lu_types.specs.declared.kind.FileKind.{FileKind}
use Rattle.lu_types.specs.declared.kind.FileKind.TheVariants as kinds
use Rattle.lu_types.specs.Kinds.{extension, part_kinds}
use Rattle.lu_types.specs.Names.{greatest_segment, segment_name, part_name, IsPart}
use Rattle.segment_infos.specs.declared.naming.LuceneName.{LuceneName}
use Rattle.segment_infos.specs.declared.naming.LuceneName.TheVariants.{Commit, Part, Del, Sep}

-- ---- the spelling

-- the number is that of a generation
abbrev pub IsGenerationNumber : ℕ → Type 0
IsGenerationNumber generation = (0 < generation) × (generation < 2 ^ 63)

-- the numbers of the name are such as a name can have
abbrev pub IsName : LuceneName → Type 0
IsName (Commit generation) = IsGenerationNumber generation
IsName (Part segment kind) = (segment ≤ greatest_segment) × IsPart kind
IsName (Del segment generation) = (segment ≤ greatest_segment) × IsGenerationNumber generation
IsName (Sep segment generation field) = (segment ≤ greatest_segment) × IsGenerationNumber generation × (field < 2 ^ 31)

-- the name of a segment, `_` and a generation
abbrev pub with_generation : ℕ → ℕ → List ℕ
with_generation segment generation = segment_name segment ++ (codes "_" ++ base36 generation)

-- the one spelling of the name
abbrev pub name_spelling : LuceneName → List ℕ
name_spelling (Commit generation) = codes "segments_" ++ base36 generation
name_spelling (Part segment kind) = part_name (segment_name segment) kind
name_spelling (Del segment generation) = part_name (with_generation segment generation) kinds.Del
name_spelling (Sep segment generation field) = part_name (with_generation segment generation) (kinds.Sep field)

-- the text is the spelling of the name
abbrev pub SpellsName : List ℕ → LuceneName → Type 0
SpellsName text name = IsName name × (text ≡ name_spelling name)

-- the text is a Lucene name
abbrev pub IsLuceneName : List ℕ → Type 0
IsLuceneName text = (name : LuceneName) × SpellsName text name

-- ---- the name that a text spells

-- the kind of a part by its extension; none where it is that of no part
abbrev pub part_kind_of : List ℕ → Option FileKind
part_kind_of text = find (λ kind. bytes_eq text (extension kind)) part_kinds

-- the number is that of a generation
abbrev pub is_generation_number : ℕ → Bool
is_generation_number generation = nat_lt 0 generation && nat_lt generation (2 ^ 63)

-- the numbers of the name are such as a name can have
abbrev pub is_name : LuceneName → Bool
is_name (Commit generation) = is_generation_number generation
is_name (Part segment kind) = nat_le segment greatest_segment && is_some (part_kind_of (extension kind))
is_name (Del segment generation) = nat_le segment greatest_segment && is_generation_number generation
is_name (Sep segment generation field) = nat_le segment greatest_segment && (is_generation_number generation && nat_lt field (2 ^ 31))

-- what stands before the first `_` after the one that leads, and what stands behind it
abbrev pub segment_digits : List ℕ → List ℕ
segment_digits stem = before_first (λ b. b == 95) (drop 1 stem)

abbrev pub generation_digits : List ℕ → List ℕ
generation_digits stem = after_first (λ b. b == 95) (drop 1 stem)

-- the file of a generation that a stem and an extension can name
abbrev pub generation_candidate : List ℕ → List ℕ → LuceneName
generation_candidate stem text =
    if bytes_eq text (extension kinds.Del) then Del (digits_value 36 (segment_digits stem)) (digits_value 36 (generation_digits stem))
    else Sep (digits_value 36 (segment_digits stem)) (digits_value 36 (generation_digits stem)) (digits_value 10 (drop 1 text))

-- the file of a segment that they can name, where the extension is that of this part, or of none
abbrev pub file_candidate : List ℕ → List ℕ → Option FileKind → LuceneName
file_candidate stem text (Some kind) = Part (digits_value 36 (drop 1 stem)) kind
file_candidate stem text None = generation_candidate stem text

-- the one name that a text can spell
abbrev pub candidate : List ℕ → LuceneName
candidate text =
    if slice_index text 0 == 95 then file_candidate (before_first (λ b. b == 46) text) (after_first (λ b. b == 46) text) (part_kind_of (after_first (λ b. b == 46) text))
    else Commit (digits_value 36 (drop 9 text))

-- the name, if it is one that the text spells
abbrev pub if_spelled_by : List ℕ → LuceneName → Option LuceneName
if_spelled_by text name = if is_name name && bytes_eq text (name_spelling name) then Some name else None

-- the name that a text spells; none where it spells none
abbrev pub lucene_name_in : List ℕ → Option LuceneName
lucene_name_in text = if_spelled_by text (candidate text)
