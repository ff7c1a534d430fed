-- Where the fields of a table appear in documents.
use Rattle.std.specs.Prelude.{◌≡◌, ℕ, suc, ◌<◌, List, [], ◌∷◌, ◌++◌, length, map, find, Bool, Some, option_map, slice_index_or, slice_set, All}
use Rattle.std.specs.Option.{option_to_list}
use Rattle.std.specs.Global.{Global}
use Rattle.std.specs.Str.{bytes_eq}
use Rattle.std.specs.declared.vec.Vec.{Vec}
use Rattle.lu_types.specs.DocFaults.{AreApart}
use Rattle.lu_types.specs.Tables.{TableField, number_of}
use Rattle.lu_types.specs.declared.document.Document.{Document}
use Rattle.lu_types.specs.declared.document.IndexedField.{IndexedField}
use Rattle.lu_model.specs.Contents.{name_of}
use Rattle.seg_writer.specs.declared.appearance.Appearance.{Appearance}

-- a field of the document with a number
pub record Appeared : Type 0 where
  pub document : ℕ
  pub field : IndexedField

-- an appearance as contracts see it
abbrev pub appeared : Appearance → Appeared
appeared a = record { document = a.doc; field = a.field.now }

-- the field in the document with a number
abbrev pub appeared_in : ℕ → IndexedField → Appeared
appeared_in document field = record { document = document; field = field }

-- whether the field has the name
abbrev pub is_field_named : List ℕ → IndexedField → Bool
is_field_named name field = bytes_eq name field.field

-- where a name appears among the fields of the document with a number
abbrev pub found_in : List ℕ → ℕ → List IndexedField → List Appeared
found_in name document fields = option_to_list (option_map (appeared_in document) (find (is_field_named name) fields))

-- where it appears in documents that are numbered from here on
abbrev pub column_from : List ℕ → ℕ → List Document → List Appeared
column_from name number [] = []
column_from name number (doc ∷ docs) = found_in name number doc.indexed ++ column_from name (suc number) docs

-- the names of fields
abbrev pub names_of_indexed : List IndexedField → List (List ℕ)
names_of_indexed fields = map (λ field. field.field) fields

-- no two of the indexed fields of a document have one name
abbrev pub HasApartFields : Document → Type 0
HasApartFields doc = AreApart (names_of_indexed doc.indexed)

-- each field of the table is the first with its name
abbrev pub AreFirst : List TableField → Type 0
AreFirst table = (n : ℕ) → n < length table → number_of (name_of table n) table ≡ Some n

-- the columns of the fields of a table, by number, each over the lists that they had, have these besides
abbrev pub HaveMore : (ℕ → List Appeared) → List (Vec Appearance Global) → List (Vec Appearance Global) → Type 0
HaveMore more old new = (length new ≡ length old)
    × ((n : ℕ) (d : Vec Appearance Global) → n < length old → map appeared (slice_index_or new n d).items ≡ map appeared (slice_index_or old n d).items ++ more n)

-- these are the columns of the fields of a table in documents
abbrev pub AreFieldColumns : List TableField → List Document → List (Vec Appearance Global) → Type 0
AreFieldColumns table docs columns = (length columns ≡ length table)
    × ((n : ℕ) (d : Vec Appearance Global) → n < length table → map appeared (slice_index_or columns n d).items ≡ column_from (name_of table n) 0 docs)

-- so many columns in which nothing appears
abbrev pub AreEmpty : ℕ → List (Vec Appearance Global) → Type 0
AreEmpty count columns = (length columns ≡ count) × All (λ column. column.items ≡ []) columns

-- the column with a number has one appearance more, seen so, and the others are as before
pub record IsPushed (number : ℕ) (seen : Appeared) (old new : List (Vec Appearance Global)) : Type 0 where
  pub added : Appearance
  pub column : Vec Appearance Global
  pub is : appeared added ≡ seen
  pub grown : column.items ≡ (slice_index_or old number column).items ++ added ∷ []
  pub set_there : new ≡ slice_set old number column
