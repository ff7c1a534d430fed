-- The terms of all columns, field by field.
use Rattle.std.specs.Prelude.{◌≡◌, ℕ, ◌<◌, ◌^◌, List, map, flat_map, All, Contains, IsSome}
use Rattle.std.specs.Global.{Global}
use Rattle.std.specs.List.Sorted.{IsStrictlySortedBy}
use Rattle.std.specs.Str.{IsUtf8}
use Rattle.std.specs.declared.vec.Vec.{Vec}
use Rattle.lu_prims.specs.Order.{text_cmp}
use Rattle.lu_types.specs.declared.document.Document.{Document}
use Rattle.lu_types.specs.declared.document.IndexedField.{IndexedField}
use Rattle.lu_model.specs.Index.{Term}
use Rattle.seg_writer.specs.declared.appearance.Appearance.{Appearance}
use Rattle.seg_writer.specs.Appearing.{AreFieldColumns, HasApartFields, appeared, column_from}
use Rattle.lu_types.specs.Documents.{IsDocument}
use Rattle.lu_types.specs.Tables.{TableField, number_of}
use Rattle.segment_files.specs.Postings.{KeptTerm}
use Rattle.seg_writer.specs.Entries.{IsColumn}
use Rattle.seg_writer.specs.declared.terms.KeptColumn.{KeptColumn}
use Rattle.seg_writer.specs.Terms.{kept_in, terms_in_columns}
use Rattle.seg_writer.specs.Texts.{texts_of}

-- the column of a field: the field's name, and where it appears
pub record NamedColumn : Type 0 where
  pub name : List ℕ
  pub column : List Appearance

-- the terms of a column
abbrev pub terms_of_column : NamedColumn → List Term
terms_of_column c = map (λ text. record { field = c.name; text = text }) (texts_of c.column)

-- those of columns in turn
abbrev pub terms_of_columns : List NamedColumn → List Term
terms_of_columns columns = flat_map terms_of_column columns

-- these are the columns of all indexed fields of documents, in the order of their names
pub record AreAllColumns (docs : List Document) (columns : List NamedColumn) : Type 0 where
  pub rise : IsStrictlySortedBy text_cmp (map (λ c. c.name) columns)
  pub each : (c : NamedColumn) → Contains columns c → map appeared c.column ≡ column_from c.name 0 docs
  pub all : (doc : Document) (field : IndexedField) → Contains docs doc → Contains doc.indexed field → Contains (map (λ c. c.name) columns) field.field

-- what is written of columns in turn, under a table
abbrev pub written_terms : List TableField → List NamedColumn → List KeptTerm
written_terms table columns = flat_map (λ c. terms_in_columns (kept_in table c.name) c.column (texts_of c.column)) columns

-- the columns are those of documents, whose indexed fields are all in the table
pub record AreColumnsOf (table : List TableField) (docs : List Document) (columns : List (Vec Appearance Global)) : Type 0 where
  pub apart : All HasApartFields docs
  pub made : All IsDocument docs
  pub there : (doc : Document) (field : IndexedField) → Contains docs doc → Contains doc.indexed field → IsSome (number_of field.field table)
  pub fields : AreFieldColumns table docs columns

-- a column with its field's name
abbrev pub named_column : KeptColumn → NamedColumn
named_column c = record { name = c.name.now; column = c.column.now }

-- each of these is a column of a field of the table, with what is kept of its terms
pub record AreKeptColumns (table : List TableField) (columns : List (Vec Appearance Global)) (kept : List KeptColumn) : Type 0 where
  pub utf8 : All (λ c. IsUtf8 c.name.now) kept
  pub is_kept : All (λ c. c.kept ≡ kept_in table c.name.now) kept
  pub sound : All (λ c. IsColumn c.column.now × (c.kept.field < 2 ^ 31)) kept
  pub each : (docs : List Document) → AreFieldColumns table docs columns → All (λ c. map appeared c.column.now ≡ column_from c.name.now 0 docs) kept
