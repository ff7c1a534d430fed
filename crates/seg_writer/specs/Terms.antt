-- The terms of a column as terms of an index.
use Rattle.std.specs.Prelude.{ℕ, List, map}
use Rattle.lu_types.specs.Bits as bit
use Rattle.lu_types.specs.Bits.{has_bit}
use Rattle.lu_types.specs.Tables.{TableField}
use Rattle.lu_model.specs.Contents.{bits_of, field_number}
use Rattle.segment_files.specs.Postings.{KeptTerm}
use Rattle.seg_writer.specs.Entries.{entries_of_text}
use Rattle.seg_writer.specs.declared.appearance.Appearance.{Appearance}
use Rattle.seg_writer.specs.Texts.{texts_of}
use Rattle.seg_writer.specs.declared.terms.Kept.{Kept}
use Rattle.seg_writer.specs.declared.terms.KeptColumn.{KeptColumn}

-- the term of a text, with what its field keeps
abbrev pub term_in : Kept → List Appearance → List ℕ → KeptTerm
term_in kept column text = record {
  omit = kept.omit_tf;
  payloads = kept.payloads;
  term = record { field = kept.field; text = text; entries = entries_of_text kept.omit_tf text column };
}

-- what is kept of the terms of the field with a number and bits
abbrev pub kept_at : ℕ → ℕ → Kept
kept_at number bits = record { field = number; omit_tf = has_bit bit.omit_tf bits; payloads = has_bit bit.payloads bits }

-- what is kept of those of the field with a name
abbrev pub kept_in : List TableField → List ℕ → Kept
kept_in table name = kept_at (field_number name table) (bits_of name table)

-- those of texts
abbrev pub terms_in_columns : Kept → List Appearance → List (List ℕ) → List KeptTerm
terms_in_columns kept column texts = map (term_in kept column) texts

-- those of a column with what is kept of them
abbrev pub kept_column_terms : KeptColumn → List KeptTerm
kept_column_terms c = terms_in_columns c.kept c.column.now (texts_of c.column.now)
