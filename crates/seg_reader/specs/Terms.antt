-- The terms of a segment that is read, and the one that is sought (docs/FORMAT.md, "Indexes").
use Rattle.std.specs.Prelude.{◌≡◌, ℕ, Bool, ◌&&◌, List, [], length, Option, Some, slice_get, slice_index_or}
use Rattle.std.specs.List.{find}
use Rattle.std.specs.Str.{bytes_eq}
use Rattle.lu_types.specs.Tables.{TableField}
use Rattle.lu_model.specs.Index.{IndexedTerm, Index}
use Rattle.lu_model.specs.Contents.{field_at}
use Rattle.term_dict.specs.Terms.{DictionaryTerm}
use Rattle.check_index.specs.Segments.{SegmentValue}

-- no term
abbrev pub no_term : IndexedTerm
no_term = record { field = 0; text = []; entries = [] }

-- the term of the index with a number, from 0
abbrev pub term_at : SegmentValue → ℕ → IndexedTerm
term_at s n = slice_index_or s.index.terms n no_term

-- the term has this text in the field of this name
abbrev pub has_name : List TableField → List ℕ → List ℕ → IndexedTerm → Bool
has_name fields field text t = bytes_eq (field_at t.field fields).name field && bytes_eq t.text text

-- the term of an index with this text in the field of this name, where there is one
abbrev pub term_named : Index → List ℕ → List ℕ → Option IndexedTerm
term_named index field text = find (has_name index.fields field text) index.terms

-- what the dictionary says of a term is so of the index's: its field, its text, and in how many documents it stands
pub record IsSaidOf (said : DictionaryTerm) (term : IndexedTerm) : Type 0 where
  pub field : term.field ≡ said.info.field
  pub text : term.text ≡ said.text
  pub documents : length term.entries ≡ said.info.doc_freq

-- the dictionary speaks of the index's terms, one after another
pub record AreSaid (s : SegmentValue) : Type 0 where
  pub count : length s.index.terms ≡ length s.dictionary.terms
  pub each : (n : ℕ) (said : DictionaryTerm) → slice_get s.dictionary.terms n ≡ Some said → IsSaidOf said (term_at s n)
