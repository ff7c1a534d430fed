-- The texts of a column.
use Rattle.std.specs.Prelude.{◌≡◌, ℕ, ◌<◌, List, length, map, All, Contains, flat_map}
use Rattle.std.specs.List.Sorted.{IsStrictlySortedBy}
use Rattle.std.specs.Str.{IsUtf8}
use Rattle.lu_prims.specs.Order.{text_cmp}
use Rattle.lu_model.specs.Index.{in_order}
use Rattle.seg_writer.specs.declared.appearance.Appearance.{Appearance}
use Rattle.seg_writer.specs.declared.inverted.Inverted.{Inverted}
use Rattle.seg_writer.specs.Columns.{tokens_in_field, uses_of}

-- the texts alone
abbrev pub texts_in : List Inverted → List (List ℕ)
texts_in terms = map (λ (t : Inverted). t.text.now) terms

-- these are the texts of a column: they rise, each has exactly its uses, at least one, and each text that a token has is there
pub record AreInverted (column : List Appearance) (terms : List Inverted) : Type 0 where
  pub rise : IsStrictlySortedBy text_cmp (texts_in terms)
  pub uses : All (λ (t : Inverted). (t.uses.now ≡ uses_of t.text.now column) × (0 < length t.uses.now)) terms
  pub utf8 : All (λ (t : Inverted). IsUtf8 t.text.now) terms
  pub complete : (text : List ℕ) → 0 < length (uses_of text column) → Contains (texts_in terms) text

-- the texts of the tokens of a column
abbrev pub column_texts : List Appearance → List (List ℕ)
column_texts column = flat_map (λ a. map (λ token. token.text) (tokens_in_field a)) column

-- each once, in their order
abbrev pub texts_of : List Appearance → List (List ℕ)
texts_of column = in_order text_cmp (column_texts column)
