-- The uses of a column in the order in which they are sorted: those of one text come one after another.
use Rattle.std.specs.Prelude.{◌≡◌, ℕ, suc, ◌==◌, Bool, true, false, cond, List, [], ◌∷◌, ◌++◌, ◌<◌, length, map, slice_get, drop, All, IsPermutation, IsUtf8}
use Rattle.std.specs.declared.cmp.Ordering.{Ordering}
use Rattle.std.specs.Ordering.{nat_cmp, ordering_then}
use Rattle.std.specs.Cmp.Lexicographic.{slice_cmp}
use Rattle.std.specs.List.{filter, flat_map, IsDistinct}
use Rattle.std.specs.List.Sorted.{IsSorted}
use Rattle.std.specs.Option.{option_map_or}
use Rattle.std.specs.Str.{bytes_eq}
use Rattle.lu_types.specs.declared.document.Token.{Token}
use Rattle.seg_writer.specs.declared.appearance.Appearance.{Appearance}
use Rattle.seg_writer.specs.declared.inverted.Use.{Use}
use Rattle.seg_writer.specs.declared.inverted.Inverted.{Inverted}
use Rattle.seg_writer.specs.Columns.{all_uses, tokens_in_field}
use Rattle.seg_writer.specs.Heads.{is_whole, text_head}

-- the text of a use in a column, empty where the column has no such token
abbrev pub text_at : List Appearance → Use → List ℕ
text_at column here =
    option_map_or (λ (a : Appearance). option_map_or (λ (t : Token). t.text) (slice_get (tokens_in_field a) here.token) [])
    (slice_get column here.entry) []

-- the text, as far as the head does not tell it
abbrev pub untold_text : List Appearance → Use → List ℕ
untold_text column here = cond (is_whole here.head) [] (text_at column here)

-- how two uses stand to each other by their numbers
abbrev pub place_cmp : Use → Use → Ordering
place_cmp a b = ordering_then (nat_cmp a.entry b.entry) (nat_cmp a.token b.token)

-- how they do where their heads are the same
abbrev pub untold_cmp : List Appearance → Use → Use → Ordering
untold_cmp column a b = ordering_then (slice_cmp nat_cmp (untold_text column a) (untold_text column b)) (place_cmp a b)

-- how they do: by their heads, then by their texts, then by their numbers
abbrev pub use_cmp : List Appearance → Use → Use → Ordering
use_cmp column a b = ordering_then (nat_cmp a.head b.head) (untold_cmp column a b)

-- whether a use has a text with this head
abbrev pub has_text : List Appearance → ℕ → List ℕ → Use → Bool
has_text column head text here = cond (here.head == head) (cond (is_whole head) true (bytes_eq text (text_at column here))) false

-- whether its token has this text
abbrev pub is_of : List Appearance → List ℕ → Use → Bool
is_of column text here = bytes_eq text (text_at column here)

-- how many of the first uses pass a test
abbrev pub lead_length : (Use → Bool) → List Use → ℕ
lead_length test [] = 0
lead_length test (here ∷ uses) = cond (test here) (suc (lead_length test uses)) 0

-- these are all uses of a column, in order
pub record AreSortedUses (column : List Appearance) (uses : List Use) : Type 0 where
  pub all : IsPermutation (all_uses column) uses
  pub sorted : IsSorted (use_cmp column) uses
  pub utf8 : All (λ here. IsUtf8 (text_at column here)) uses
  pub own : All (λ (here : Use). here.head ≡ text_head (text_at column here)) uses

-- the uses that a list of texts has for a text
abbrev pub listed_uses : List ℕ → List Inverted → List Use
listed_uses text terms = flat_map (λ (t : Inverted). cond (bytes_eq text t.text.now) t.uses.now []) terms

-- these texts, each once with its uses, are those of sorted uses without the last ones, which have other texts
pub record AreGrouped (column : List Appearance) (uses : List Use) (terms : List Inverted) (rest : List Use) : Type 0 where
  pub passed : ℕ
  pub left : rest ≡ drop passed uses
  pub listed : (text : List ℕ) → listed_uses text terms ++ filter (is_of column text) rest ≡ filter (is_of column text) uses
  pub some : All (λ (t : Inverted). 0 < length t.uses.now) terms
  pub utf8 : All (λ (t : Inverted). IsUtf8 t.text.now) terms
  pub distinct : IsDistinct bytes_eq (map (λ (t : Inverted). t.text.now) terms)
  pub past : All (λ (t : Inverted). filter (is_of column t.text.now) rest ≡ []) terms
