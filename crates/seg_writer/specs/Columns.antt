-- The fields of documents, column by column, and the tokens in them by their texts.
use Rattle.std.specs.Prelude.{ℕ, suc, ◌<◌, ◌^◌, if◌then◌else◌, List, [], ◌∷◌, ◌++◌, length, All}
use Rattle.std.specs.Str.{bytes_eq}
use Rattle.lu_types.specs.declared.document.Token.{Token}
use Rattle.seg_writer.specs.declared.appearance.Appearance.{Appearance}
use Rattle.seg_writer.specs.declared.inverted.Use.{Use}
use Rattle.seg_writer.specs.Heads.{text_head}

-- a token as a use: that with this number, of the field with that number in the column, which is the document's
abbrev pub use_of : Token → ℕ → ℕ → ℕ → Use
use_of t doc entry token = record { head = text_head t.text; entry = entry; token = token; doc = doc; position = t.position }

-- the use of a text that a token is, or none
abbrev pub uses_here : List ℕ → ℕ → ℕ → ℕ → Token → List Use
uses_here text doc entry n t = if bytes_eq text t.text then use_of t doc entry n ∷ [] else []

-- the uses of a text among tokens that are numbered from here on
abbrev pub uses_among : List ℕ → ℕ → ℕ → ℕ → List Token → List Use
uses_among text doc entry n [] = []
uses_among text doc entry n (t ∷ ts) = uses_here text doc entry n t ++ uses_among text doc entry (suc n) ts

-- the tokens of a field of a column
abbrev pub tokens_in_field : Appearance → List Token
tokens_in_field here = here.field.now.tokens

-- the uses of a text in fields that are numbered from here on
abbrev pub uses_from : List ℕ → ℕ → List Appearance → List Use
uses_from text entry [] = []
uses_from text entry (a ∷ column) = uses_among text a.doc entry 0 (tokens_in_field a) ++ uses_from text (suc entry) column

-- the uses of a text in a column
abbrev pub uses_of : List ℕ → List Appearance → List Use
uses_of text column = uses_from text 0 column

-- all tokens as uses, numbered from here on
abbrev pub token_uses : ℕ → ℕ → ℕ → List Token → List Use
token_uses doc entry n [] = []
token_uses doc entry n (t ∷ ts) = use_of t doc entry n ∷ token_uses doc entry (suc n) ts

-- those of fields that are numbered from here on
abbrev pub field_uses : ℕ → List Appearance → List Use
field_uses entry [] = []
field_uses entry (a ∷ column) = token_uses a.doc entry 0 (tokens_in_field a) ++ field_uses (suc entry) column

-- those of a column
abbrev pub all_uses : List Appearance → List Use
all_uses column = field_uses 0 column

-- a column whose fields and tokens can be numbered
pub record IsNumberable (column : List Appearance) : Type 0 where
  pub fields : length column < 2 ^ 31
  pub tokens : All (λ a. length (tokens_in_field a) < 2 ^ 31) column
